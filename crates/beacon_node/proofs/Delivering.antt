-- A node takes its events one after the other.
use Rattle.std.proofs.Common.{◌≡◌, ◌∙◌, ℕ, ◌+◌, ◌-◌, ◌<◌, ◌≤◌, ◌^◌, List, [], ◌∷◌, ◌++◌, length, get_or, drop, map, reverse, filter_map, slice_get, Option, Some, None, Result, Ok, refl, ap, sym, subst, append_assoc, append-nil, arith}
use Rattle.std.specs.Option.{option_map, option_and_then}
use Rattle.std.proofs.lemmas.List.{map_push, reverse-append, drop_more, drop_all}
use Rattle.std.proofs.lemmas.List.Elements.{All-nil, All-push}
use Rattle.std.proofs.lemmas.Option.{slice_get-get_or}
use Rattle.hash_tree.specs.Merkle.{hash}
use Rattle.bc_preset.specs.declared.configuration.ConfigValues.{ConfigValues}
use Rattle.bc_words.specs.Events.{EventOutcome, accepted, event_refused}
use Rattle.bc_words.specs.declared.refusal.Refusal.{Refusal}
use Rattle.beacon_types.specs.declared.block.BeaconBlock.{BeaconBlock}
use Rattle.ssz_codec.specs.Lawful.{IsBytes}
use Rattle.record_file.specs.Record as record_file
use Rattle.record_file.specs.declared.event.Event.{Event}
use Rattle.spec_state.specs.declared.plain.PlainState.{PlainState}
use Rattle.spec_fork_choice.specs.Store.{KeptBlock, Store, block_of}
use Rattle.spec_fork_choice.specs.GetForkchoiceStore.{genesis_store}
use Rattle.spec_fork_choice.specs.OnBlock.{BlockIn}
use Rattle.spec_fork_choice.specs.OnEvent.{Accepted, block, other, genesis_clash}
use Rattle.spec_forensics.specs.Histories.{AcceptedBlock, with_event}
use Rattle.spec_forensics.specs.Clash.{clash_among}
use Rattle.safety_law.specs.Follows.{Follows, IsAdded}
use Rattle.safety_law.proofs.Followed.{added_event, begins_followed, block_is_added, event_followed}
use Rattle.epoch_visitor.specs.Shown.{shown_all}
use Rattle.forensics.specs.Watches.{PlainWatch, with_entered}
use Rattle.forensics.proofs.Watches.{watched}
use Rattle.fork_store.specs.Events.{entered_of}
use Rattle.spec_replay.specs.Run.{Run, End, clash, done, event_then, limited, replay_events, with_events}
use Rattle.spec_replay.specs.Lines.{accepted_text, event_line, refusal_text}
use Rattle.spec_replay.specs.Drill.{Tally, tally_of}
use Rattle.spec_replay.specs.Forensic.{Followed, clash_of_accepted, follow, follow_events, follow_then, unless_clash}
use Rattle.spec_replay.specs.Nodes.{all_of, node_line, node_text}
use Rattle.beacon_node.specs.declared.node.Node as code
use Rattle.beacon_node.specs.declared.node.NodeBlock.{NodeBlock}
use Rattle.one_chain.specs.declared.status.Status.{Status}
use Rattle.one_chain.specs.declared.status.Status.TheVariants as statuses
use Rattle.beacon_node.specs.inside.Following.{EventFollowed, IsInside}
use Rattle.beacon_node.specs.inside.Histories.{IsGenesis, IsOpened, OpeningEnds}
use Rattle.one_chain.specs.inside.Progress.{HasLine, IsCounted, outcome_of}
use Rattle.beacon_node.specs.inside.Nodes.{AreKept, CanKeep, HasRun, IsNode, NodeEnds, OneTaken, StopsAt, added_of, followed_in, history_in, lines_left, node_left, plain_node, tally_left}
use Rattle.beacon_node.proofs.Beginnings.{begins}
use Rattle.beacon_node.proofs.Following.{none_among}
use Rattle.beacon_node.proofs.Openings.{one_kept}

-- ---- a node that was delivered nothing

pub new_is_node : (config : ConfigValues) (genesis : PlainState) (node : code.Node) → IsGenesis config genesis → IsOpened config genesis node.store.plain → node.blocks.items ≡ [] → IsNode config genesis node
new_is_node config genesis node good opened none = record {
  follows = rw (none, opened.is) (begins_followed config genesis (begins config genesis good opened.none));
  kept = record { clear = rw none tt; watches = rw none (All-nil (λ (b : NodeBlock). b.watch.genesis ≡ genesis)) };
}

-- ---- a block more

-- one entry more
pub history_more : (blocks : List NodeBlock) (b : NodeBlock) → history_in (blocks ++ b ∷ []) ≡ added_of b ∷ history_in blocks
history_more blocks b = ap (λ (xs : List AcceptedBlock). reverse xs) (map_push added_of blocks b) ∙ reverse-append (map added_of blocks) (added_of b ∷ [])

-- the block and the state that the store keeps of its root are those of the added one
kept_parts : (blocks : List KeptBlock) (root : List ℕ) (kept : KeptBlock) (b : BeaconBlock) (state : PlainState) → block_of blocks root ≡ Some kept → Some b ≡ option_map (λ (k : KeptBlock). k.block) (block_of blocks root)
    → Some state ≡ option_map (λ (k : KeptBlock). k.state) (block_of blocks root) → (b ≡ kept.block) × (state ≡ kept.state)
kept_parts blocks root kept b state found b_is state_is =
    let of_block : Some b ≡ Some kept.block = b_is ∙ ap (option_map (λ (k : KeptBlock). k.block)) found in
    let of_state : Some state ≡ Some kept.state = state_is ∙ ap (option_map (λ (k : KeptBlock). k.state)) found in
    (cc, cc)

module _ (config : ConfigValues) (genesis : PlainState) (blocks : List NodeBlock) (store : Store) (number : ℕ) (given : BlockIn) (added : IsAdded config genesis (history_in blocks) store number given)
    (entry : NodeBlock) (event_is : entry.event ≡ number) (root_is : entry.root ≡ given.root) (block_is : Some entry.block.value ≡ option_map (λ (k : KeptBlock). k.block) (block_of store.blocks given.root))
    (state_is : Some entry.state ≡ option_map (λ (k : KeptBlock). k.state) (block_of store.blocks given.root)) (watch_is : entry.watch ≡ record { genesis = genesis; entered = given.entered }) where
  abbrev one_added : AcceptedBlock
  one_added = record { event = number; root = given.root; block = added.kept.block; state = added.kept.state; entered = given.entered }

  same_added : added_of entry ≡ one_added
  same_added =
      let parts = kept_parts store.blocks given.root added.kept entry.block.value entry.state added.found block_is state_is in
      let saw : entry.watch.entered ≡ given.entered = ap (λ (w : PlainWatch). w.entered) watch_is in
      λ i. record { event = event_is i; root = root_is i; block = parts.0 i; state = parts.1 i; entered = saw i }

  grown : history_in (blocks ++ entry ∷ []) ≡ one_added ∷ history_in blocks
  grown = history_more blocks entry ∙ ap (λ (x : AcceptedBlock). x ∷ history_in blocks) same_added

  pub block_in_history : history_in (blocks ++ entry ∷ []) ≡ with_event number (history_in blocks) store (block given)
  block_in_history = grown ∙ sym (added_event config genesis (history_in blocks) store given number added)

  pub kept_more : AreKept genesis blocks → AreKept genesis (blocks ++ entry ∷ [])
  kept_more kept = record {
    clear = rw grown (added.clear, kept.clear);
    watches = All-push (λ (b : NodeBlock). b.watch.genesis ≡ genesis) blocks entry kept.watches (ap (λ (w : PlainWatch). w.genesis) watch_is);
  }

-- an event that is no block changes no history
pub other_in_history : (number : ℕ) (history : List AcceptedBlock) (store : Store) → history ≡ with_event number history store other
unfolding with_event
other_in_history number history store = refl

-- what the store accepted can be kept
pub can_keep : (genesis : PlainState) (blocks : List NodeBlock) (old mid : Store) (number : ℕ) (event : Event) (given : Accepted) (new seen : PlainWatch) → Follows old.config genesis (history_in blocks) old → IsBytes event.payload
    → outcome_of old event ≡ accepted (mid, given) → new ≡ record { genesis = genesis; entered = [] } → seen ≡ shown_all with_entered new (entered_of given) → CanKeep genesis blocks mid number seen given
can_keep genesis blocks old mid number event other new seen follows bytes took begun saw = tt
can_keep genesis blocks old mid number event (block given) new seen follows bytes took begun saw =
    let added = block_is_added old.config genesis (history_in blocks) old mid event.kind event.payload given number follows bytes took in
    let same : mid.config ≡ old.config = (event_followed old.config genesis (history_in blocks) old mid event.kind event.payload (block given) number follows bytes took).config_is in (
      subst (λ (c : ConfigValues). IsAdded c genesis (history_in blocks) mid number given) (sym same) added,
      saw ∙ ap (λ (w : PlainWatch). shown_all with_entered w given.entered) begun ∙ watched genesis given.entered,
    )

-- ---- an event more

-- the run of an event and of those behind it: the history
follow_more : (which number : ℕ) (old new : Followed) (event : Event) (later : List Event) → EventFollowed which [] number old (outcome_of old.store event) new
    → follow_events which [] number old (event ∷ later) record_file.done ≡ follow_events which [] (number + 1) new later record_file.done
unfolding follow_events
follow_more which number old new event later followed = followed (λ after. follow_events which [] (number + 1) after later record_file.done)

-- the lines
replay_more : (number : ℕ) (old new : Store) (event : Event) (line : List ℕ) (later : List Event) → HasLine number event old new line
    → (replay_events number old (event ∷ later) done).lines ≡ line ++ (replay_events (number + 1) new later done).lines
unfolding replay_events
replay_more number old new event line later has = ap (λ (run : Run). run.lines) (has (λ after. replay_events (number + 1) after later done))

-- and the counts
tally_more : (old new : Tally) (event : Event) (later : List Event) → IsCounted event old new → tally_of old (event ∷ later) ≡ tally_of new later
unfolding tally_of
tally_more old new event later is = ap (λ (tally : Tally). tally_of tally later) (sym is)

one_taken : (given : ℕ) (event : Event) (old new : code.Node) (line : List ℕ) → new.number ≡ old.number
    → EventFollowed old.number [] (given + 1) (followed_in old) (outcome_of old.store.plain event) (followed_in new)
    → HasLine (given + 1) event old.store.plain new.store.plain line → new.lines.items ≡ old.lines.items ++ line
    → IsCounted event (record { store = old.store.plain; events = given; accepted = old.accepted }) (record { store = new.store.plain; events = given + 1; accepted = new.accepted })
    → OneTaken given event old new
one_taken given event old new line same followed has wrote counted = record {
  number = same;
  left = λ later. rw same (follow_more old.number (given + 1) (followed_in old) (followed_in new) event later followed);
  lines = λ later.
      let rest : List ℕ = (replay_events (given + 1 + 1) new.store.plain later done).lines in
      ap (λ (xs : List ℕ). old.lines.items ++ xs) (replay_more (given + 1) old.store.plain new.store.plain event line later has)
      ∙ (sym (append_assoc old.lines.items line rest) ∙ ap (λ (xs : List ℕ). xs ++ rest) (sym wrote));
  tally = λ later. tally_more _ _ event later counted;
}

-- no block is compared with those of another history
by_found : (root : List ℕ) (found : Option KeptBlock) → option_and_then (λ (kept : KeptBlock). clash_among [] root kept.block) found ≡ None
by_found root None = refl
by_found root (Some kept) = sym (none_among root kept.block)

none_clashes : (store : Store) (given : Accepted) → clash_of_accepted [] store given ≡ None
unfolding clash_of_accepted
none_clashes store other = refl
none_clashes store (block given) = by_found given.root (block_of store.blocks given.root)

-- an event was accepted
module _ (before : ℕ) (event : Event) (old new : code.Node) (mid : Store) (given : Accepted) (took : outcome_of old.store.plain event ≡ accepted (mid, given)) (number : new.number ≡ old.number) (store : new.store.plain ≡ mid)
    (history : history_in new.blocks.items ≡ with_event (before + 1) (history_in old.blocks.items) mid given) where
  followed : EventFollowed old.number [] (before + 1) (followed_in old) (outcome_of old.store.plain event) (followed_in new)
  unfolding follow_then unless_clash
  followed = λ rest. rw (took, none_clashes mid given, store, history) refl

  has_line : HasLine (before + 1) event old.store.plain new.store.plain (event_line (before + 1) event.kind (accepted_text given) mid)
  unfolding event_then
  has_line = λ rest. rw (took, store) refl

  pub accepted_taken : new.accepted ≡ old.accepted + 1 → new.lines.items ≡ old.lines.items ++ event_line (before + 1) event.kind (accepted_text given) mid → OneTaken before event old new
  accepted_taken one lines = one_taken before event old new _ number followed has_line lines (rw (took, store, one) refl)

  pub accepted_is : (genesis : PlainState) → IsNode old.store.plain.config genesis old → IsBytes event.payload → AreKept genesis new.blocks.items → IsNode old.store.plain.config genesis new
  accepted_is genesis is bytes kept = record {
    follows = rw (store, history) (event_followed old.store.plain.config genesis (history_in old.blocks.items) old.store.plain mid event.kind event.payload given (before + 1) is.follows bytes took);
    kept = kept;
  }

-- an event was refused
module _ (before : ℕ) (event : Event) (old new : code.Node) (why : Refusal) (refused : outcome_of old.store.plain event ≡ event_refused why) (number : new.number ≡ old.number) (store : new.store.plain ≡ old.store.plain)
    (blocks : new.blocks.items ≡ old.blocks.items) where
  stays : EventFollowed old.number [] (before + 1) (followed_in old) (outcome_of old.store.plain event) (followed_in new)
  unfolding follow_then
  stays = λ rest. rw (refused, store, blocks) refl

  its_line : HasLine (before + 1) event old.store.plain new.store.plain (event_line (before + 1) event.kind (refusal_text why) old.store.plain)
  unfolding event_then
  its_line = λ rest. rw (refused, store) refl

  pub refused_taken : new.accepted ≡ old.accepted → new.lines.items ≡ old.lines.items ++ event_line (before + 1) event.kind (refusal_text why) old.store.plain → OneTaken before event old new
  refused_taken same lines = one_taken before event old new _ number stays its_line lines (rw (refused, store, same) refl)

  pub refused_is : (genesis : PlainState) → IsNode old.store.plain.config genesis old → IsNode old.store.plain.config genesis new
  refused_is genesis is = record { follows = rw (store, blocks) is.follows; kept = rw blocks is.kept }

-- the run ends at an event
module _ (before : ℕ) (event : Event) (node : code.Node) (later : List Event) where
  pub stops_left : (status : Status) → StopsAt status node.number (before + 1) (outcome_of node.store.plain event) → NodeEnds status (node_left (before + 1) node (event ∷ later))
  unfolding follow_events follow_then
  stops_left (statuses.Limit which number bound) h = λ on. (limited which number bound, refl, rw (h.0, h.1, h.2) refl)
  stops_left (statuses.Clash which number kind kept_which) h = λ on. (clash which number kind kept_which, refl, rw (h.0, h.1, h.2, h.3) refl)
  stops_left statuses.NoMemory h = λ on. absurd cc
  stops_left statuses.Done h = absurd h
  stops_left statuses.Words h = absurd h
  stops_left (statuses.Config fault) h = absurd h
  stops_left (statuses.Genesis part) h = absurd h
  stops_left (statuses.Record which number fault) h = absurd h
  stops_left statuses.ReadFault h = absurd h
  stops_left statuses.WriteFault h = absurd h
  stops_left (statuses.Deposits fault) h = absurd h
  stops_left (statuses.Duties fault) h = absurd h
  stops_left (statuses.Anchor fault) h = absurd h

pub stops_inside : (status : Status) (node number : ℕ) (outcome : EventOutcome (Store × Accepted)) → StopsAt status node number outcome → IsInside status
stops_inside (statuses.Limit which number bound) node event outcome h = record { done = λ is. cc; words = λ is. cc; read = λ is. cc; write = λ is. cc }
stops_inside (statuses.Clash which number kind kept_which) node event outcome h = record { done = λ is. cc; words = λ is. cc; read = λ is. cc; write = λ is. cc }
stops_inside statuses.NoMemory node event outcome h = record { done = λ is. cc; words = λ is. cc; read = λ is. cc; write = λ is. cc }
stops_inside statuses.Done node event outcome h = absurd h
stops_inside statuses.Words node event outcome h = absurd h
stops_inside (statuses.Config fault) node event outcome h = absurd h
stops_inside (statuses.Genesis part) node event outcome h = absurd h
stops_inside (statuses.Record which number fault) node event outcome h = absurd h
stops_inside statuses.ReadFault node event outcome h = absurd h
stops_inside statuses.WriteFault node event outcome h = absurd h
stops_inside (statuses.Deposits fault) node event outcome h = absurd h
stops_inside (statuses.Duties fault) node event outcome h = absurd h
stops_inside (statuses.Anchor fault) node event outcome h = absurd h

-- ---- all events

-- the event at the next place is the first of those that are to come
pub next_event : (events : List Event) (places : List ℕ) (index place : ℕ) (event : Event) → index < length places → place ≡ get_or places index 0 → place < length events → event ≡ get_or events place event
    → filter_map (slice_get events) (drop index places) ≡ event ∷ filter_map (slice_get events) (drop (index + 1) places)
next_event events places index place event low at inside is =
    let found : slice_get events (get_or places index 0) ≡ Some event = rw (← at) (slice_get-get_or events place event inside ∙ ap Some (sym is)) in
    rw (drop_more places index 0 low, found) refl

pub none_left : (events : List Event) (places : List ℕ) (index : ℕ) → length places ≤ index → filter_map (slice_get events) (drop index places) ≡ []
none_left events places index past = rw (drop_all index places past) refl

-- ---- so many of them, and then the others

-- So many of a node's events were taken, and these are to come: what comes of all of them is what comes of these.
pub record AreTaken (config : ConfigValues) (genesis : PlainState) (node : ℕ) (all : List Event) (taken : ℕ) (given : code.Node) (later : List Event) : Type 0 where
  pub number : given.number ≡ node
  pub is : IsNode config genesis given
  pub few : length given.store.plain.blocks ≤ taken + 1
  pub accepted : given.accepted ≤ taken
  pub left : follow node [] (genesis_store config genesis) (all_of all) ≡ node_left (taken + 1) given later
  pub lines : (with_events 1 (genesis_store config genesis) (all_of all)).lines ≡ lines_left (taken + 1) given later
  pub tally : tally_of (record { store = genesis_store config genesis; events = 0; accepted = 0 }) all ≡ tally_left taken given later
  pub counted : length all ≡ taken + length later

-- none yet
pub none_taken : (config : ConfigValues) (genesis : PlainState) (node : ℕ) (all later : List Event) (given : code.Node) → later ≡ all → given.number ≡ node → IsNode config genesis given → IsOpened config genesis given.store.plain
    → given.blocks.items ≡ [] → given.accepted ≡ 0 → given.lines.items ≡ [] → AreTaken config genesis node all 0 given later
none_taken config genesis node all later given same number is opened blocks counts lines = record {
  number = number;
  is = is;
  few = one_kept config genesis given.store.plain opened.is;
  accepted = omega (arith, counts);
  left = rw (same, number, opened.is, blocks) refl;
  lines = rw (same, opened.is, lines) refl;
  tally = rw (same, opened.is, counts) refl;
  counted = rw same (omega arith);
}

-- the configuration is the store's
pub own_config : (config : ConfigValues) (genesis : PlainState) (node : code.Node) → IsNode config genesis node → IsNode node.store.plain.config genesis node
own_config config genesis node is = subst (λ (c : ConfigValues). IsNode c genesis node) (sym is.follows.config_is) is

module _ (config : ConfigValues) (genesis : PlainState) (node : ℕ) (all : List Event) (taken : ℕ) (event : Event) (old : code.Node) (later : List Event) (h : AreTaken config genesis node all taken old (event ∷ later)) where
  -- one more
  pub one_more_taken : (new : code.Node) → OneTaken taken event old new → IsNode old.store.plain.config genesis new → length new.store.plain.blocks ≤ length old.store.plain.blocks + 1 → new.accepted ≤ taken + 1
      → AreTaken config genesis node all (taken + 1) new later
  one_more_taken new took is few counts = record {
    number = took.number ∙ h.number;
    is = subst (λ (c : ConfigValues). IsNode c genesis new) h.is.follows.config_is is;
    few = omega (arith, few, h.few);
    accepted = counts;
    left = h.left ∙ took.left later;
    lines = h.lines ∙ took.lines later;
    tally = h.tally ∙ took.tally later;
    counted = omega (arith, h.counted);
  }

  -- the run ends at it
  pub taken_over : (status : Status) → StopsAt status old.number (taken + 1) (outcome_of old.store.plain event) → NodeEnds status (follow node [] (genesis_store config genesis) (all_of all))
  taken_over status stops = λ on. let e = stops_left taken event old later status stops on in (e.0, e.1, h.left ∙ e.2)

-- all of them; then the head of its store is asked for, which leaves the plain store as it is
module _ (config : ConfigValues) (genesis : PlainState) (node : ℕ) (all : List Event) (taken : ℕ) (given : code.Node) (h : AreTaken config genesis node all taken given [])
    (new : code.Node) (number : new.number ≡ given.number) (store : new.store.plain ≡ given.store.plain) (blocks : new.blocks.items ≡ given.blocks.items) where
  pub all_followed : follow node [] (genesis_store config genesis) (all_of all) ≡ Ok (followed_in new)
  unfolding follow_events
  all_followed = h.left ∙ rw (store, blocks) refl

  pub all_line : (line : List ℕ) (many : ℕ) → length all ≡ many → line ≡ node_text node many given.accepted given.store.plain (hash given.lines.items) → line ≡ node_line (genesis_store config genesis) (plain_node all new)
  unfolding node_line replay_events tally_of
  all_line line many counted is =
      let lines_are : (with_events 1 (genesis_store config genesis) (all_of all)).lines ≡ given.lines.items = h.lines ∙ append-nil given.lines.items in
      is ∙ sym (rw (number, h.number, counted, h.tally, lines_are) refl)

  pub has_run : taken < 2 ^ 32 - 1 → HasRun config genesis new
  has_run less = record { is = record { follows = rw (store, blocks) h.is.follows; kept = rw blocks h.is.kept }; few = rw store (omega (arith, less, h.few)) }

-- the genesis doesn't clash, so that the store opens unless memory runs out
pub opening_ends_node : {A : Type 0} (genesis : PlainState) (status : Status) (left : Result A End) → genesis_clash genesis ≡ None → OpeningEnds status (genesis_clash genesis) → NodeEnds status left
opening_ends_node genesis status left none h = λ on. let e = h.clashes on in absurd (let no = sym none ∙ e.1 in cc)
