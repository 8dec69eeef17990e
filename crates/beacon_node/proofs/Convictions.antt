-- Two records that were followed: what they left are two histories, and a conflict of them convicts.
use Rattle.std.proofs.Common.{◌≡◌, ◌≢◌, ◌∙◌, ℕ, zero, suc, ◌+◌, Bool, true, false, List, [], ◌∷◌, length, take, drop, Option, Some, None, Result, Ok, Err, if◌then◌else◌, refl, sym, ap, subst, append-nil}
use Rattle.std.specs.Prelude.{nat_le, nat_lt}
use Rattle.std.specs.List.{AllByRecursion}
use Rattle.std.specs.Option.{option_and_then}
use Rattle.std.specs.Int.{w32, from_le_bytes}
use Rattle.bc_preset.specs.Presets.{IsPreset}
use Rattle.bc_preset.specs.declared.configuration.ConfigValues.{ConfigValues}
use Rattle.bc_words.specs.Events.{EventOutcome, accepted, event_refused, event_limited, event_clashes}
use Rattle.bc_words.specs.declared.store_stop.ClashKind.{ClashKind}
use Rattle.ssz_codec.specs.Lawful.{IsBytes}
use Rattle.ssz_codec.specs.laws.Layout.{IsBytes-drop, IsBytes-take}
use Rattle.record_file.specs.Record as record_file
use Rattle.record_file.specs.Record.{Events, FrameRead, ended, events_from, events_of, events_under, fault_event, faulted, frame_of, framed, is_kind_of, longest_payload, most_events, payload_of, sized_of, version_of, with_event}
use Rattle.record_file.specs.declared.event.Event.{Event}
use Rattle.record_file.specs.declared.fault.RecordFault.TheVariants.{BadKind, TooLong, TooMany, Torn}
use Rattle.record_file.specs.declared.version.Version.{Version}
use Rattle.spec_state.specs.Genesis.{checked_genesis, genesis_fault, genesis_of, sound_genesis}
use Rattle.spec_state.specs.States.{state_codec}
use Rattle.spec_state.specs.declared.fault.GenesisFault.{GenesisFault}
use Rattle.spec_state.specs.declared.fault.GenesisFault.TheVariants as parts
use Rattle.spec_state.specs.declared.plain.PlainState.{PlainState}
use Rattle.spec_state.proofs.Limits.{read_is_in_range, read_is_state}
use Rattle.spec_fork_choice.specs.Store.{KeptBlock, Store, block_of}
use Rattle.spec_fork_choice.specs.Clash.{clash_among}
use Rattle.spec_fork_choice.specs.GetForkchoiceStore.{genesis_store}
use Rattle.spec_fork_choice.specs.OnBlock.{BlockIn}
use Rattle.spec_fork_choice.specs.OnEvent.{Accepted, block, genesis_clash, on_event, other}
use Rattle.spec_forensics.proofs.Carried.{all_carried}
use Rattle.spec_forensics.specs.CarriedVotes.{all_votes}
use Rattle.spec_forensics.specs.Clash.{first_accepted}
use Rattle.spec_forensics.specs.Histories as histories
use Rattle.spec_forensics.specs.Histories.{AcceptedBlock, IsStepOn}
use Rattle.spec_forensics.specs.Verdict.{offences_of}
use Rattle.safety_law.specs.Follows.{Follows}
use Rattle.safety_law.specs.Histories.{AreHistories, Begins}
use Rattle.safety_law.proofs.Followed.{added_event, begins_followed, block_is_added, event_followed}
use Rattle.safety_law.proofs.Growing.{first_grows, none_yet, second_grows}
use Rattle.safety_law.proofs.Judge.{verdict_convicts}
use Rattle.spec_replay.specs.Run.{End, Run, done}
use Rattle.spec_replay.specs.Forensic.{Followed, behind_first, clash_of_accepted, follow, follow_end, follow_events, follow_then, judge, told_of, unless_clash, with_first, with_genesis, with_second, with_state, with_store}
use Rattle.spec_replay.specs.declared.report.Report.{Report}
use Rattle.beacon_node.specs.laws.Convictions.{ConvictsOfTheRecords, FindsOut}
use Rattle.beacon_node.proofs.Beginnings.{clear_begins}
use Rattle.beacon_node.proofs.Found.{conflict_is}
use Rattle.beacon_node.proofs.Following.{clear_of_both, genesis_clear}
use Rattle.beacon_node.proofs.SlashingRecords.{accuses}

-- ---- the payloads of a record are bytes

abbrev pub AreBytes : List Event → Type 0
AreBytes events = AllByRecursion (λ (e : Event). IsBytes e.payload) events

abbrev FrameBytes : FrameRead → Type 0
FrameBytes ended = Unit {0}
FrameBytes (faulted reason) = Unit {0}
FrameBytes (framed event rest) = IsBytes event.payload × IsBytes rest

payload_bytes : (kind size : ℕ) (bytes : List ℕ) → IsBytes bytes → FrameBytes (payload_of kind size bytes)
unfolding payload_of
payload_bytes kind size bytes ok = by (nat_lt longest_payload size) (nat_lt (length bytes) size)
  where
    by : (a b : Bool) → FrameBytes (if a then faulted (TooLong size) else if b then faulted Torn else framed (record { kind = kind; payload = take size bytes }) (drop size bytes))
    by true b = tt
    by false true = tt
    by false false = (IsBytes-take size bytes ok, IsBytes-drop size bytes ok)

sized_bytes : (kind : ℕ) (bytes : List ℕ) → IsBytes bytes → FrameBytes (sized_of kind bytes)
unfolding sized_of
sized_bytes kind bytes ok = by (nat_lt (length bytes) 4)
  where
    by : (a : Bool) → FrameBytes (if a then faulted Torn else payload_of kind (from_le_bytes w32 (take 4 bytes)) (drop 4 bytes))
    by true = tt
    by false = payload_bytes kind (from_le_bytes w32 (take 4 bytes)) (drop 4 bytes) (IsBytes-drop 4 bytes ok)

frame_bytes : (version : Version) (events : ℕ) (bytes : List ℕ) → IsBytes bytes → FrameBytes (frame_of version events bytes)
unfolding frame_of
frame_bytes version events [] ok = tt
frame_bytes version events (kind ∷ bytes) ok = by (nat_le most_events events) (is_kind_of version kind)
  where
    by : (a b : Bool) → FrameBytes (if a then faulted TooMany else if b then sized_of kind bytes else faulted (BadKind kind))
    by true b = tt
    by false true = sized_bytes kind bytes (λ i. ok (suc i))
    by false false = tt

events_bytes : (version : Version) (room events : ℕ) (bytes : List ℕ) → IsBytes bytes → AreBytes (events_from version room events bytes).events
unfolding events_from
events_bytes version zero events [] ok = tt
events_bytes version zero events (_ ∷ _) ok = tt
events_bytes version (suc room) events bytes ok = by (λ rest rest_ok. events_bytes version room (events + 1) rest rest_ok) (frame_of version events bytes) (frame_bytes version events bytes ok)
  where
    by : ((rest : List ℕ) → IsBytes rest → AreBytes (events_from version room (events + 1) rest).events) → (f : FrameRead) → FrameBytes f → AreBytes (elim f as (λ _. Events) [
      | ended ↦ record { events = []; end = record_file.done }
      | faulted reason ↦ record { events = []; end = record_file.fault (fault_event events reason) reason }
      | framed event rest ↦ with_event event (events_from version room (events + 1) rest)
    ]).events
    by later ended h = tt
    by later (faulted reason) h = tt
    by later (framed event rest) h = (h.0, later rest h.1)

record_bytes : (bytes : List ℕ) → IsBytes bytes → AreBytes (events_of bytes).events
unfolding events_of
record_bytes bytes ok = by (version_of (take 4 bytes))
  where
    by : (version : Option Version) → AreBytes (events_under version (drop 4 bytes)).events
    by (Some version) = events_bytes version most_events 0 (drop 4 bytes) (IsBytes-drop 4 bytes ok)
    by None = tt

-- ---- a record that is followed

-- no event ends a run as one that came to its end
abbrev NotDone : Result Followed End → Type 0
NotDone (Ok left) = Unit {0}
NotDone (Err end) = end ≢ done

unless_not : (which number : ℕ) (found : Option ℕ) (rest : Result Followed End) → NotDone rest → NotDone (unless_clash which number found rest)
unfolding unless_clash
unless_not which number (Some place) rest not = λ is. cc
unless_not which number None rest not = not

then_not : (which : ℕ) (others : List KeptBlock) (number : ℕ) (followed : Followed) (outcome : EventOutcome (Store × Accepted)) (rest : Followed → Result Followed End) → ((after : Followed) → NotDone (rest after))
    → NotDone (follow_then which others number followed outcome rest)
unfolding follow_then
then_not which others number followed (accepted new) rest not = unless_not which number (clash_of_accepted others new.0 new.1) _ (not _)
then_not which others number followed (event_refused why) rest not = not followed
then_not which others number followed (event_limited bound) rest not = λ is. cc
then_not which others number followed (event_clashes kind) rest not = λ is. cc

end_not : (which : ℕ) (followed : Followed) (end : record_file.End) → NotDone (follow_end which followed end)
end_not which followed record_file.done = tt
end_not which followed (record_file.fault event reason) = λ is. cc
end_not which followed (record_file.limited event bound) = λ is. cc

events_not : (which : ℕ) (others : List KeptBlock) (number : ℕ) (followed : Followed) (events : List Event) (end : record_file.End) → NotDone (follow_events which others number followed events end)
unfolding follow_events
events_not which others number followed [] end = end_not which followed end
events_not which others number followed (event ∷ events) end =
    then_not which others number followed (on_event followed.store event.kind event.payload) (λ after. follow_events which others (number + 1) after events end) (λ after. events_not which others (number + 1) after events end)

unless_none : (which number : ℕ) (found : Option ℕ) (rest : Result Followed End) (left : Followed) → unless_clash which number found rest ≡ Ok left → (found ≡ None) × (rest ≡ Ok left)
unfolding unless_clash
unless_none which number (Some place) rest left is = absurd cc
unless_none which number None rest left is = (refl, is)

-- what holds of the history of a store, and stays so with each block that is no other content of another one's root
module _ (config : ConfigValues) (genesis : PlainState) (which : ℕ) (others : List KeptBlock) (P : List AcceptedBlock → Type 0)
    (grow : (b : AcceptedBlock) (history : List AcceptedBlock) → P history → IsStepOn config genesis history b → clash_among (first_accepted genesis history) b.root b.block ≡ None → clash_among others b.root b.block ≡ None → P (b ∷ history)) where
  abbrev Good : Followed → Type 0
  Good followed = Follows config genesis followed.history followed.store × P followed.history

  clear_kept : (store : Store) (given : BlockIn) (kept : KeptBlock) → block_of store.blocks given.root ≡ Some kept → clash_of_accepted others store (block given) ≡ None → clash_among others given.root kept.block ≡ None
  unfolding clash_of_accepted
  clear_kept store given kept found none = sym (ap (option_and_then (λ (k : KeptBlock). clash_among others given.root k.block)) found) ∙ none

  accepted_good : (number : ℕ) (followed : Followed) (kind : ℕ) (payload : List ℕ) (new : Store) (given : Accepted) → Good followed → IsBytes payload → on_event followed.store kind payload ≡ accepted (new, given)
      → clash_of_accepted others new given ≡ None → Good (record { store = new; history = histories.with_event number followed.history new given })
  unfolding histories.with_event
  accepted_good number followed kind payload new other good bytes is none = (event_followed config genesis followed.history followed.store new kind payload other number good.0 bytes is, good.1)
  accepted_good number followed kind payload new (block given) good bytes is none =
      let added = block_is_added config genesis followed.history followed.store new kind payload given number good.0 bytes is in
      let x : AcceptedBlock = record { event = number; root = given.root; block = added.kept.block; state = added.kept.state; entered = given.entered } in (
        event_followed config genesis followed.history followed.store new kind payload (block given) number good.0 bytes is,
        subst P (sym (added_event config genesis followed.history new given number added)) (grow x followed.history good.1 added.step added.clear (clear_kept new given added.kept added.found none)),
      )

  one_event : (number : ℕ) (followed left : Followed) (kind : ℕ) (payload : List ℕ) (rest : Followed → Result Followed End) (outcome : EventOutcome (Store × Accepted)) → on_event followed.store kind payload ≡ outcome → Good followed → IsBytes payload
      → ((after : Followed) → Good after → rest after ≡ Ok left → Good left) → follow_then which others number followed outcome rest ≡ Ok left → Good left
  unfolding follow_then
  one_event number followed left kind payload rest (accepted (new, given)) was good bytes later is =
      let goes = unless_none which number (clash_of_accepted others new given) _ left is in
      later _ (accepted_good number followed kind payload new given good bytes was goes.0) goes.1
  one_event number followed left kind payload rest (event_refused why) was good bytes later is = later followed good is
  one_event number followed left kind payload rest (event_limited bound) was good bytes later is = absurd cc
  one_event number followed left kind payload rest (event_clashes kind_of) was good bytes later is = absurd cc

  at_end : (end : record_file.End) (followed left : Followed) → Good followed → follow_end which followed end ≡ Ok left → Good left
  at_end record_file.done followed left good is = let same : followed ≡ left = cc in subst Good same good
  at_end (record_file.fault event reason) followed left good is = absurd cc
  at_end (record_file.limited event bound) followed left good is = absurd cc

  pub events_good : (number : ℕ) (events : List Event) (end : record_file.End) (followed left : Followed) → Good followed → AreBytes events → follow_events which others number followed events end ≡ Ok left → Good left
  unfolding follow_events
  events_good number [] end followed left good bytes is = at_end end followed left good is
  events_good number (event ∷ events) end followed left good bytes is =
      one_event number followed left event.kind event.payload (λ after. follow_events which others (number + 1) after events end) (on_event followed.store event.kind event.payload) refl good bytes.0
      (λ after good_after goes. events_good (number + 1) events end after left good_after bytes.1 goes) is

-- the first record and then the second
first_good : (config : ConfigValues) (genesis : PlainState) (bytes : List ℕ) (left : Followed) → Begins genesis → IsBytes bytes → follow 0 [] (genesis_store config genesis) (events_of bytes) ≡ Ok left
    → Follows config genesis left.history left.store × AreHistories config genesis left.history []
first_good config genesis bytes left begins ok is =
    events_good config genesis 0 [] (λ history. AreHistories config genesis history [])
    (λ b history are step own other. first_grows config genesis history [] b are step (clear_of_both genesis history [] b.root b.block own (genesis_clear genesis history b.root b.block own)))
    1 (events_of bytes).events (events_of bytes).end (record { store = genesis_store config genesis; history = [] }) left (begins_followed config genesis begins, none_yet config genesis begins) (record_bytes bytes ok) is

second_good : (config : ConfigValues) (genesis : PlainState) (first : Followed) (bytes : List ℕ) (left : Followed) → Begins genesis → IsBytes bytes → AreHistories config genesis first.history []
    → follow 1 (first_accepted genesis first.history) (genesis_store config genesis) (events_of bytes) ≡ Ok left → Follows config genesis left.history left.store × AreHistories config genesis first.history left.history
second_good config genesis first bytes left begins ok are is =
    events_good config genesis 1 (first_accepted genesis first.history) (λ history. AreHistories config genesis first.history history)
    (λ b history both step own other. second_grows config genesis first.history history b both step (clear_of_both genesis first.history history b.root b.block other own))
    1 (events_of bytes).events (events_of bytes).end (record { store = genesis_store config genesis; history = [] }) left (begins_followed config genesis begins, are) (record_bytes bytes ok) is

-- ---- the files

some_is : (end another : End) → Some end ≡ Some another → end ≡ another
some_is end another is = cc

-- a genesis of a file is one that was checked
genesis_read : (config : ConfigValues) (bytes : List ℕ) (state : PlainState) → IsPreset config.preset → IsBytes bytes → genesis_of config.preset bytes ≡ Ok state → genesis_clash state ≡ None → Begins state
unfolding genesis_of
genesis_read config bytes state preset ok is none = by _ ((state_codec config.preset).deserialize bytes) refl is
  where
    checked : (s : PlainState) (fault : Option GenesisFault) → sound_genesis s fault ≡ Ok state → (s ≡ state) × (fault ≡ None)
    checked s None h = (cc, refl)
    checked s (Some fault) h = absurd cc

    by : (a : Bool) (read : Option PlainState) → (state_codec config.preset).deserialize bytes ≡ read → (if a then Err parts.TooLong else checked_genesis read) ≡ Ok state → Begins state
    by true read was h = absurd cc
    by false None was h = absurd cc
    by false (Some s) was h =
        let same = checked s (genesis_fault s) h in
        let here : (state_codec config.preset).deserialize bytes ≡ Some state = was ∙ ap Some same.0 in
        clear_begins state (ap genesis_fault (sym same.0) ∙ same.1) (read_is_state config.preset bytes state preset ok here) (read_is_in_range config.preset bytes state ok here) none

found_out : (report : Report) (config : ConfigValues) (genesis : PlainState) (a b : List ℕ) (first second : Followed) → Begins genesis → IsBytes a → IsBytes b → follow 0 [] (genesis_store config genesis) (events_of a) ≡ Ok first
    → follow 1 (first_accepted genesis first.history) (genesis_store config genesis) (events_of b) ≡ Ok second → FindsOut report config genesis (events_of a) (events_of b) (told_of report genesis first second)
unfolding offences_of
found_out report config genesis a b first second begins a_bytes b_bytes first_is second_is =
    let one = first_good config genesis a first begins a_bytes first_is in
    let both = second_good config genesis first b second begins b_bytes one.1 second_is in
    record {
      first = first;
      second = second;
      first_is = first_is;
      second_is = second_is;
      histories = both.1;
      lines_are = refl;
      carried = all_carried (all_votes genesis first.history second.history) (length genesis.validators);
      third = λ balance total conflict.
          let parts = conflict_is genesis first.history second.history first.store.finalized_checkpoint second.store.finalized_checkpoint balance total conflict in
          record {
            balance_is = parts.0;
            total_is = parts.1;
            third = verdict_convicts config genesis first.history second.history first.store.finalized_checkpoint second.store.finalized_checkpoint balance total both.1 one.0.finalized both.0.finalized conflict;
          };
      accuses = accuses genesis first.history second.history;
    }

module _ (report : Report) (config : ConfigValues) (genesis : PlainState) (a b : List ℕ) (begins : Begins genesis) (a_bytes : IsBytes a) (b_bytes : IsBytes b) where
  abbrev Ends : Run → Type 0
  Ends run = run.end ≡ Some done → FindsOut report config genesis (events_of a) (events_of b) run.lines

  judged : (first : Followed) → follow 0 [] (genesis_store config genesis) (events_of a) ≡ Ok first → (left : Result Followed End) → NotDone left
      → follow 1 (first_accepted genesis first.history) (genesis_store config genesis) (events_of b) ≡ left → Ends (judge report genesis first left)
  unfolding judge
  judged first first_is (Ok second) not second_is ends =
      subst (FindsOut report config genesis (events_of a) (events_of b)) (sym (append-nil (told_of report genesis first second))) (found_out report config genesis a b first second begins a_bytes b_bytes first_is second_is)
  judged first first_is (Err end) not second_is ends = absurd (not (some_is end done ends))

  behind : (left : Result Followed End) → NotDone left → follow 0 [] (genesis_store config genesis) (events_of a) ≡ left → Ends (behind_first report genesis (genesis_store config genesis) left (Some b))
  unfolding behind_first with_second
  behind (Ok first) not is ends =
      judged first is (follow 1 (first_accepted genesis first.history) (genesis_store config genesis) (events_of b))
      (events_not 1 (first_accepted genesis first.history) 1 (record { store = genesis_store config genesis; history = [] }) (events_of b).events (events_of b).end) refl ends
  behind (Err end) not is ends = absurd (not (some_is end done ends))

  with_both : Ends (with_first report genesis (genesis_store config genesis) (Some a) (Some b))
  unfolding with_first
  with_both = behind (follow 0 [] (genesis_store config genesis) (events_of a)) (events_not 0 [] 1 (record { store = genesis_store config genesis; history = [] }) (events_of a).events (events_of a).end) refl

-- a store opens, unless the genesis clashes
stored : (report : Report) (config : ConfigValues) (genesis : PlainState) (a b : List ℕ) (clashing : Option ClashKind) → (clashing ≡ None → Begins genesis) → IsBytes a → IsBytes b
    → (with_store report clashing genesis (genesis_store config genesis) (Some a) (Some b)).end ≡ Some done
    → FindsOut report config genesis (events_of a) (events_of b) (with_store report clashing genesis (genesis_store config genesis) (Some a) (Some b)).lines
unfolding with_store
stored report config genesis a b (Some kind) begins a_bytes b_bytes ends = absurd cc
stored report config genesis a b None begins a_bytes b_bytes ends = with_both report config genesis a b (begins refl) a_bytes b_bytes ends

pub convicts_of_the_records : ConvictsOfTheRecords
unfolding with_genesis with_state
convicts_of_the_records report config bytes a b preset ok a_bytes b_bytes = by (genesis_of config.preset bytes) refl
  where
    by : (read : Result PlainState GenesisFault) → genesis_of config.preset bytes ≡ read → (with_state report config read (Some a) (Some b)).end ≡ Some done
        → (state : PlainState) × (read ≡ Ok state) × FindsOut report config state (events_of a) (events_of b) (with_state report config read (Some a) (Some b)).lines
    by (Ok state) is ends =
        (state, refl, stored report config state a b (genesis_clash state) (λ none. genesis_read config bytes state preset ok is none) a_bytes b_bytes ends)
    by (Err part) is ends = absurd cc
