-- The run of many nodes: the two chains are made, the nodes are delivered them in turn, and the run ends or its lines are told.
use Rattle.std.proofs.Common.{◌≡◌, ◌≢◌, ◌∙◌, ℕ, suc, ◌+◌, ◌-◌, ◌<◌, ◌≤◌, ◌%◌, ◌==◌, Bool, true, false, List, [], ◌∷◌, ◌++◌, map, nat_lt, if◌then◌else◌, Option, Some, None, Result, Ok, Err, refl, ap, ap₂, sym, subst, append_assoc, append-nil, inl, inr, arith}
use Rattle.std.specs.Prelude.{IfOk, flat_map}
use Rattle.std.specs.List.{range_with_len}
use Rattle.std.proofs.lemmas.List.{map_push, flat_map_more}
use Rattle.std.proofs.lemmas.List.Concat.{flat_map-append}
use Rattle.std.proofs.lemmas.List.Folds.{flat_map-map}
use Rattle.bc_outside.specs.Told.{ShelfTold, SinkTold}
use Rattle.bc_outside.specs.Calls.{Rose}
use Rattle.bc_outside.proofs.Keeping.{keeps_none}
use Rattle.bc_preset.specs.Configs.{config_of}
use Rattle.bc_preset.specs.declared.configuration.ConfigValues.{ConfigValues}
use Rattle.bc_preset.specs.declared.faults.ConfigFault.{ConfigFault}
use Rattle.bc_preset.specs.declared.faults.ConfigFault.TheVariants.{OutOfRange}
use Rattle.bc_preset.specs.declared.keys.Key.TheVariants.{EjectionBalance}
use Rattle.bc_outside.specs.declared.trouble.Trouble.{Trouble}
use Rattle.bc_words.specs.declared.store_stop.ClashKind.{ClashKind}
use Rattle.record_file.specs.Record as record_file
use Rattle.record_file.specs.Record.{Events, with_event}
use Rattle.record_file.specs.Sources.{NextOf}
use Rattle.record_file.specs.Stops.{SourceStopsBy}
use Rattle.record_file.specs.declared.event.Event.{Event}
use Rattle.record_file.specs.declared.source.SourceStop.{SourceStop}
use Rattle.record_file.specs.declared.source.SourceStop.TheVariants as stops
use Rattle.spec_state.specs.declared.plain.PlainState.{PlainState}
use Rattle.spec_fork_choice.specs.Store.{Store}
use Rattle.spec_fork_choice.specs.GetForkchoiceStore.{genesis_store}
use Rattle.spec_fork_choice.specs.OnEvent.{genesis_clash}
use Rattle.spec_drill.specs.AsEvents.{events_to_come}
use Rattle.spec_drill.specs.MakeGenesis.{genesis_of_plan}
use Rattle.spec_drill.specs.Make.{made}
use Rattle.spec_drill.specs.Maker.{PlainMaker, new_maker, to_come}
use Rattle.spec_drill.specs.Plan.{Plan}
use Rattle.chain_maker.specs.Source.{MadeSource, made_source}
use Rattle.node_drill.specs.Deliveries.{delivered}
use Rattle.spec_replay.specs.Run.{Run, End, bad_anchor, bad_config, bad_deposits, bad_duties, bad_genesis, bad_record, clash, done, limited, no_command, over, record_end}
use Rattle.spec_replay.specs.Forensic.{follow}
use Rattle.spec_replay.specs.Nodes.{Node, all_of, all_or_end, behind_events, chain_of_node, followed_by, node_line, node_of, nodes_config, nodes_of_chains, nodes_on, nodes_plan, nodes_run, nodes_store, pair_line, pair_of, pairs_of, split_events, with_nodes, with_pairs}
use Rattle.beacon_node.specs.declared.node.Delivered.{Delivered}
use Rattle.beacon_node.specs.declared.nodes.Split.{Split}
use Rattle.one_chain.specs.declared.status.Status.{Status}
use Rattle.one_chain.specs.declared.status.Status.TheVariants as statuses
use Rattle.one_chain.specs.Answers.{OutsideKeeps, breaks_off, end_of}
use Rattle.beacon_node.specs.inside.ByFiles.{EndsOver}
use Rattle.beacon_node.specs.inside.Drilled.{DrillEnds, DrillTold, Finished}
use Rattle.beacon_node.specs.inside.Following.{FollowsOutside, IsInside}
use Rattle.beacon_node.specs.inside.Histories.{OpeningEnds}
use Rattle.one_chain.specs.inside.Reading.{ReadOf, Unread}
use Rattle.one_chain.specs.inside.Statuses.{no_event_of, unread}
use Rattle.beacon_node.specs.inside.Nodes.{EndsMaking, IsSplit, LinesTold, NodeEnds, behind_ones, followed_in, node_given, plain_node}
use Rattle.beacon_node.proofs.Drilled.{finished, given_by, nothing_written}
use Rattle.one_chain.proofs.Outside.{ends_here, no_fault, untouched}
use Rattle.beacon_node.proofs.Pairing.{first_ends, first_made, none_of_all, pairs_next}
use Rattle.one_chain.proofs.Prefixes.{config_of-prefix}
use Rattle.beacon_node.proofs.ByFiles.{breaks_at_file, goes_on_behind, handed_of, unread_breaks}

-- ---- the events of a chain

-- what a maker that gave so many events still gives
abbrev pub still_made : MadeSource → Events
still_made source = events_to_come source.given (to_come source.maker)

pub made_one : (old new : MadeSource) (event : Event) (told : ShelfTold) → NextOf (Ok (Some event)) (made_source old) (made_source new) told told → still_made old ≡ with_event event (still_made new)
made_one old new event told h = h.supplies.1 []

pub made_all : (old new : MadeSource) (told : ShelfTold) → NextOf (Ok None) (made_source old) (made_source new) told told → still_made old ≡ record { events = []; end = record_file.done }
made_all old new told h = h.supplies [] (λ met. refl)

-- so many were made, and then one more
pub made_so_far : (events : List Event) (event : Event) (whole old new : Events) → whole ≡ record { events = events ++ old.events; end = old.end } → old ≡ with_event event new → whole ≡ record { events = (events ++ event ∷ []) ++ new.events; end = new.end }
made_so_far events event whole old new is next =
    is ∙ (ap (λ (rest : Events). record { events = events ++ rest.events; end = rest.end }) next ∙ ap (λ (xs : List Event). record { events = xs; end = new.end }) (sym (append_assoc events (event ∷ []) new.events)))

pub made_to_end : (events : List Event) (whole old : Events) → whole ≡ record { events = events ++ old.events; end = old.end } → old ≡ record { events = []; end = record_file.done } → whole ≡ all_of events
made_to_end events whole old is none =
    is ∙ (ap (λ (rest : Events). record { events = events ++ rest.events; end = rest.end }) none ∙ ap (λ (xs : List Event). record { events = xs; end = record_file.done }) (append-nil events))

never_rose : {A : Type 0} → Rose 0 0 → A
never_rose (inl less) = absurd (omega (arith, less))
never_rose (inr is) = absurd (omega (arith, is))

pub no_memory_to_make : (which : ℕ) (whole : Events) → EndsMaking statuses.NoMemory which whole
no_memory_to_make which whole = record { ends = λ on. absurd cc; inside = record { done = λ is. cc; words = λ is. cc; read = λ is. cc; write = λ is. cc } }

-- one can't be made
pub not_made : (which : ℕ) (stop : SourceStop) (events : List Event) (whole : Events) (old new : MadeSource) (told : ShelfTold) → whole ≡ record { events = events ++ (still_made old).events; end = (still_made old).end }
    → NextOf (Err stop) (made_source old) (made_source new) told told → SourceStopsBy {T = Unit {0}} (Err stop) 0 0 → EndsMaking (no_event_of which stop) which whole
not_made which (stops.Fault event reason) events whole old new told is h causes = record {
  ends = λ on. ap (λ (e : Events). Some (record_end which e.end)) (is ∙ ap (λ (rest : Events). record { events = events ++ rest.events; end = rest.end }) (h.supplies [] (λ met. refl)));
  inside = record { done = λ is. cc; words = λ is. cc; read = λ is. cc; write = λ is. cc };
}
not_made which (stops.Limit event bound) events whole old new told is h causes = record {
  ends = λ on. ap (λ (e : Events). Some (record_end which e.end)) (is ∙ ap (λ (rest : Events). record { events = events ++ rest.events; end = rest.end }) (h.supplies [] (λ met. refl)));
  inside = record { done = λ is. cc; words = λ is. cc; read = λ is. cc; write = λ is. cc };
}
not_made which stops.ReadFault events whole old new told is h causes = never_rose causes.1
not_made which stops.NoMemory events whole old new told is h causes = no_memory_to_make which whole

pub memory_is_inside : IsInside statuses.NoMemory
memory_is_inside = record { done = λ is. cc; words = λ is. cc; read = λ is. cc; write = λ is. cc }

-- ---- the nodes

pub next_number : (k count : ℕ) → k < count → range_with_len k (count - k) ≡ k ∷ range_with_len (k + 1) (count - (k + 1))
next_number k count less = let many : count - k ≡ suc (count - (k + 1)) = omega (arith, less) in ap (range_with_len k) many

pub no_number : (k count : ℕ) → count ≤ k → range_with_len k (count - k) ≡ []
no_number k count past = let many : count - k ≡ 0 = omega (arith, past) in ap (range_with_len k) many

nothing_before : {A : Type 0} (left : Result (List A) End) → left ≡ behind_ones [] left
nothing_before (Ok more) = refl
nothing_before (Err end) = refl

-- none was delivered its events yet
pub no_node_yet : (number count many : ℕ) (store : Store) (first second : List Event) (nodes : List Delivered) → nodes ≡ [] → many ≡ count
    → all_or_end (map (node_of number store first second) (range_with_len 0 count)) ≡ behind_ones (map (node_given number first second) nodes) (all_or_end (map (node_of number store first second) (range_with_len 0 many)))
no_node_yet number count many store first second nodes none is = rw (none, is) (nothing_before (all_or_end (map (node_of number store first second) (range_with_len 0 count))))

-- what is true of both chains is true of the one that a node is delivered
pub of_chain : (P : List Event → Type 0) (node : ℕ) (first second : List Event) → P first → P second → P (chain_of_node node first second)
unfolding chain_of_node
of_chain P node first second a b = chosen P (node % 2 == 0) first second a b
  where
    chosen : (P : List Event → Type 0) (even : Bool) (first second : List Event) → P first → P second → P (if even then first else second)
    chosen P true first second a b = a
    chosen P false first second a b = b

module _ (number : ℕ) (store : Store) (first second : List Event) (k : ℕ) where
  abbrev its : List Event
  its = delivered number k (chain_of_node k first second)

  node_followed : (given : Delivered) → given.node.number ≡ k → follow k [] store (all_of its) ≡ Ok (followed_in given.node) → node_of number store first second k ≡ Ok (node_given number first second given)
  unfolding node_of followed_by
  node_followed given is followed = rw (is, followed) refl

  node_ends : (status : Status) → NodeEnds status (follow k [] store (all_of its)) → NodeEnds status (node_of number store first second k)
  unfolding node_of followed_by
  node_ends status h = λ on. let e = h on in (e.0, e.1, rw e.2 refl)

  pub its_line : (given : Delivered) (line : List ℕ) → given.node.number ≡ k → line ≡ node_line store (plain_node its given.node) → line ≡ node_line store (node_given number first second given)
  its_line given line is h = subst (λ (m : ℕ). line ≡ node_line store (plain_node (delivered number m (chain_of_node m first second)) given.node)) (sym is) h

  module _ (nodes : List Delivered) (more : List ℕ) (all : Result (List Node) End) (left : all ≡ behind_ones (map (node_given number first second) nodes) (all_or_end (map (node_of number store first second) (k ∷ more)))) where
    pub node_more : (given : Delivered) → given.node.number ≡ k → follow k [] store (all_of its) ≡ Ok (followed_in given.node)
        → all ≡ behind_ones (map (node_given number first second) (nodes ++ given ∷ [])) (all_or_end (map (node_of number store first second) more))
    node_more given is followed =
        left
        ∙ (first_made (map (node_given number first second) nodes) (node_of number store first second k) (node_given number first second given) (map (node_of number store first second) more) (node_followed given is followed)
        ∙ ap (λ (xs : List Node). behind_ones xs (all_or_end (map (node_of number store first second) more))) (sym (map_push (node_given number first second) nodes given)))

    pub node_over : (status : Status) → NodeEnds status (follow k [] store (all_of its)) → NodeEnds status all
    node_over status h = λ on.
        let e = node_ends status h on in
        (e.0, e.1, left ∙ first_ends (map (node_given number first second) nodes) (node_of number store first second k) (map (node_of number store first second) more) e.0 e.2)

pub all_nodes_left : (number : ℕ) (store : Store) (first second : List Event) (nodes : List Delivered) (all : Result (List Node) End) → all ≡ behind_ones (map (node_given number first second) nodes) (all_or_end (map (node_of number store first second) []))
    → all ≡ Ok (map (node_given number first second) nodes)
all_nodes_left number store first second nodes all left = left ∙ (ap (behind_ones (map (node_given number first second) nodes)) none_of_all ∙ ap (λ (xs : List Node). Ok xs) (append-nil (map (node_given number first second) nodes)))

-- a line more
pub node_lines_more : (number : ℕ) (store : Store) (first second : List Event) (nodes : List Delivered) (given : Delivered) → flat_map (λ (d : Delivered). d.line.items) nodes ≡ flat_map (node_line store) (map (node_given number first second) nodes)
    → given.line.items ≡ node_line store (node_given number first second given) → flat_map (λ (d : Delivered). d.line.items) (nodes ++ given ∷ []) ≡ flat_map (node_line store) (map (node_given number first second) (nodes ++ given ∷ []))
node_lines_more number store first second nodes given so_far is =
    sym (flat_map_more (λ (d : Delivered). d.line.items) [] nodes given)
    ∙ (ap₂ (λ (xs ys : List ℕ). xs ++ ys) so_far is
    ∙ (flat_map_more (node_line store) [] (map (node_given number first second) nodes) (node_given number first second given)
    ∙ ap (flat_map (node_line store)) (sym (map_push (node_given number first second) nodes given))))

-- ---- all lines

-- those of the nodes, and then those of their pairs
pub both_told : (nodes : List Delivered) (made : List ℕ) (pairs : Result (List (List ℕ)) End) (part : List ℕ) → (told : (more : List (List ℕ)) × (pairs ≡ Ok more) × (part ≡ flat_map (λ (line : List ℕ). line) more)) → made ≡ flat_map (λ (d : Delivered). d.line.items) nodes ++ part
    → (more : List (List ℕ)) × (behind_ones (map (λ (d : Delivered). d.line.items) nodes) pairs ≡ Ok more) × (made ≡ flat_map (λ (line : List ℕ). line) more)
both_told nodes made pairs part told is = (
  map (λ (d : Delivered). d.line.items) nodes ++ told.0,
  ap (behind_ones (map (λ (d : Delivered). d.line.items) nodes)) told.1,
  is ∙ (ap₂ (λ (xs ys : List ℕ). xs ++ ys) (sym (flat_map-map (λ (line : List ℕ). line) (λ (d : Delivered). d.line.items) nodes)) told.2 ∙ sym (flat_map-append (λ (line : List ℕ). line) (map (λ (d : Delivered). d.line.items) nodes) told.0)),
)

pub pairs_end : (status : Status) (ones : List (List ℕ)) (pairs : Result (List (List ℕ)) End) → NodeEnds status pairs → NodeEnds status (behind_ones ones pairs)
pairs_end status ones pairs h = λ on. let e = h on in (e.0, e.1, ap (behind_ones ones) e.2)

-- a pair's line is of the nodes' numbers, stores and histories alone
same_with : (genesis : PlainState) (number : ℕ) (first second : List Event) (x : Delivered) (later : List Delivered)
    → map (λ (other : Node). pair_of genesis (plain_node [] x.node, other)) (map (λ (d : Delivered). plain_node [] d.node) later) ≡ map (λ (other : Node). pair_of genesis (node_given number first second x, other)) (map (node_given number first second) later)
unfolding pair_of pair_line
same_with genesis number first second x [] = refl
same_with genesis number first second x (y ∷ later) = ap (λ rest. pair_of genesis (plain_node [] x.node, plain_node [] y.node) ∷ rest) (same_with genesis number first second x later)

pub same_pairs : (genesis : PlainState) (number : ℕ) (first second : List Event) (nodes : List Delivered)
    → map (pair_of genesis) (pairs_of (map (λ (d : Delivered). plain_node [] d.node) nodes)) ≡ map (pair_of genesis) (pairs_of (map (node_given number first second) nodes))
unfolding pairs_of
same_pairs genesis number first second [] = refl
same_pairs genesis number first second (x ∷ later) =
    pairs_next genesis (plain_node [] x.node) (map (λ (d : Delivered). plain_node [] d.node) later)
    ∙ (ap₂ (λ xs ys. xs ++ ys) (same_with genesis number first second x later) (same_pairs genesis number first second later)
    ∙ sym (pairs_next genesis (node_given number first second x) (map (node_given number first second) later)))

-- ---- the run

-- an event that can't be made ends it
ends_behind : (status : Status) (end : End) (run : Run) → status ≢ statuses.Done → breaks_off status ≡ false → Some end ≡ end_of status → behind_events end run ≡ over end
unfolding behind_events
ends_behind statuses.Done end run other on is = absurd (other refl)
ends_behind statuses.Words end run other on is = let e : end ≡ no_command = cc in rw e refl
ends_behind (statuses.Config reason) end run other on is = let e : end ≡ bad_config reason = cc in rw e refl
ends_behind (statuses.Genesis part) end run other on is = let e : end ≡ bad_genesis part = cc in rw e refl
ends_behind (statuses.Record which event reason) end run other on is = let e : end ≡ bad_record which event reason = cc in rw e refl
ends_behind (statuses.Limit which event bound) end run other on is = let e : end ≡ limited which event bound = cc in rw e refl
ends_behind (statuses.Clash which event kind kept_which) end run other on is = let e : end ≡ clash which event kind kept_which = cc in rw e refl
ends_behind (statuses.Deposits fault) end run other on is = let e : end ≡ bad_deposits fault = cc in rw e refl
ends_behind (statuses.Duties fault) end run other on is = let e : end ≡ bad_duties fault = cc in rw e refl
ends_behind (statuses.Anchor fault) end run other on is = let e : end ≡ bad_anchor fault = cc in rw e refl
ends_behind statuses.ReadFault end run other on is = absurd cc
ends_behind statuses.WriteFault end run other on is = absurd cc
ends_behind statuses.NoMemory end run other on is = absurd cc

behind-files : (end : End) (run : Run) → run.files ≡ 0 → (behind_events end run).files ≡ 0
unfolding behind_events
behind-files done run none = none
behind-files no_command run none = refl
behind-files (bad_config reason) run none = refl
behind-files (bad_genesis part) run none = refl
behind-files (bad_record which event reason) run none = refl
behind-files (limited which event bound) run none = refl
behind-files (clash which event kind kept_which) run none = refl
behind-files (bad_deposits fault) run none = refl
behind-files (bad_duties fault) run none = refl
behind-files (bad_anchor fault) run none = refl

pairs-files : (lines : List ℕ) (pairs : Result (List (List ℕ)) End) → (with_pairs lines pairs).files ≡ 0
unfolding with_pairs
pairs-files lines (Ok more) = refl
pairs-files lines (Err end) = refl

nodes-files : (genesis : PlainState) (store : Store) (nodes : Result (List Node) End) → (with_nodes genesis store nodes).files ≡ 0
unfolding with_nodes
nodes-files genesis store (Ok nodes) = pairs-files _ _
nodes-files genesis store (Err end) = refl

no_files : (clashes : Option ClashKind) (number count : ℕ) (genesis : PlainState) (store : Store) (first second : Events) → (nodes_store clashes number count genesis store first second).files ≡ 0
unfolding nodes_store nodes_of_chains nodes_on
no_files (Some kind) number count genesis store first second = refl
no_files None number count genesis store first second = behind-files _ _ (behind-files _ _ (nodes-files genesis store _))

told_of : (lines : List (List ℕ)) (pairs : Result (List (List ℕ)) End) (made front : List ℕ) → flat_map (λ (line : List ℕ). line) lines ≡ front
    → (told : (more : List (List ℕ)) × (behind_ones lines pairs ≡ Ok more) × (made ≡ flat_map (λ (line : List ℕ). line) more)) → with_pairs front pairs ≡ record { lines = made; end = Some done; files = 0 }
unfolding with_pairs
told_of lines (Err end) made front same told = absurd (let no = told.1 in cc)
told_of lines (Ok more) made front same told =
    let whole : lines ++ more ≡ told.0 = (let is = told.1 in cc) in
    let all : made ≡ front ++ flat_map (λ (line : List ℕ). line) more =
    told.2 ∙ (ap (flat_map (λ (line : List ℕ). line)) (sym whole) ∙ (flat_map-append (λ (line : List ℕ). line) lines more ∙ ap (λ (xs : List ℕ). xs ++ flat_map (λ (line : List ℕ). line) more) same)) in
    ap (λ (xs : List ℕ). record { lines = xs; end = Some done; files = 0 }) (sym all)

end_stays : (lines : List (List ℕ)) (pairs : Result (List (List ℕ)) End) (end : End) → behind_ones lines pairs ≡ Err end → pairs ≡ Err end
end_stays lines (Ok more) end is = absurd cc
end_stays lines (Err other) end is = is

module _ (clashes : Option ClashKind) (number count : ℕ) (genesis : PlainState) (store : Store) (first second : Events) where
  abbrev pub run_of_nodes : Run
  run_of_nodes = nodes_store clashes number count genesis store first second

  -- the stores don't open
  pub not_opened : (status : Status) → OpeningEnds status clashes → DrillEnds status run_of_nodes
  unfolding nodes_store
  not_opened status h = (no_files clashes number count genesis store first second, λ on. let e = h.clashes on in (clash 0 0 e.0 0, ap end_of (sym e.2), rw e.1 refl))

  module _ (none : clashes ≡ None) where
    pub first_not_made : (status : Status) → EndsMaking status 0 first → DrillEnds status run_of_nodes
    unfolding nodes_store nodes_of_chains
    first_not_made status h = (
      no_files clashes number count genesis store first second,
      λ on.
          (record_end 0 first.end, h.ends on, rw none (ends_behind status (record_end 0 first.end) _ h.inside.done on (h.ends on))),
    )

    module _ (events : List Event) (first_is : first ≡ all_of events) where
      pub second_not_made : (status : Status) → EndsMaking status 1 second → DrillEnds status run_of_nodes
      unfolding nodes_store nodes_of_chains behind_events
      second_not_made status h = (
        no_files clashes number count genesis store first second,
        λ on.
            (record_end 1 second.end, h.ends on, rw (none, first_is) (ends_behind status (record_end 1 second.end) _ h.inside.done on (h.ends on))),
      )

      module _ (others : List Event) (second_is : second ≡ all_of others) where
        abbrev all : Result (List Node) End
        all = all_or_end (map (node_of number store events others) (range_with_len 0 count))

        nodes_run_is : run_of_nodes ≡ with_nodes genesis store all
        unfolding nodes_store nodes_of_chains behind_events nodes_on
        nodes_run_is = rw (none, first_is, second_is) refl

        pub nodes_over : (status : Status) → NodeEnds status all → DrillEnds status run_of_nodes
        unfolding with_nodes
        nodes_over status h = (no_files clashes number count genesis store first second, λ on. let e = h on in (e.0, e.1, nodes_run_is ∙ ap (with_nodes genesis store) e.2))

        module _ (nodes : List Delivered) (are : all ≡ Ok (map (node_given number events others) nodes)) where
          abbrev pairs : Result (List (List ℕ)) End
          pairs = all_or_end (map (pair_of genesis) (pairs_of (map (λ (d : Delivered). plain_node [] d.node) nodes)))

          with_pairs_is : run_of_nodes ≡ with_pairs (flat_map (node_line store) (map (node_given number events others) nodes)) pairs
          unfolding with_nodes
          with_pairs_is = nodes_run_is ∙ (ap (with_nodes genesis store) are ∙ ap (λ ps. with_pairs (flat_map (node_line store) (map (node_given number events others) nodes)) (all_or_end ps)) (sym (same_pairs genesis number events others nodes)))

          pub lines_over : (status : Status) (lines : List (List ℕ)) → NodeEnds status (behind_ones lines pairs) → DrillEnds status run_of_nodes
          unfolding with_pairs
          lines_over status lines h = (no_files clashes number count genesis store first second, λ on. let e = h on in (e.0, e.1, with_pairs_is ∙ ap (with_pairs (flat_map (node_line store) (map (node_given number events others) nodes))) (end_stays lines pairs e.0 e.2)))

          pub lines_told : (made : List ℕ) → flat_map (λ (d : Delivered). d.line.items) nodes ≡ flat_map (node_line store) (map (node_given number events others) nodes)
              → (told : (more : List (List ℕ)) × (behind_ones (map (λ (d : Delivered). d.line.items) nodes) pairs ≡ Ok more) × (made ≡ flat_map (λ (line : List ℕ). line) more)) → run_of_nodes ≡ record { lines = made; end = Some done; files = 0 }
          lines_told made same told =
              with_pairs_is
              ∙ told_of (map (λ (d : Delivered). d.line.items) nodes) pairs made (flat_map (node_line store) (map (node_given number events others) nodes)) (flat_map-map (λ (line : List ℕ). line) (λ (d : Delivered). d.line.items) nodes ∙ same) told

          pub all_told : {V : Type 0} (items : V → List ℕ) (result : Result V Status) → flat_map (λ (d : Delivered). d.line.items) nodes ≡ flat_map (node_line store) (map (node_given number events others) nodes)
              → LinesTold items result (behind_ones (map (λ (d : Delivered). d.line.items) nodes) pairs) → DrillTold items result run_of_nodes
          all_told items (Ok made) same told = lines_told (items made) same told
          all_told items (Err status) same told = lines_over status (map (λ (d : Delivered). d.line.items) nodes) told

-- ---- the configuration

-- the split of a new maker is of its plan
pub split_is : {E : Type 0} (plan : Plan) (maker : PlainMaker) (result : Result Split E) → maker ≡ new_maker plan → IfOk result (λ split. IsSplit maker.plan split) → IfOk result (λ split. IsSplit plan split)
unfolding new_maker
split_is plan maker result new are = subst (λ (p : Plan). IfOk result (λ split. IsSplit p split)) (ap (λ (m : PlainMaker). m.plan) new) are

module _ (number count : ℕ) (config : ConfigValues) where
  abbrev plan : Plan
  plan = record { config = config; number = number; which = None }

  no_plan_files : (b : Bool) → (if b then nodes_plan count plan else over (bad_config (OutOfRange EjectionBalance))).files ≡ 0
  unfolding nodes_plan
  no_plan_files true = no_files (genesis_clash (genesis_of_plan plan)) number count (genesis_of_plan plan) (genesis_store config (genesis_of_plan plan)) (split_events plan 0) (split_events plan 1)
  no_plan_files false = refl

  pub no_config_files : (nodes_config number count (Ok config)).files ≡ 0
  unfolding nodes_config
  no_config_files = no_plan_files (nat_lt config.ejection_balance 32_000_000_000)

  pub ejects : (w : List ℕ) → nat_lt config.ejection_balance 32_000_000_000 ≡ false → Finished (statuses.Config (OutOfRange EjectionBalance)) (nodes_config number count (Ok config)) w w
  unfolding nodes_config
  ejects w high = rw high (nothing_written (statuses.Config (OutOfRange EjectionBalance)) (bad_config (OutOfRange EjectionBalance)) w refl refl refl refl)

  pub run_is : (split : Split) → nat_lt config.ejection_balance 32_000_000_000 ≡ true → IsSplit plan split
      → nodes_store (genesis_clash split.genesis) number count split.genesis (genesis_store config split.genesis) (events_to_come 0 (to_come split.first)) (events_to_come 0 (to_come split.second)) ≡ nodes_config number count (Ok config)
  unfolding nodes_config nodes_plan
  run_is split low are =
      rw (low, are.genesis, given_by (record plan { which = Some 0 }) split.first are.first, given_by (record plan { which = Some 1 }) split.second are.second) refl

-- ---- the configuration's file

module _ (number count : ℕ) (name : List ℕ) where
  abbrev pub number_run : (List ℕ → Option (List ℕ)) → Run
  number_run contents = nodes_run number count (contents name)

  first_file : (config : Option (List ℕ)) → 1 ≤ (nodes_run number count config).files
  unfolding nodes_run
  first_file None = omega arith
  first_file (Some bytes) = omega arith

  -- it could not be read
  pub unread_nodes : (trouble : Trouble) (s t : ShelfTold) (w : List ℕ) → Unread name s t → EndsOver number_run (name ∷ []) (unread trouble) s t w w
  unread_nodes trouble s t w h = breaks_at_file number_run name [] (unread trouble) s t w (unread_breaks trouble) h (λ c. first_file (c name))

  pub config_nodes : (bytes : List ℕ) (s t : ShelfTold) → ReadOf name 65537 bytes s t → (config : Result ConfigValues ConfigFault) (status : Status) (w x : List ℕ) → config ≡ config_of bytes → Finished status (nodes_config number count config) w x
      → EndsOver number_run (name ∷ []) status s t w x
  unfolding nodes_run
  config_nodes bytes s t read config status w x is h =
      goes_on_behind number_run name [] (λ contents. nodes_config number count config) read.handed status s t t w x (handed_of read)
      (λ c whole held a. rw (held, sym (ap config_of (read.front whole a) ∙ config_of-prefix whole) ∙ sym is) refl) (finished (nodes_config number count config) status t w x h)

pub bad_file : (number count : ℕ) (reason : ConfigFault) (w : List ℕ) → Finished (statuses.Config reason) (nodes_config number count (Err reason)) w w
unfolding nodes_config
bad_file number count reason w = nothing_written (statuses.Config reason) (bad_config reason) w refl refl refl refl

-- the run ends as the other one does
pub ends_as : (status : Status) (run other : Run) → other ≡ run → DrillEnds status other → DrillEnds status run
ends_as status run other same h = subst (λ (r : Run). DrillEnds status r) same h

-- where no file was read
pub nothing_read : (s : ShelfTold) → FollowsOutside {T = Unit {0}} [] (Ok tt) s s
nothing_read s = record { shelf = keeps_none s; read = tt; others = tt }

-- nothing was read and nothing written
pub inside_outside : (status : Status) (s : ShelfTold) (p : SinkTold) → IsInside status → OutsideKeeps [] (Some status) s s p p
inside_outside status s p h = ends_here [] [] (untouched s p) (no_fault status h.read h.write)
