-- Made chains on stores, and what is written of them.
use Rattle.std.proofs.Common.{◌≡◌, ◌≢◌, ◌∙◌, ◌⊎◌, ℕ, ◌≤◌, Bool, true, false, List, [], ◌∷◌, ◌++◌, length, take, nat_lt, if◌then◌else◌, Option, Some, None, Result, Ok, Err, IfErr, refl, sym, ap, ap₂, subst, append-nil, inl, inr, arith}
use Rattle.std.proofs.lemmas.List.{take_all}
use Rattle.sha2.specs.Sha256.{sha256}
use Rattle.hash_tree.specs.Merkle.{hash}
use Rattle.bc_outside.specs.Told.{ShelfTold, SinkTold}
use Rattle.bc_outside.specs.Memory.{hash_told}
use Rattle.bc_outside.specs.declared.trouble.Trouble.{Trouble}
use Rattle.bc_outside.specs.declared.trouble.Trouble.TheVariants as troubles
use Rattle.bc_outside.specs.Calls.{HasCause, Rose, SinkKeeps, WritesAll}
use Rattle.bc_outside.proofs.Keeping.{sink_keeps_none}
use Rattle.bc_preset.specs.Configs.{config_of}
use Rattle.bc_preset.specs.Presets.{IsPreset}
use Rattle.bc_preset.specs.declared.configuration.ConfigValues.{ConfigValues}
use Rattle.bc_preset.specs.declared.faults.ConfigFault.{ConfigFault}
use Rattle.bc_preset.specs.declared.faults.ConfigFault.TheVariants.{OutOfRange}
use Rattle.bc_preset.specs.declared.keys.Key.TheVariants.{EjectionBalance}
use Rattle.bc_words.specs.declared.store_stop.ClashKind.{ClashKind}
use Rattle.record_file.specs.Record.{Events}
use Rattle.spec_state.specs.Genesis.{genesis_fault}
use Rattle.spec_state.specs.declared.plain.PlainState.{PlainState}
use Rattle.spec_fork_choice.specs.Store.{Store}
use Rattle.spec_fork_choice.specs.GetForkchoiceStore.{genesis_store}
use Rattle.spec_fork_choice.specs.OnEvent.{genesis_clash}
use Rattle.spec_forensics.specs.Clash.{first_accepted}
use Rattle.spec_forensics.specs.Histories.{AcceptedBlock}
use Rattle.spec_drill.specs.Plan.{Plan}
use Rattle.spec_drill.specs.Make.{made}
use Rattle.spec_drill.specs.MakeGenesis.{genesis_of_plan}
use Rattle.spec_drill.specs.Maker.{PlainMaker, new_maker, to_come}
use Rattle.spec_drill.specs.AsEvents.{events_to_come}
use Rattle.spec_drill.proofs.Genesis.{made_genesis_calm, slot_zero}
use Rattle.spec_drill.proofs.GenesisRange.{made_genesis_in_range, made_genesis_is_state}
use Rattle.spec_drill.proofs.Maker.{new_has_given}
use Rattle.chain_maker.specs.Source.{begun, made_source}
use Rattle.spec_replay.specs.Run.{Run, End, bad_anchor, bad_config, bad_deposits, bad_duties, bad_genesis, bad_record, clash, done, limited, no_command, over, with_events}
use Rattle.spec_replay.specs.Drill.{Chains, Tally, tally_of, six_lines, two_lines, behind_first, behind_second, split_lines, with_split, chains_of, drill_events, drill_store, drill_plan, drill_config, drill_run}
use Rattle.spec_replay.specs.Forensic.{Followed, follow}
use Rattle.beacon_node.specs.declared.drill.Makers.{Makers}
use Rattle.beacon_node.specs.declared.follow.Side.{Side}
use Rattle.one_chain.specs.declared.status.Status.{Status}
use Rattle.one_chain.specs.declared.status.Status.TheVariants as statuses
use Rattle.one_chain.specs.Answers.{OutsideKeeps, WritesLines, breaks_off, may_lack_lines, end_of, whole_of}
use Rattle.beacon_node.specs.inside.ByFiles.{EndsOver}
use Rattle.one_chain.specs.inside.Statuses.{unread, unwritten}
use Rattle.one_chain.specs.inside.Reading.{ReadOf, Unread}
use Rattle.one_chain.specs.inside.Progress.{Ended, EventsOver}
use Rattle.beacon_node.specs.inside.Drilled.{AreMakers, BehindTold, Digested, DrillEnds, DrillTold, Finished, OpenedTold, OwnEnds, OwnTold, SplitEnds, WritesOut, chains_to_come, is_done, own_lines}
use Rattle.beacon_node.specs.inside.Following.{FollowedToEnd, FollowsOutside, Leaves, others_of, which_of}
use Rattle.beacon_node.specs.inside.Histories.{IsGenesis, OpeningEnds}
use Rattle.one_chain.proofs.Reaching.{reaches_none, is_prefix, reaches_all, no_lines}
use Rattle.one_chain.proofs.Outside.{no_fault, unwritten_causes}
use Rattle.one_chain.proofs.Prefixes.{config_of-prefix}
use Rattle.beacon_node.proofs.ByFiles.{breaks_at_file, goes_on_behind, handed_of, pace_none, unread_breaks}

-- ---- nothing is written

-- memory ran out
pub no_memory : (run : Run) (w : List ℕ) → run.files ≡ 0 → Finished statuses.NoMemory run w w
no_memory run w files = record {
  ends = λ never. cc;
  lines = no_lines true _ w (is_prefix 0 _ (omega arith));
  pace = no_lines true _ w (is_prefix 0 _ (omega arith));
  files = files;
}

-- the run ends otherwise, with nothing to write
pub nothing_written : (status : Status) (end : End) (w : List ℕ) → Some end ≡ end_of status → breaks_off status ≡ false → may_lack_lines status ≡ false → whole_of status (over end) ≡ over end → Finished status (over end) w w
nothing_written status end w ends whole late all = record {
  ends = λ _. ends;
  lines = no_lines _ [] w (reaches_none _);
  pace = rw all (no_lines _ [] w (reaches_none _));
  files = refl;
}

-- ---- the six lines

-- all lines were written
pub wrote_all : (lines : List ℕ) (w x : List ℕ) → x ≡ w ++ lines → Finished statuses.Done (record { lines = lines; end = Some done; files = 0 }) w x
wrote_all lines w x is =
    let written : WritesLines false lines w x = record { count = length lines; reaches = reaches_all false (length lines); bytes = rw (take_all (length lines) lines (omega arith)) is } in
    record { ends = λ _. refl; lines = written; pace = written; files = refl }

-- some of them were
wrote_some : (status : Status) (lines : List ℕ) (w x : List ℕ) (n : ℕ) → breaks_off status ≡ true → may_lack_lines status ≡ true → whole_of status (record { lines = lines; end = Some done; files = 0 }) ≡ record { lines = lines; end = Some done; files = 0 }
    → n ≤ length lines → x ≡ w ++ take n lines → Finished status (record { lines = lines; end = Some done; files = 0 }) w x
wrote_some status lines w x n off late all few is =
    let written : WritesLines true lines w x = record { count = n; reaches = is_prefix n (length lines) few; bytes = is } in
    record { ends = λ on. absurd (let no : true ≡ false = sym off ∙ on in cc); lines = rw off written; pace = rw (late, all) written; files = refl }

pub wrote_not_all : (trouble : Trouble) (lines : List ℕ) (w x : List ℕ) → WritesAll {V = Unit {0}} lines (Err trouble) (record { taken = w; faults = 0; reliable = true }) (record { taken = x; faults = 0; reliable = true })
    → Finished (unwritten trouble) (record { lines = lines; end = Some done; files = 0 }) w x
wrote_not_all troubles.Failed lines w x h = wrote_some statuses.WriteFault lines w x h.0 refl refl refl h.1 h.2
wrote_not_all troubles.NoMemory lines w x h = wrote_some statuses.NoMemory lines w x h.0 refl refl refl h.1 h.2

-- and what that does to the sink
pub wrote_out : (trouble : Trouble) (p q : SinkTold) → HasCause {T = Unit {0}} (Err trouble) p.faults q.faults → SinkKeeps p q → WritesOut (unwritten trouble) p q
wrote_out trouble p q causes keeps = record { causes = λ faults. unwritten_causes trouble causes; sink = keeps }

pub wrote_well : (status : Status) (p q : SinkTold) → status ≢ statuses.ReadFault → status ≢ statuses.WriteFault → SinkKeeps p q → WritesOut status p q
wrote_well status p q not_read not_write keeps = record { causes = λ faults. no_fault status not_read not_write; sink = keeps }

never_rose : {A : Type 0} → Rose 0 0 → A
never_rose (inl less) = absurd (omega (arith, less))
never_rose (inr is) = absurd (omega (arith, is))

-- ---- the events of a maker

done_status : (status : Status) → is_done status ≡ true → status ≡ statuses.Done
done_status statuses.Done is = refl
done_status statuses.Words is = absurd cc
done_status (statuses.Config fault) is = absurd cc
done_status (statuses.Genesis part) is = absurd cc
done_status (statuses.Record which event fault) is = absurd cc
done_status (statuses.Limit which event limit) is = absurd cc
done_status statuses.ReadFault is = absurd cc
done_status statuses.WriteFault is = absurd cc
done_status statuses.NoMemory is = absurd cc
done_status (statuses.Clash which event kind kept_which) is = absurd cc
done_status (statuses.Deposits fault) is = absurd cc
done_status (statuses.Duties fault) is = absurd cc
done_status (statuses.Anchor fault) is = absurd cc

module _ (store : Store) (maker : PlainMaker) (status : Status) (digest : List ℕ) (s t : ShelfTold) (tally tally_then : Tally) (new : tally ≡ record { store = store; events = 0; accepted = 0 })
    (h : Digested status digest tally (made_source (begun maker)) s t tally_then) where
  abbrev rest : Events
  rest = events_to_come 0 (to_come maker)

  abbrev replayed : Run
  replayed = with_events 1 store rest

  over_new : EventsOver status (record { store = store; events = 0; accepted = 0 }) (made_source (begun maker)) s t [] h.lines tally_then
  over_new = rw new at h.over

  pub untouched_shelf : t ≡ s
  untouched_shelf = over_new.taken.1

  ended : Ended status replayed [] h.lines
  ended = over_new.ended [] (λ _. refl)

  pub stops_before : is_done status ≡ false → OwnEnds status replayed.end
  stops_before other = (other, ended.ends)

  -- the digest is of all lines
  all_lines : status ≡ statuses.Done → h.lines ≡ replayed.lines
  all_lines is =
      let e : Ended statuses.Done replayed [] h.lines = subst (λ (s : Status). Ended s replayed [] h.lines) is ended in
      e.lines.bytes ∙ take_all e.lines.count replayed.lines (let all = e.lines.reaches.1 refl in omega arith)

  pub is_all : is_done status ≡ true → (replayed.end ≡ Some done) × (six_lines tally_then digest ≡ own_lines store rest)
  unfolding hash
  is_all all =
      let is : status ≡ statuses.Done = done_status status all in
      let e : Ended statuses.Done replayed [] h.lines = subst (λ (s : Status). Ended s replayed [] h.lines) is ended in
      let counted : tally_of (record { store = store; events = 0; accepted = 0 }) rest.events ≡ tally_then = over_new.counted is [] (λ _. refl) in
      let hashed : sha256 replayed.lines ≡ digest = ap sha256 (sym (all_lines is)) ∙ sym h.digest_is in
      (e.ends refl, ap₂ six_lines (sym counted) (sym hashed))

not_done : (status : Status) → is_done status ≡ false → status ≢ statuses.Done
not_done status other = λ is. absurd (let no : true ≡ false = sym (ap is_done is) ∙ other in cc)

-- what the run of the events did to the shelf, where it ended so or memory ran out behind it
pub own_outside : {T : Type 0} (result : Result T Status) (status : Status) (s t : ShelfTold) → ((took : SinkTold) → OutsideKeeps [] (Some status) s t took took) → status ≢ statuses.Words
    → IfErr result (λ other. ((other ≡ status) × (is_done status ≡ false)) ⊎ (other ≡ statuses.NoMemory)) → FollowsOutside [] result s t
own_outside (Ok made) status s t h command is = record { shelf = (h (record { taken = []; faults = 0; reliable = true })).shelf; read = tt; others = tt }
own_outside (Err other) status s t h command (inl same) =
    let o = h (record { taken = []; faults = 0; reliable = true }) in
    record { shelf = o.shelf; read = rw same.0 o.causes.read; others = rw same.0 (command, λ is. never_rose (o.causes.write is), not_done status same.1) }
own_outside (Err other) status s t h command (inr memory) =
    let o = h (record { taken = []; faults = 0; reliable = true }) in
    record { shelf = o.shelf; read = rw memory (λ is. cc); others = rw memory (λ is. cc, λ is. cc, λ is. cc) }

-- what a digest does to a sink is nothing to another one
pub digest_outside : (status : Status) (s t : ShelfTold) (lines : List ℕ) (took : SinkTold) → OutsideKeeps [] (Some status) s t (hash_told []) (hash_told lines) → OutsideKeeps [] (Some status) s t took took
digest_outside status s t lines took h = record {
  causes = record { read = h.causes.read; write = λ is. absurd (elim (h.causes.write is) [ inl less ↦ omega (arith, less) | inr last ↦ omega (arith, last) ]) };
  shelf = h.shelf;
  sink = sink_keeps_none took;
}

-- its store opened
pub own_opened : {V : Type 0} (items : V → List ℕ) (result : Result V Status) (clashes : Option ClashKind) (end : Option End) (lines : List ℕ) → clashes ≡ None → OwnTold items result end lines → OpenedTold items result clashes end lines
own_opened items (Ok made) clashes end lines none h = (none, h.0, h.1)
own_opened items (Err status) clashes end lines none h = inr (none, h)

-- ---- the split

-- a made chain was followed
pub made_followed : (side : Side) (maker : PlainMaker) (result : Result (Unit {0}) Status) (store : Store) (history : List AcceptedBlock) (left : Followed) (s t : ShelfTold) → history ≡ []
    → FollowedToEnd side result (record { store = store; history = history }) (made_source (begun maker)) s t left → Leaves result (follow (which_of side) (others_of side) store (events_to_come 0 (to_come maker))) left
made_followed side maker result store history left s t new h =
    let k : FollowedToEnd side result (record { store = store; history = [] }) (made_source (begun maker)) s t left = rw new at h in
    k.leaves [] (λ _. refl)

-- it reads no file
pub made_untouched : (maker : PlainMaker) {side : Side} {result : Result (Unit {0}) Status} {followed left : Followed} {s t : ShelfTold} → FollowedToEnd side result followed (made_source (begun maker)) s t left → t ≡ s
made_untouched maker h = h.taken.1

module _ (genesis : PlainState) (store : Store) (left : Followed) (side : Side) (second : which_of side ≡ 1) (same : others_of side ≡ first_accepted genesis left.history) (rest : Events) where
  pub second_over : (status : Status) (left_then : Followed) → Leaves (Err status) (follow (which_of side) (others_of side) store rest) left_then → SplitEnds status (behind_first genesis store (Ok left) rest)
  unfolding behind_first behind_second
  second_over status left_then h = λ on. let e = h on in let is = rw (second, same) at e.2 in (e.0, e.1, rw is refl)

  pub second_told : (left_then : Followed) (made : List ℕ) → Leaves (Ok tt) (follow (which_of side) (others_of side) store rest) left_then → made ≡ two_lines genesis left left_then → behind_first genesis store (Ok left) rest ≡ Ok made
  unfolding behind_first behind_second
  second_told left_then made h lines = let is = rw (second, same) at h in rw (is, lines) refl

module _ (genesis : PlainState) (store : Store) (first second : Events) where
  pub first_over : (status : Status) (left : Followed) → Leaves (Err status) (follow 0 [] store first) left → SplitEnds status (split_lines genesis store first second)
  unfolding split_lines behind_first
  first_over status left h = λ on. let e = h on in (e.0, e.1, rw e.2 refl)

  pub first_told : (left : Followed) → Leaves (Ok tt) (follow 0 [] store first) left → split_lines genesis store first second ≡ behind_first genesis store (Ok left) second
  unfolding split_lines
  first_told left h = rw h refl

-- the genesis doesn't clash, so that its stores open unless memory runs out
pub opening_breaks : (status : Status) (found : Option ClashKind) (split : Result (List ℕ) End) → found ≡ None → OpeningEnds status found → SplitEnds status split
opening_breaks status found split none h = λ on. let e = h.clashes on in absurd (let no = sym none ∙ e.1 in cc)

-- ---- all chains

-- a status that isn't that of a run whose lines are all there
module _ (lines : List ℕ) (split : Result (List ℕ) End) where
  ends_so : (status : Status) (e : End) (end : Option End) → end ≡ Some e → Some e ≡ end_of status → with_split (Some e) lines split ≡ over e → (e : End) × (Some e ≡ end_of status) × (with_split end lines split ≡ over e)
  ends_so status e end is of over_is = (e, of, ap (λ (o : Option End). with_split o lines split) is ∙ over_is)

  split_not_reached : (status : Status) (end : Option End) → is_done status ≡ false → breaks_off status ≡ false → end ≡ end_of status → (e : End) × (Some e ≡ end_of status) × (with_split end lines split ≡ over e)
  unfolding with_split
  split_not_reached statuses.Done end other on is = absurd cc
  split_not_reached statuses.Words end other on is = ends_so statuses.Words _ end is refl refl
  split_not_reached (statuses.Config fault) end other on is = ends_so (statuses.Config fault) _ end is refl refl
  split_not_reached (statuses.Genesis part) end other on is = ends_so (statuses.Genesis part) _ end is refl refl
  split_not_reached (statuses.Record which event fault) end other on is = ends_so (statuses.Record which event fault) _ end is refl refl
  split_not_reached (statuses.Limit which event limit) end other on is = ends_so (statuses.Limit which event limit) _ end is refl refl
  split_not_reached (statuses.Clash which event kind kept_which) end other on is = ends_so (statuses.Clash which event kind kept_which) _ end is refl refl
  split_not_reached (statuses.Deposits fault) end other on is = ends_so (statuses.Deposits fault) _ end is refl refl
  split_not_reached (statuses.Duties fault) end other on is = ends_so (statuses.Duties fault) _ end is refl refl
  split_not_reached (statuses.Anchor fault) end other on is = ends_so (statuses.Anchor fault) _ end is refl refl
  split_not_reached statuses.ReadFault end other on is = absurd cc
  split_not_reached statuses.WriteFault end other on is = absurd cc
  split_not_reached statuses.NoMemory end other on is = absurd cc

split-files : (end : Option End) (lines : List ℕ) (split : Result (List ℕ) End) → (with_split end lines split).files ≡ 0
unfolding with_split
split-files (Some done) lines (Ok more) = refl
split-files (Some done) lines (Err end) = refl
split-files None lines split = refl
split-files (Some no_command) lines split = refl
split-files (Some (bad_config reason)) lines split = refl
split-files (Some (bad_genesis part)) lines split = refl
split-files (Some (bad_record which event reason)) lines split = refl
split-files (Some (limited which event bound)) lines split = refl
split-files (Some (clash which event kind kept_which)) lines split = refl
split-files (Some (bad_deposits fault)) lines split = refl
split-files (Some (bad_duties fault)) lines split = refl
split-files (Some (bad_anchor fault)) lines split = refl

no_files : (clash : Option ClashKind) (genesis : PlainState) (store : Store) (chains : Chains) → (drill_store clash genesis store chains).files ≡ 0
unfolding drill_store drill_events
no_files (Some kind) genesis store chains = refl
no_files None genesis store chains = split-files _ _ _

module _ (clashes : Option ClashKind) (genesis : PlainState) (store : Store) (chains : Chains) where
  abbrev pub drilled : Run
  drilled = drill_store clashes genesis store chains

  abbrev pub split : Result (List ℕ) End
  split = split_lines genesis store chains.first chains.second

  not_opened : (status : Status) → OpeningEnds status clashes → DrillEnds status drilled
  unfolding drill_store
  not_opened status h = (no_files clashes genesis store chains, λ on. let e = h.clashes on in (clash 0 0 e.0 0, ap end_of (sym e.2), rw e.1 refl))

  module _ (none : clashes ≡ None) where
    own_over : (status : Status) → OwnEnds status (with_events 1 store chains.own).end → DrillEnds status drilled
    unfolding drill_store drill_events
    own_over status h = (no_files clashes genesis store chains, λ on. rw none (split_not_reached (own_lines store chains.own) split status (with_events 1 store chains.own).end h.0 on (h.1 on)))

    module _ (end : (with_events 1 store chains.own).end ≡ Some done) where
      split_over : (status : Status) → SplitEnds status split → DrillEnds status drilled
      unfolding drill_store drill_events with_split
      split_over status h = (no_files clashes genesis store chains, λ on. let e = h on in (e.0, e.1, rw (none, end, e.2) refl))

      all_told : (made more : List ℕ) → split ≡ Ok more → made ≡ own_lines store chains.own ++ more → drilled ≡ record { lines = made; end = Some done; files = 0 }
      unfolding drill_store drill_events with_split
      all_told made more is lines = rw (none, end, is, lines) refl

  -- the own chain did not come to its end
  pub opened_over : (status : Status) → OpeningEnds status clashes ⊎ ((clashes ≡ None) × OwnEnds status (with_events 1 store chains.own).end) → DrillEnds status drilled
  opened_over status (inl h) = not_opened status h
  opened_over status (inr h) = own_over h.0 status h.1

  -- it did, and the split comes behind it
  pub behind_own : {V : Type 0} (items : V → List ℕ) (result : Result V Status) (lines : List ℕ) → clashes ≡ None → (with_events 1 store chains.own).end ≡ Some done → lines ≡ own_lines store chains.own
      → BehindTold items result lines split → DrillTold items result drilled
  behind_own items (Ok made) lines none end own h = all_told none end (items made) h.0 h.1 (h.2 ∙ ap (λ (xs : List ℕ). xs ++ h.0) own)
  behind_own items (Err status) lines none end own h = split_over none end status h

-- the run ends before its lines are written
pub drill_over : (status : Status) (run : Run) (w : List ℕ) → DrillEnds status run → Finished status run w w
drill_over status run w h =
    let none : WritesLines (breaks_off status) run.lines w w = no_lines (breaks_off status) run.lines w (omega arith, λ on. sym (ap (λ (r : Run). length r.lines) (h.1 on).2)) in
    record { ends = λ on. ap (λ (r : Run). r.end) (h.1 on).2 ∙ (h.1 on).1; lines = none; pace = pace_none status run w none; files = h.0 }

pub unwritten_is_no_fault_of_reading : (trouble : Trouble) → unwritten trouble ≢ statuses.ReadFault
unwritten_is_no_fault_of_reading troubles.Failed = λ is. cc
unwritten_is_no_fault_of_reading troubles.NoMemory = λ is. cc

-- what became of the sink, where the shelf was only followed
pub writes_then : {T : Type 0} (status : Status) (result : Result T Status) {s t : ShelfTold} {p q : SinkTold} → FollowsOutside [] result s t → WritesOut status p q → status ≢ statuses.ReadFault → OutsideKeeps [] (Some status) s t p q
writes_then status result h w is_read = record { causes = record { read = λ is. absurd (is_read is); write = (w.causes 0).write }; shelf = h.shelf; sink = w.sink }

-- ---- the configuration

pub still_new : (plan : Plan) (maker : PlainMaker) → maker ≡ new_maker plan → maker ≡ new_maker maker.plan
unfolding new_maker
still_new plan maker is = is ∙ ap new_maker (sym (ap (λ (m : PlainMaker). m.plan) is))

plan_is : (plan : Plan) (maker : PlainMaker) → maker ≡ new_maker plan → maker.plan ≡ plan
unfolding new_maker
plan_is plan maker is = ap (λ (m : PlainMaker). m.plan) is

-- the split of a maker is of its plan
pub split_of : (plan : Plan) (which : ℕ) (own maker : PlainMaker) → own ≡ new_maker plan → maker ≡ new_maker (record own.plan { which = Some which }) → maker ≡ new_maker (record plan { which = Some which })
split_of plan which own maker new is = is ∙ ap (λ (p : Plan). new_maker (record p { which = Some which })) (plan_is plan own new)

-- the makers of a plan are those of their own one
pub makers_still : (plan : Plan) (makers : Makers) → AreMakers plan makers → AreMakers makers.own.plan makers
makers_still plan makers are = subst (λ (p : Plan). AreMakers p makers) (sym (plan_is plan makers.own are.own)) are

-- what they give are the plan's chains
pub given_by : (plan : Plan) (maker : PlainMaker) → maker ≡ new_maker plan → events_to_come 0 (to_come maker) ≡ events_to_come 0 (made plan)
unfolding new_maker
given_by plan maker is = ap (events_to_come 0) (ap to_come is ∙ sym (new_has_given plan))

pub makers_give : (plan : Plan) (makers : Makers) → AreMakers plan makers → chains_to_come makers ≡ chains_of plan
unfolding chains_of
makers_give plan makers are =
    let own = given_by plan makers.own are.own in
    let first = given_by (record plan { which = Some 0 }) makers.first are.first in
    let second = given_by (record plan { which = Some 1 }) makers.second are.second in
    λ i. record { own = own i; first = first i; second = second i }

module _ (number : ℕ) (config : ConfigValues) where
  abbrev plan : Plan
  plan = record { config = config; number = number; which = None }

  no_plan_files : (b : Bool) → (if b then drill_plan plan else over (bad_config (OutOfRange EjectionBalance))).files ≡ 0
  unfolding drill_plan
  no_plan_files true = no_files (genesis_clash (genesis_of_plan plan)) (genesis_of_plan plan) (genesis_store config (genesis_of_plan plan)) (chains_of plan)
  no_plan_files false = refl

  pub no_config_files : (drill_config number (Ok config)).files ≡ 0
  unfolding drill_config
  no_config_files = no_plan_files (nat_lt config.ejection_balance 32_000_000_000)

  pub ejects : (w : List ℕ) → nat_lt config.ejection_balance 32_000_000_000 ≡ false → Finished (statuses.Config (OutOfRange EjectionBalance)) (drill_config number (Ok config)) w w
  unfolding drill_config
  ejects w high = rw high (nothing_written (statuses.Config (OutOfRange EjectionBalance)) (bad_config (OutOfRange EjectionBalance)) w refl refl refl refl)

  pub drills : (makers : Makers) (genesis : PlainState) (status : Status) (w x : List ℕ) → nat_lt config.ejection_balance 32_000_000_000 ≡ true → AreMakers plan makers → genesis ≡ genesis_of_plan plan
      → Finished status (drill_store (genesis_clash genesis) genesis (genesis_store config genesis) (chains_to_come makers)) w x → Finished status (drill_config number (Ok config)) w x
  unfolding drill_config drill_plan
  drills makers genesis status w x low are is h = rw (low, ← is, ← makers_give plan makers are) h

  pub begins : (maker : PlainMaker) (genesis : PlainState) → maker ≡ new_maker plan → genesis ≡ genesis_of_plan maker.plan → genesis ≡ genesis_of_plan plan
  begins maker genesis new is = is ∙ ap genesis_of_plan (plan_is plan maker new)

  -- the made genesis begins histories
  pub made_begins : (genesis : PlainState) → IsPreset config.preset → genesis ≡ genesis_of_plan plan → genesis_fault genesis ≡ None → IsGenesis config genesis
  unfolding genesis_of_plan
  made_begins genesis preset is good = record {
    preset = ap (λ (s : PlainState). s.preset) is ∙ (slot_zero config.preset number).2;
    checked = good;
    state = rw is (made_genesis_is_state config.preset number preset);
    range = rw is (made_genesis_in_range config.preset number);
    few = rw is (let many = (made_genesis_calm config.preset number preset).registry.many in omega (arith, many));
  }

-- ---- the configuration's file

-- a run whose files are all read
pub finished : (run : Run) (status : Status) (s : ShelfTold) (w x : List ℕ) → Finished status run w x → EndsOver (λ contents. run) [] status s s w x
finished run status s w x h = record {
  opened = [];
  files = sym (append-nil s.files);
  answers = λ c a. record { ends = h.ends; lines = h.lines; pace = h.pace; asks = record { count = 0; reaches = rw h.files (reaches_all (breaks_off status) 0); names_are = sym (append-nil s.asked) } };
}

module _ (number : ℕ) (name : List ℕ) where
  abbrev pub number_run : (List ℕ → Option (List ℕ)) → Run
  number_run contents = drill_run number (contents name)

  first_file : (config : Option (List ℕ)) → 1 ≤ (drill_run number config).files
  unfolding drill_run
  first_file None = omega arith
  first_file (Some bytes) = omega arith

  -- it could not be read
  pub unread_drill : (trouble : Trouble) (s t : ShelfTold) (w : List ℕ) → Unread name s t → EndsOver number_run (name ∷ []) (unread trouble) s t w w
  unread_drill trouble s t w h = breaks_at_file number_run name [] (unread trouble) s t w (unread_breaks trouble) h (λ c. first_file (c name))

  pub config_drills : (bytes : List ℕ) (s t : ShelfTold) → ReadOf name 65537 bytes s t → (config : Result ConfigValues ConfigFault) (status : Status) (u : ShelfTold) (w x : List ℕ) → config ≡ config_of bytes → u ≡ t → Finished status (drill_config number config) w x
      → EndsOver number_run (name ∷ []) status s u w x
  unfolding drill_run
  config_drills bytes s t read config status u w x is same h =
      rw same (goes_on_behind number_run name [] (λ contents. drill_config number config) read.handed status s t t w x (handed_of read)
      (λ c whole held a. rw (held, sym (ap config_of (read.front whole a) ∙ config_of-prefix whole) ∙ sym is) refl) (finished (drill_config number config) status t w x h))

pub bad_file : (number : ℕ) (reason : ConfigFault) (w : List ℕ) → Finished (statuses.Config reason) (drill_config number (Err reason)) w w
unfolding drill_config
bad_file number reason w = nothing_written (statuses.Config reason) (bad_config reason) w refl refl refl refl
