-- What became of a run of `drill` behind its configuration's file.
use Rattle.std.specs.Prelude.{◌≡◌, ◌⊎◌, ℕ, Bool, true, false, List, [], ◌++◌, Option, Some, None, Result, Ok, Err}
use Rattle.sha2.specs.Sha256.{sha256}
use Rattle.hash_tree.specs.Merkle.{hash}
use Rattle.bc_outside.specs.Told.{ShelfTold, SinkTold}
use Rattle.bc_outside.specs.Calls.{SinkKeeps}
use Rattle.bc_words.specs.declared.store_stop.ClashKind.{ClashKind}
use Rattle.record_file.specs.Record.{Events}
use Rattle.record_file.specs.Sources.{Source}
use Rattle.spec_fork_choice.specs.Store.{Store}
use Rattle.spec_drill.specs.AsEvents.{events_to_come}
use Rattle.spec_drill.specs.Maker.{new_maker, to_come}
use Rattle.spec_drill.specs.Plan.{Plan}
use Rattle.spec_replay.specs.Run.{Run, End, done, over, with_events}
use Rattle.spec_replay.specs.Drill.{Chains, Tally, six_lines, tally_of}
use Rattle.beacon_node.specs.declared.drill.Makers.{Makers}
use Rattle.one_chain.specs.declared.status.Status.{Status}
use Rattle.one_chain.specs.declared.status.Status.TheVariants as statuses
use Rattle.one_chain.specs.Answers.{breaks_off, may_lack_lines, end_of, whole_of, WritesLines, HasCauses}
use Rattle.one_chain.specs.inside.Progress.{EventsOver}
use Rattle.beacon_node.specs.inside.Histories.{OpeningEnds}

-- whether all was done
abbrev pub is_done : Status → Bool
is_done statuses.Done = true
is_done _ = false

-- The run is over, and asked for no further file. It wrote at its end alone.
pub record Finished (status : Status) (run : Run) (written written_then : List ℕ) : Type 0 where
  pub ends : breaks_off status ≡ false → run.end ≡ end_of status
  pub lines : WritesLines (breaks_off status) run.lines written written_then
  pub pace : WritesLines (may_lack_lines status) (whole_of status run).lines written written_then
  pub files : run.files ≡ 0

-- What writing at the end does to a sink.
pub record WritesOut (status : Status) (took took_then : SinkTold) : Type 0 where
  pub causes : (faults : ℕ) → HasCauses status faults faults took.faults took_then.faults
  pub sink : SinkKeeps took took_then

-- The run of the events is over, and their lines have this digest.
pub record Digested (status : Status) (digest : List ℕ) (tally : Tally) (place : Source) (told told_then : ShelfTold) (tally_then : Tally) : Type 0 where
  pub lines : List ℕ
  pub digest_is : digest ≡ sha256 lines
  pub over : EventsOver status tally place told told_then [] lines tally_then

-- The makers of a plan, which gave nothing yet.
pub record AreMakers (plan : Plan) (makers : Makers) : Type 0 where
  pub own : makers.own ≡ new_maker plan
  pub first : makers.first ≡ new_maker (record plan { which = Some 0 })
  pub second : makers.second ≡ new_maker (record plan { which = Some 1 })

-- what they give
abbrev pub chains_to_come : Makers → Chains
chains_to_come makers = record {
  own = events_to_come 0 (to_come makers.own);
  first = events_to_come 0 (to_come makers.first);
  second = events_to_come 0 (to_come makers.second);
}

-- the six lines of these events on a store
abbrev pub own_lines : Store → Events → List ℕ
own_lines store rest = six_lines (tally_of (record { store = store; events = 0; accepted = 0 }) rest.events) (hash (with_events 1 store rest).lines)

-- The run of the own chain ends before all was done.
abbrev pub OwnEnds : Status → Option End → Type 0
OwnEnds status end = (is_done status ≡ false) × (breaks_off status ≡ false → end ≡ end_of status)

-- The run ends in the split.
abbrev pub SplitEnds : Status → Result (List ℕ) End → Type 0
SplitEnds status split = breaks_off status ≡ false → (end : End) × (Some end ≡ end_of status) × (split ≡ Err end)

-- The run ends with nothing to write.
abbrev pub DrillEnds : Status → Run → Type 0
DrillEnds status run = (run.files ≡ 0) × (breaks_off status ≡ false → (end : End) × (Some end ≡ end_of status) × (run ≡ over end))

-- The own chain came to its end, and these are its lines; or its run ends.
abbrev pub OwnTold : {V : Type 0} → (V → List ℕ) → Result V Status → Option End → List ℕ → Type 0
OwnTold items (Ok made) end lines = (end ≡ Some done) × (items made ≡ lines)
OwnTold items (Err status) end lines = OwnEnds status end

-- The store of the own chain opened at genesis, its chain came to its end, and these are its lines; or the run ends.
abbrev pub OpenedTold : {V : Type 0} → (V → List ℕ) → Result V Status → Option ClashKind → Option End → List ℕ → Type 0
OpenedTold items (Ok made) clashes end lines = (clashes ≡ None) × (end ≡ Some done) × (items made ≡ lines)
OpenedTold items (Err status) clashes end lines = OpeningEnds status clashes ⊎ ((clashes ≡ None) × OwnEnds status end)

-- Both chains of the split came to their end, and these are the lines; or the run ends.
abbrev pub SplitTold : {V : Type 0} → (V → List ℕ) → Result V Status → Result (List ℕ) End → Type 0
SplitTold items (Ok made) split = split ≡ Ok (items made)
SplitTold items (Err status) split = SplitEnds status split

-- And these are the lines behind others.
abbrev pub BehindTold : {V : Type 0} → (V → List ℕ) → Result V Status → List ℕ → Result (List ℕ) End → Type 0
BehindTold items (Ok made) lines split = (more : List ℕ) × (split ≡ Ok more) × (items made ≡ lines ++ more)
BehindTold items (Err status) lines split = SplitEnds status split

-- The run writes these lines at its end; or it ends before.
abbrev pub DrillTold : {V : Type 0} → (V → List ℕ) → Result V Status → Run → Type 0
DrillTold items (Ok made) run = run ≡ record { lines = items made; end = Some done; files = 0 }
DrillTold items (Err status) run = DrillEnds status run
