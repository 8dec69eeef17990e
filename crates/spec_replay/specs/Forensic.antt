-- The run of `forensic CONFIG GENESIS A B` and of `slasher CONFIG GENESIS A B`: two records run on one genesis, each in a store of its
-- own. What is told of them is what is written: by `forensic` the offences and the verdict, by `slasher` the attester slashings.
use Rattle.std.specs.Prelude.{ℕ, ◌+◌, List, [], ◌∷◌, ◌++◌, flat_map, codes, ◌==◌, Option, Some, None, Result, Ok, Err, option_and_then}
use Rattle.std.specs.Fmt.{decimal}
use Rattle.bc_preset.specs.Configs.{config_of}
use Rattle.bc_preset.specs.declared.configuration.ConfigValues.{ConfigValues}
use Rattle.bc_preset.specs.declared.faults.ConfigFault.{ConfigFault}
use Rattle.bc_words.specs.Events.{EventOutcome, accepted, event_refused, event_limited, event_clashes}
use Rattle.bc_words.specs.declared.store_stop.ClashKind.{ClashKind}
use Rattle.bc_words.specs.declared.store_stop.ClashKind.TheVariants.{Kept}
use Rattle.spec_state.specs.Genesis.{genesis_of}
use Rattle.spec_state.specs.declared.plain.PlainState.{PlainState}
use Rattle.spec_state.specs.declared.fault.GenesisFault.{GenesisFault}
use Rattle.record_file.specs.Record.{Events, events_of}
use Rattle.record_file.specs.Record as record_file
use Rattle.record_file.specs.declared.event.Event.{Event}
use Rattle.spec_fork_choice.specs.Store.{KeptBlock, Store, block_of}
use Rattle.spec_fork_choice.specs.GetForkchoiceStore.{genesis_store}
use Rattle.spec_fork_choice.specs.OnEvent.{Accepted, block, other, on_event, genesis_clash}
use Rattle.spec_forensics.specs.declared.verdict.Verdict.{Verdict}
use Rattle.spec_forensics.specs.declared.verdict.Verdict.TheVariants.{Agree, Small, Moved, Conflict}
use Rattle.spec_forensics.specs.Histories.{AcceptedBlock, with_event}
use Rattle.spec_forensics.specs.Clash.{clash_among, first_accepted}
use Rattle.spec_forensics.specs.Verdict.{offences_of, verdict_of}
use Rattle.spec_slasher.specs.Operations.{operations}
use Rattle.spec_replay.specs.declared.report.Report.{Report}
use Rattle.spec_replay.specs.declared.report.Report.TheVariants.{Findings, Slashings}
use Rattle.spec_replay.specs.Lines.{root_text}
use Rattle.spec_replay.specs.OffenceLines.{history_text, offence_line}
use Rattle.spec_replay.specs.Slasher.{slashing_record}
use Rattle.spec_replay.specs.Run.{Run, End, done, bad_config, bad_genesis, bad_record, limited, clash, over, missing, after_file, after_lines}

-- ---- a record's history

-- a store, and the history of the blocks that it accepted, the latest first
pub record Followed : Type 0 where
  pub store : Store
  pub history : List AcceptedBlock

-- the place of the other block that has an accepted block's root and another content, if there is one
unfoldable pub clash_of_accepted : List KeptBlock → Store → Accepted → Option ℕ
clash_of_accepted others store other = None
clash_of_accepted others store (block given) = option_and_then (λ kept. clash_among others given.root kept.block) (block_of store.blocks given.root)

unfoldable pub unless_clash : ℕ → ℕ → Option ℕ → Result Followed End → Result Followed End
unless_clash which number (Some place) rest = Err (clash which number (Kept place) 0)
unless_clash which number None rest = rest

-- What the event with this number makes, and then the events behind it. An accepted block is compared with the blocks of the other
-- history that was followed before, behind those of its own store. At a bound and a clash the run is over
unfoldable pub follow_then : ℕ → List KeptBlock → ℕ → Followed → EventOutcome (Store × Accepted) → (Followed → Result Followed End) → Result Followed End
follow_then which others number followed (accepted new) rest =
    unless_clash which number (clash_of_accepted others new.0 new.1) (rest (record { store = new.0; history = with_event number followed.history new.0 new.1 }))
follow_then which others number followed (event_refused why) rest = rest followed
follow_then which others number followed (event_limited bound) rest = Err (limited which number bound)
follow_then which others number followed (event_clashes kind) rest = Err (clash which number kind which)

-- what is left where the events of a record end so
abbrev pub follow_end : ℕ → Followed → record_file.End → Result Followed End
follow_end which followed record_file.done = Ok followed
follow_end which followed (record_file.fault event reason) = Err (bad_record which event reason)
follow_end which followed (record_file.limited event bound) = Err (limited which event bound)

-- the events in turn, the first of which has this number
unfoldable pub follow_events : ℕ → List KeptBlock → ℕ → Followed → List Event → record_file.End → Result Followed End
follow_events which others number followed [] end = follow_end which followed end
follow_events which others number followed (event ∷ events) end =
    follow_then which others number followed (on_event followed.store event.kind event.payload) (λ after. follow_events which others (number + 1) after events end)

-- the events of a record on a store at genesis: what they leave, or how they end the run
abbrev pub follow : ℕ → List KeptBlock → Store → Events → Result Followed End
follow which others store events = follow_events which others 1 (record { store = store; history = [] }) events.events events.end

-- ---- what is told

-- the line of the verdict
unfoldable pub verdict_line : Verdict → List ℕ
verdict_line Agree = codes "verdict agree" ++ 10 ∷ []
verdict_line (Small total) = codes "verdict small " ++ (decimal total ++ 10 ∷ [])
verdict_line (Moved which root epoch) = codes "verdict moved " ++ (history_text which ++ (codes " " ++ (root_text root ++ (codes " " ++ (decimal epoch ++ 10 ∷ [])))))
verdict_line (Conflict balance total) = codes "verdict conflict " ++ (decimal balance ++ (codes " " ++ (decimal total ++ 10 ∷ [])))

-- the verdict on what two records left; each history finalised what its store did at the end
abbrev pub verdict_on : PlainState → Followed → Followed → Verdict
verdict_on genesis first second = verdict_of genesis first.history second.history first.store.finalized_checkpoint second.store.finalized_checkpoint

-- the offences, and then the verdict
unfoldable pub forensic_lines : PlainState → Followed → Followed → List ℕ
forensic_lines genesis first second = flat_map offence_line (offences_of genesis first.history second.history) ++ verdict_line (verdict_on genesis first second)

-- what a command tells of both records
unfoldable pub told_of : Report → PlainState → Followed → Followed → List ℕ
told_of Findings genesis first second = forensic_lines genesis first second
told_of Slashings genesis first second = slashing_record (operations genesis first.history second.history)

-- ---- the files

-- both records were followed, unless the second ended the run
unfoldable pub judge : Report → PlainState → Followed → Result Followed End → Run
judge report genesis first (Err end) = over end
judge report genesis first (Ok second) = after_lines (told_of report genesis first second) (over done)

-- the second record, if it is there
unfoldable pub with_second : Report → PlainState → Store → Followed → Option (List ℕ) → Run
with_second report genesis store first None = missing
with_second report genesis store first (Some bytes) = after_file (judge report genesis first (follow 1 (first_accepted genesis first.history) store (events_of bytes)))

-- the first record was followed, unless it ended the run; only then the second one is asked for
unfoldable pub behind_first : Report → PlainState → Store → Result Followed End → Option (List ℕ) → Run
behind_first report genesis store (Err end) second = over end
behind_first report genesis store (Ok first) second = with_second report genesis store first second

-- the first record, if it is there
unfoldable pub with_first : Report → PlainState → Store → Option (List ℕ) → Option (List ℕ) → Run
with_first report genesis store None second = missing
with_first report genesis store (Some bytes) second = after_file (behind_first report genesis store (follow 0 [] store (events_of bytes)) second)

-- the store at genesis, unless the genesis block clashes
unfoldable pub with_store : Report → Option ClashKind → PlainState → Store → Option (List ℕ) → Option (List ℕ) → Run
with_store report (Some kind) genesis store first second = over (clash 0 0 kind 0)
with_store report None genesis store first second = with_first report genesis store first second

-- the genesis state, or its first fault
unfoldable pub with_state : Report → ConfigValues → Result PlainState GenesisFault → Option (List ℕ) → Option (List ℕ) → Run
with_state report config (Err part) first second = over (bad_genesis part)
with_state report config (Ok genesis) first second = with_store report (genesis_clash genesis) genesis (genesis_store config genesis) first second

-- the genesis file, if it is there
unfoldable pub with_genesis : Report → ConfigValues → Option (List ℕ) → Option (List ℕ) → Option (List ℕ) → Run
with_genesis report config None first second = missing
with_genesis report config (Some bytes) first second = after_file (with_state report config (genesis_of config.preset bytes) first second)

-- the configuration, or its first fault
unfoldable pub with_config : Report → Result ConfigValues ConfigFault → Option (List ℕ) → Option (List ℕ) → Option (List ℕ) → Run
with_config report (Err reason) genesis first second = over (bad_config reason)
with_config report (Ok config) genesis first second = with_genesis report config genesis first second

-- the run of two records: the configuration's file, if it is there, and then the genesis file and the two records
unfoldable pub records_run : Report → Option (List ℕ) → Option (List ℕ) → Option (List ℕ) → Option (List ℕ) → Run
records_run report None genesis first second = missing
records_run report (Some bytes) genesis first second = after_file (with_config report (config_of bytes) genesis first second)

-- the runs of the two commands
abbrev pub forensic_run : Option (List ℕ) → Option (List ℕ) → Option (List ℕ) → Option (List ℕ) → Run
forensic_run = records_run Findings

abbrev pub slasher_run : Option (List ℕ) → Option (List ℕ) → Option (List ℕ) → Option (List ℕ) → Run
slasher_run = records_run Slashings
