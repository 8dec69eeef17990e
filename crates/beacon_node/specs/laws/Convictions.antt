-- What `forensic` and `slasher` tell, by the definitions of their runs alone.
use Rattle.std.specs.Prelude.{◌≡◌, ℕ, List, [], All, Some, Ok}
use Rattle.bc_preset.specs.Presets.{IsPreset}
use Rattle.bc_preset.specs.declared.configuration.ConfigValues.{ConfigValues}
use Rattle.ssz_codec.specs.Lawful.{IsBytes}
use Rattle.record_file.specs.Record.{Events, events_of}
use Rattle.spec_state.specs.Genesis.{genesis_of}
use Rattle.spec_state.specs.declared.plain.PlainState.{PlainState}
use Rattle.spec_fork_choice.specs.GetForkchoiceStore.{genesis_store}
use Rattle.spec_forensics.specs.declared.verdict.Verdict.TheVariants.{Conflict}
use Rattle.spec_forensics.specs.CarriedVotes.{all_votes}
use Rattle.spec_forensics.specs.Clash.{first_accepted}
use Rattle.spec_forensics.specs.Offences.{IsCarried}
use Rattle.spec_forensics.specs.Verdict.{offences_of}
use Rattle.safety_law.specs.Histories.{AreHistories}
use Rattle.spec_replay.specs.Run.{done}
use Rattle.spec_slasher.specs.Operations.{operations}
use Rattle.spec_replay.specs.Forensic.{Followed, follow, told_of, verdict_on, with_genesis}
use Rattle.spec_replay.specs.declared.report.Report.{Report}
use Rattle.beacon_node.specs.Findings.{IsThird}
use Rattle.beacon_node.specs.Slashings.{Accuses}

-- The events of two records were followed to their end on this genesis. What they left are two histories, in both of which together a root
-- is a name for one block; the lines are what the command tells of them. Each of their offences is of two votes that they carry, and where
-- their verdict is a conflict, the offenders have at least a third of the total. The attester slashings that they give accuse the offenders.
pub record FindsOut (report : Report) (config : ConfigValues) (genesis : PlainState) (a b : Events) (lines : List ℕ) : Type 0 where
  pub first : Followed
  pub second : Followed
  pub first_is : follow 0 [] (genesis_store config genesis) a ≡ Ok first
  pub second_is : follow 1 (first_accepted genesis first.history) (genesis_store config genesis) b ≡ Ok second
  pub histories : AreHistories config genesis first.history second.history
  pub lines_are : lines ≡ told_of report genesis first second
  pub carried : All (IsCarried (all_votes genesis first.history second.history)) (offences_of genesis first.history second.history)
  pub third : (balance total : ℕ) → verdict_on genesis first second ≡ Conflict balance total → IsThird genesis (offences_of genesis first.history second.history) balance total
  pub accuses : Accuses genesis first.history second.history (operations genesis first.history second.history)

-- Under a configuration of either preset, where the run on these files ends well, its lines are found out of exactly these files.
abbrev pub ConvictsOfTheRecords : Type 0
ConvictsOfTheRecords = (report : Report) (config : ConfigValues) (genesis first second : List ℕ) → IsPreset config.preset → IsBytes genesis → IsBytes first → IsBytes second
    → (with_genesis report config (Some genesis) (Some first) (Some second)).end ≡ Some done
    → (state : PlainState) × (genesis_of config.preset genesis ≡ Ok state)
    × FindsOut report config state (events_of first) (events_of second) (with_genesis report config (Some genesis) (Some first) (Some second)).lines
