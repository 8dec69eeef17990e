-- What `forensic` finds, in words of its own: whatever two records hold, and however the run went.
use Rattle.std.specs.Prelude.{◌≡◌, ℕ, ◌≤◌, ◌*◌, List, ◌++◌, All, flat_map}
use Rattle.bc_preset.specs.declared.configuration.ConfigValues.{ConfigValues}
use Rattle.spec_state.specs.declared.plain.PlainState.{PlainState}
use Rattle.spec_forensics.specs.declared.offence.Offence.{Offence}
use Rattle.spec_forensics.specs.declared.verdict.Verdict.{Verdict}
use Rattle.spec_forensics.specs.declared.verdict.Verdict.TheVariants.{Conflict}
use Rattle.spec_forensics.specs.CarriedVotes.{all_votes}
use Rattle.spec_forensics.specs.Histories.{AcceptedBlock, IsHistory}
use Rattle.spec_forensics.specs.Offences.{IsCarried}
use Rattle.spec_forensics.specs.Steady.{genesis_total}
use Rattle.spec_forensics.specs.Verdict.{balance_of}
use Rattle.spec_replay.specs.Forensic.{verdict_line}
use Rattle.spec_replay.specs.OffenceLines.{offence_line}

-- The offenders of a conflict have at least a third of the total at genesis.
pub record IsThird (genesis : PlainState) (offences : List Offence) (balance total : ℕ) : Type 0 where
  pub balance_is : balance ≡ balance_of genesis offences
  pub total_is : total ≡ genesis_total genesis
  pub third : total ≤ 3 * balance

-- The lines of offences and then that of a verdict were written. Each offence is of two votes that blocks of two histories on one genesis
-- carry and that nobody may cast both. Where the verdict is a conflict, the offenders have a third of the total.
pub record WritesFindings (written written_then : List ℕ) : Type 0 where
  pub config : ConfigValues
  pub genesis : PlainState
  pub first : List AcceptedBlock
  pub second : List AcceptedBlock
  pub first_is : IsHistory config genesis first
  pub second_is : IsHistory config genesis second
  pub offences : List Offence
  pub verdict : Verdict
  pub lines : written_then ≡ written ++ (flat_map offence_line offences ++ verdict_line verdict)
  pub carried : All (IsCarried (all_votes genesis first second)) offences
  pub third : (balance total : ℕ) → verdict ≡ Conflict balance total → IsThird genesis offences balance total
