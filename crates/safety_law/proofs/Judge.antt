-- A verdict of conflict names validators with a third of the genesis total.
use Rattle.std.proofs.Common.{◌≡◌, ℕ, ◌*◌, ◌≤◌, List, arith}
use Rattle.bc_preset.specs.declared.configuration.ConfigValues.{ConfigValues}
use Rattle.beacon_types.specs.declared.checkpoint.Checkpoint.{Checkpoint}
use Rattle.spec_state.specs.declared.plain.PlainState.{PlainState}
use Rattle.spec_forensics.specs.declared.verdict.Verdict.TheVariants.{Conflict}
use Rattle.spec_forensics.specs.Histories.{AcceptedBlock}
use Rattle.spec_forensics.specs.Verdict.{verdict_of}
use Rattle.safety_law.specs.Histories.{AreHistories}
use Rattle.safety_law.specs.Finals.{IsFinalOf}
use Rattle.safety_law.proofs.Safety.{conflict_convicts}
use Rattle.safety_law.proofs.Verdicts.{verdict_says}

-- A verdict of conflict on what two histories finalised: three times the offenders' balance is at least the total
pub verdict_convicts : (config : ConfigValues) (genesis : PlainState) (first second : List AcceptedBlock) (a b : Checkpoint) (balance total : ℕ) → AreHistories config genesis first second
    → IsFinalOf genesis first a → IsFinalOf genesis second b → verdict_of genesis first second a b ≡ Conflict balance total → total ≤ 3 * balance
verdict_convicts config genesis first second a b balance total are a_final b_final is =
    let says = verdict_says genesis first second a b balance total is in
    let third = conflict_convicts config genesis first second a b are a_final b_final says.conflict says.large says.first_stays says.second_stays in
    let balance_is = says.balance_is in
    let total_is = says.total_is in
    omega arith
