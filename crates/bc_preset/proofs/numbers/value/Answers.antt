use Rattle.std.proofs.Common.{arith, sym, ◌∙◌}
use Rattle.bc_preset.proofs.Digits.{value_more, value_fits}
use Rattle.bc_preset.proofs.numbers.value.Goals as goal

pub loop-b-preserved : goal.loop-b-preserved
loop-b-preserved c =
    let fits = value_fits _ _ (sym c.with_digit.ensures ∙ c.in_ok-value.was) in
    let more = value_more c.args.digits.now c.loop-b.b-index (omega arith) in
    (omega arith, omega arith)
