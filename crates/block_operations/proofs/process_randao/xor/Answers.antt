-- One byte more is mixed.
use Rattle.std.proofs.Common.{get_or, ap, ◌∙◌, rules}
use Rattle.std.proofs.Math.ListN.{set}
use Rattle.std.specs.Prelude.{bit_xor}
use Rattle.block_operations.proofs.Xor.{xor_goes_on}
use Rattle.block_operations.proofs.process_randao.xor.Goals as goal

pub loop-i-preserved : goal.loop-i-preserved
loop-i-preserved c =
    let first = c.args.bytes_1.now in
    let second = c.args.bytes_2.now in
    ap (λ mixed. set mixed c.loop-i.i (bit_xor (get_or first c.loop-i.i 0) (get_or second c.loop-i.i 0))) c.loop-i.invariant
    ∙ xor_goes_on first second c.loop-i.i (search rules) (search rules)
