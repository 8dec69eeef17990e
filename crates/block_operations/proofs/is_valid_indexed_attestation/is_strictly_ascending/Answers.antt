-- Two neighbours that don't fall rise: equal ones aren't passed.
use Rattle.std.proofs.Common.{◌+◌, sym, ◌∙◌, arith}
use Rattle.block_operations.proofs.Ascending.{ascends_here, ascends_to_the_end}
use Rattle.block_operations.proofs.is_valid_indexed_attestation.is_strictly_ascending.Goals as goal
use Rattle.block_operations.proofs.is_valid_indexed_attestation.is_strictly_ascending.Goals.{else-i-indices-via-then-i-indices+else-indices-i, else-i-indices-via-else-i-indices}

pub loop-i-preserved : goal.loop-i-preserved
loop-i-preserved c =
    let indices = c.args.indices.now in
    let i = c.loop-i.i in
    elim c.else-i-indices.branch [
      | else-i-indices-via-then-i-indices+else-indices-i w ↦ sym (ascends_here indices i (omega arith) (omega arith)) ∙ c.loop-i.invariant
      | else-i-indices-via-else-i-indices w ↦
          ascends_to_the_end indices (i + 1) (omega arith) ∙ sym (ascends_to_the_end indices i (omega arith)) ∙ c.loop-i.invariant
    ]
