use Rattle.std.proofs.Common.{◌≡◌, true, replicate}
use Rattle.chain_maker.proofs.attestations.all_set.Given as goal

abbrev pub invariant-loop-index : goal.invariant-loop-index
invariant-loop-index l = l.bits ≡ replicate l.index true
