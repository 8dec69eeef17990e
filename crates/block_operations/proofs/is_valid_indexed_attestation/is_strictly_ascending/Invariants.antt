use Rattle.std.proofs.Common.{◌≡◌, drop}
use Rattle.spec_blocks.specs.IsValidIndexedAttestation.{is_strictly_ascending}
use Rattle.block_operations.proofs.is_valid_indexed_attestation.is_strictly_ascending.Given as goal

abbrev pub invariant-loop-i : goal.invariant-loop-i
invariant-loop-i l = is_strictly_ascending (drop l.i l.indices) ≡ is_strictly_ascending l.indices
