-- The attestations so far, and those that are left.
use Rattle.std.proofs.Common.{◌≡◌, ◌++◌}
use Rattle.beacon_types.proofs.rooted_attestation.rooted_attestations.Given as goal

abbrev pub invariant-loop-group : goal.invariant-loop-group
invariant-loop-group l = record { all : l.rooted.items ++ l.group-iterator.rest.now ≡ l.attestations; size : l.group-iterator.size ≡ 8 }
