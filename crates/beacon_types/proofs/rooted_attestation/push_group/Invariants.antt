-- The attestations so far stand behind those that were there.
use Rattle.std.proofs.Common.{◌≡◌, ◌++◌, take}
use Rattle.beacon_types.proofs.rooted_attestation.push_group.Given as goal

abbrev pub invariant-group : goal.invariant-group
invariant-group l = l.rooted.items ≡ l.fn.rooted.items ++ take l.i l.attestations
