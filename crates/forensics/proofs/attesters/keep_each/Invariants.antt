use Rattle.std.proofs.Common.{◌≡◌, map, take}
use Rattle.forensics.specs.inside.Carriers.{attested_in}
use Rattle.forensics.proofs.attesters.keep_each.Given as goal

abbrev pub invariant-loop-attestation : goal.invariant-loop-attestation
invariant-loop-attestation l = l.all.items ≡ map (attested_in l.state) (take l.attestation-index l.attestations)
