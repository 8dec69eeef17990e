-- One layer over all halves.
use Rattle.std.proofs.Common.{◌∙◌, length, ap, arith}
use Rattle.hash_tree.specs.Pairs.{parents}
use Rattle.beacon_types.proofs.AttestationLanes.{attestations_of, count_halves}
use Rattle.beacon_types.proofs.attestation_roots.write_attestation_roots.Goals as goal

pub hash_layer-requires : goal.hash_layer-requires
hash_layer-requires c = ap length c.requires.halves ∙ (count_halves c.args.attestations.now ∙ omega (arith, c.requires.out))

pub returns : goal.returns
returns c = c.hash_layer.ensures ∙ (ap parents c.requires.halves ∙ attestations_of c.args.attestations.now)
