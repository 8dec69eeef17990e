use Rattle.std.proofs.Common.{◌≡◌, ℕ, List, [], ◌++◌, subst, append_assoc}
use Rattle.std.proofs.lemmas.List.{append-nil}
use Rattle.std.specs.Result.{OnOk}
use Rattle.hash_tree.specs.Merkle.{uint_to_bytes}
use Rattle.ssz_codec.specs.Layout.{joined, fixed_parts, variable_parts, offset_bytes}
use Rattle.ssz_codec.specs.Containers.{layout_of, parts_of}
use Rattle.beacon_types.specs.Containers.{pending_attestation_fields, aggregation_bits_codec, attestation_data_codec}
use Rattle.beacon_types.specs.declared.pending_attestation.PendingAttestation.{PendingAttestation}
use Rattle.beacon_types.proofs.pending_attestation.PendingAttestationSsz.append_to.Goals as goal

regroup : (a b c d e : List ℕ) → a ++ (b ++ (c ++ (d ++ (e ++ [])))) ≡ (a ++ (b ++ (c ++ (d ++ [])))) ++ (e ++ [])
regroup a b c d e = simp (append_assoc, append-nil)

-- the bits begin behind their offset and three fields
pieces_joined : (p : PendingAttestation)
    → offset_bytes 148 ++ (attestation_data_codec.serialize p.content ++ (uint_to_bytes p.inclusion_delay ++ (uint_to_bytes p.proposer_index ++ (aggregation_bits_codec.serialize p.aggregation_bits ++ []))))
    ≡ joined (layout_of pending_attestation_fields) (parts_of pending_attestation_fields p)
unfolding joined fixed_parts variable_parts
pieces_joined p = regroup (offset_bytes 148) (attestation_data_codec.serialize p.content) (uint_to_bytes p.inclusion_delay) (uint_to_bytes p.proposer_index) (aggregation_bits_codec.serialize p.aggregation_bits)

pub returns-clause-ok : goal.returns-clause-ok
returns-clause-ok c =
    subst (λ (whole : List ℕ). OnOk c.write_pieces.result (c.write_pieces.new.out ≡ c.args.out.now ++ whole)) (pieces_joined c.args.self.now) c.write_pieces.ensures.ok
