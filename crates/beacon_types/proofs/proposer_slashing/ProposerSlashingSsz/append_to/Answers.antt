use Rattle.std.proofs.Common.{◌≡◌, ℕ, List, [], ◌++◌, subst, append_assoc}
use Rattle.std.proofs.lemmas.List.{append-nil}
use Rattle.std.specs.Result.{OnOk}
use Rattle.ssz_codec.specs.Layout.{joined, fixed_parts, variable_parts}
use Rattle.ssz_codec.specs.Containers.{layout_of, parts_of}
use Rattle.beacon_types.specs.Containers.{signed_header_codec}
use Rattle.beacon_types.specs.Blocks.{proposer_slashing_fields}
use Rattle.beacon_types.specs.declared.proposer_slashing.ProposerSlashing.{ProposerSlashing}
use Rattle.beacon_types.proofs.proposer_slashing.ProposerSlashingSsz.append_to.Goals as goal

-- the two headers in their order
headers_joined : (p : ProposerSlashing)
    → signed_header_codec.serialize p.signed_header_1 ++ (signed_header_codec.serialize p.signed_header_2 ++ [])
    ≡ joined (layout_of proposer_slashing_fields) (parts_of proposer_slashing_fields p)
unfolding joined fixed_parts variable_parts
headers_joined p = simp (append_assoc, append-nil)

pub returns-clause-ok : goal.returns-clause-ok
returns-clause-ok c =
    subst (λ (whole : List ℕ). OnOk c.write_container.result (c.write_container.new.out ≡ c.args.out.now ++ whole)) (headers_joined c.args.self.now) c.write_container.ensures.ok
