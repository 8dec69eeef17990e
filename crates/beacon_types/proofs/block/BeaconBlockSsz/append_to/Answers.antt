use Rattle.std.proofs.Common.{◌≡◌, ℕ, List, [], ◌++◌, subst, append_assoc}
use Rattle.std.proofs.lemmas.List.{append-nil}
use Rattle.std.specs.Result.{OnOk}
use Rattle.hash_tree.specs.Merkle.{uint_to_bytes}
use Rattle.ssz_codec.specs.Layout.{joined, fixed_parts, variable_parts, offset_bytes}
use Rattle.ssz_codec.specs.Containers.{layout_of, parts_of}
use Rattle.beacon_types.specs.Blocks.{block_fields, block_body_codec}
use Rattle.beacon_types.specs.declared.block.BeaconBlock.{BeaconBlock}
use Rattle.beacon_types.proofs.block.BeaconBlockSsz.append_to.Goals as goal

regroup : (a b c d e f : List ℕ) → a ++ (b ++ (c ++ (d ++ (e ++ (f ++ []))))) ≡ (a ++ (b ++ (c ++ (d ++ (e ++ []))))) ++ (f ++ [])
regroup a b c d e f = simp (append_assoc, append-nil)

-- the body begins behind four fields and its own offset
pieces_joined : (b : BeaconBlock)
    → uint_to_bytes b.slot ++ (uint_to_bytes b.proposer_index ++ (b.parent_root ++ (b.state_root ++ (offset_bytes 84 ++ (block_body_codec.serialize b.body ++ [])))))
    ≡ joined (layout_of block_fields) (parts_of block_fields b)
unfolding joined fixed_parts variable_parts
pieces_joined b = regroup (uint_to_bytes b.slot) (uint_to_bytes b.proposer_index) b.parent_root b.state_root (offset_bytes 84) (block_body_codec.serialize b.body)

pub returns-clause-ok : goal.returns-clause-ok
returns-clause-ok c =
    subst (λ (whole : List ℕ). OnOk c.write_pieces.result (c.write_pieces.new.out ≡ c.args.out.now ++ whole)) (pieces_joined c.args.self.now) c.write_pieces.ensures.ok
