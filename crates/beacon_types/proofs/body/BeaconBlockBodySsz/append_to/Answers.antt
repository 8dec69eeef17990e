use Rattle.std.proofs.Common.{◌≡◌, ℕ, List, ◌++◌, refl, subst}
use Rattle.std.specs.Result.{OnOk}
use Rattle.ssz_codec.specs.Containers.{layout_of, parts_of}
use Rattle.ssz_codec.proofs.Halves.{halves_joined}
use Rattle.beacon_types.specs.Blocks.{block_body_fields}
use Rattle.beacon_types.proofs.body.BeaconBlockBodySsz.append_to.Goals as goal

-- the two halves are the writing
pub returns-clause-ok : goal.returns-clause-ok
returns-clause-ok c =
    subst (λ (whole : List ℕ). OnOk c.write_variable_container.result (c.write_variable_container.new.out ≡ c.args.out.now ++ whole))
    (halves_joined (layout_of block_body_fields) (parts_of block_body_fields c.args.self.now) 220 refl)
    c.write_variable_container.ensures.ok
