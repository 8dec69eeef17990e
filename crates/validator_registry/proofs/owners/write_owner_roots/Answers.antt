-- The roots over both columns.
use Rattle.std.proofs.Common.{◌≡◌, ◌∙◌, ℕ, List, length, map, ap, ap₂}
use Rattle.std.proofs.lemmas.List.{length-map, take_at}
use Rattle.std.specs.Simd.Lanes.{zip2}
use Rattle.beacon_types.specs.declared.validator.Validator.{Validator}
use Rattle.beacon_types.specs.inside.ValidatorChunks.{key_root}
use Rattle.validator_registry.proofs.MemberRoots.{joined_hash, owners_of_columns}
use Rattle.validator_registry.proofs.owners.write_owner_roots.Goals as goal

pub returns : goal.returns
returns c =
    let vs = c.args.validators.now in
    let n = length vs in
    let joined : List (List ℕ) → List (List ℕ) → List (List ℕ) = λ xs ys. zip2 joined_hash xs ys in
    let keys = take_at c.write_keys.new.out _ n (ap length c.write_keys.ensures ∙ length-map vs key_root) ∙ c.write_keys.ensures in
    let credentials = take_at c.write_credentials.new.out _ n (ap length c.write_credentials.ensures ∙ length-map vs (λ (v : Validator). v.withdrawal_credentials)) ∙ c.write_credentials.ensures in
    c.hash_beside.ensures ∙ (ap₂ joined keys credentials ∙ owners_of_columns vs)
