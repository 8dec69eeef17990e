-- The chunks of what a group hashes side by side.
use Rattle.std.specs.Prelude.{ℕ, List, [], ◌∷◌}
use Rattle.hash_tree.specs.Merkle.{padded_chunk, uint_to_bytes}
use Rattle.beacon_types.specs.declared.validator.Validator.{Validator}

-- the four chunks of a validator's epochs
unfoldable pub epochs_chunks : Validator → List (List ℕ)
epochs_chunks v =
    padded_chunk (uint_to_bytes v.activation_eligibility_epoch) ∷ padded_chunk (uint_to_bytes v.activation_epoch)
    ∷ padded_chunk (uint_to_bytes v.exit_epoch) ∷ padded_chunk (uint_to_bytes v.withdrawable_epoch) ∷ []
