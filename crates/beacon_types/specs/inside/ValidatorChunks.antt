-- The chunks of a validator, for roots of many validators at once.
use Rattle.std.specs.Prelude.{◌≡◌, ℕ, List, [], ◌∷◌, ◌++◌}
use Rattle.hash_tree.specs.Merkle.{hash, merkle_root, chunks_of, padded_chunk, uint_to_bytes, bool_bytes}
use Rattle.ssz_codec.specs.Basic.{bytes48}
use Rattle.beacon_types.specs.declared.validator.Validator.{Validator}

-- the two chunks of its key
unfoldable pub key_chunks : Validator → List (List ℕ)
key_chunks v = chunks_of 2 v.pubkey

-- the root over them
unfoldable pub root_of_chunks : Validator → List ℕ
root_of_chunks v = merkle_root 1 (key_chunks v)

-- the root of its key
unfoldable pub key_root : Validator → List ℕ
key_root v = bytes48.hash_tree_root v.pubkey

-- the chunks below its root
unfoldable pub chunks_below : Validator → List (List ℕ)
chunks_below v =
    key_root v ∷ v.withdrawal_credentials
    ∷ padded_chunk (uint_to_bytes v.effective_balance) ∷ padded_chunk (bool_bytes v.slashed)
    ∷ padded_chunk (uint_to_bytes v.activation_eligibility_epoch) ∷ padded_chunk (uint_to_bytes v.activation_epoch)
    ∷ padded_chunk (uint_to_bytes v.exit_epoch) ∷ padded_chunk (uint_to_bytes v.withdrawable_epoch) ∷ []

-- the first two of them: the root of its key, and its withdrawal credentials
unfoldable pub owner_chunks : Validator → List (List ℕ)
owner_chunks v = key_root v ∷ v.withdrawal_credentials ∷ []

-- the root over them
unfoldable pub owner_root : Validator → List ℕ
owner_root v = merkle_root 1 (owner_chunks v)

-- the root over its effective balance and whether it was slashed
unfoldable pub status_root : Validator → List ℕ
status_root v = hash (padded_chunk (uint_to_bytes v.effective_balance) ++ padded_chunk (bool_bytes v.slashed))

-- the root over its epochs
unfoldable pub epochs_root : Validator → List ℕ
epochs_root v =
    hash (hash (padded_chunk (uint_to_bytes v.activation_eligibility_epoch) ++ padded_chunk (uint_to_bytes v.activation_epoch))
    ++ hash (padded_chunk (uint_to_bytes v.exit_epoch) ++ padded_chunk (uint_to_bytes v.withdrawable_epoch)))

-- two validators that are alike in all but their keys and withdrawal credentials
pub record IsAlike (a b : Validator) : Type 0 where
  pub balance : a.effective_balance ≡ b.effective_balance
  pub slashed : a.slashed ≡ b.slashed
  pub eligibility : a.activation_eligibility_epoch ≡ b.activation_eligibility_epoch
  pub activation : a.activation_epoch ≡ b.activation_epoch
  pub exit : a.exit_epoch ≡ b.exit_epoch
  pub withdrawable : a.withdrawable_epoch ≡ b.withdrawable_epoch
