-- The members of a committee whose bit is set, from a position on: what a loop over the committee has still to note.
use Rattle.std.proofs.Common.{◌≡◌, ℕ, zero, suc, ◌+◌, ◌<◌, Bool, cond, List, [], ◌∷◌, length, drop, get_or, Some, None, refl, ap, arith, slice_get}
use Rattle.spec_state.specs.Accessors.{members_with_bits}

-- those from a position on
unfoldable pub members_from : List ℕ → List Bool → ℕ → List ℕ
members_from members bits position = members_with_bits (drop position members) (drop position bits)

pub members_begin : (members : List ℕ) (bits : List Bool) → members_from members bits 0 ≡ members_with_bits members bits
unfolding members_from
members_begin members bits = refl

pub opens : (members : List ℕ) (bits : List Bool) (position : ℕ) (bit : Bool) → position < length members → Some bit ≡ slice_get bits position
    → members_with_bits (drop position members) (drop position bits) ≡ cond bit (get_or members position 0 ∷ members_with_bits (drop (suc position) members) (drop (suc position) bits)) (members_with_bits (drop (suc position) members) (drop (suc position) bits))
unfolding members_with_bits
opens [] bits position bit less e = absurd (omega arith)
opens (m ∷ members) [] position bit less e = absurd cc
opens (m ∷ members) (b ∷ bits) zero bit less e = let same : b ≡ bit = cc in ap (λ x. cond x (m ∷ members_with_bits members bits) (members_with_bits members bits)) same
opens (m ∷ members) (b ∷ bits) (suc position) bit less e = opens members bits position bit (omega arith) e

no_bits : (members : List ℕ) → members_with_bits members [] ≡ []
unfolding members_with_bits
no_bits [] = refl
no_bits (m ∷ members) = refl

pub past_bits : (members : List ℕ) (bits : List Bool) (position : ℕ) → None ≡ slice_get bits position → members_with_bits (drop position members) (drop position bits) ≡ []
unfolding members_with_bits
past_bits [] [] zero e = refl
past_bits [] [] (suc position) e = refl
past_bits [] (b ∷ bits) zero e = refl
past_bits [] (b ∷ bits) (suc position) e = refl
past_bits (m ∷ members) [] zero e = refl
past_bits (m ∷ members) [] (suc position) e = no_bits (drop position members)
past_bits (m ∷ members) (b ∷ bits) zero e = absurd cc
past_bits (m ∷ members) (b ∷ bits) (suc position) e = past_bits members bits position e

pub next : (i : ℕ) → suc i ≡ i + 1
next i = omega arith
