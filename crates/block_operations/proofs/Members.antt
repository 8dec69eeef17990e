-- The members of a committee whose bit is set, one after another.
use Rattle.std.proofs.Common.{◌≡◌, ℕ, zero, suc, ◌+◌, ◌<◌, ◌≤◌, Bool, true, false, cond, List, [], ◌∷◌, ◌++◌, length, get_or, drop, refl, sym, ap, ◌∙◌, append_assoc, arith}
use Rattle.std.proofs.Math.ListN.{drop_of_length-le}
use Rattle.std.proofs.lemmas.List.{append-nil}
use Rattle.spec_state.specs.Accessors.{members_with_bits}
use Rattle.block_operations.specs.inside.Bits.{is_set}

no_bits : (committee : List ℕ) → members_with_bits committee [] ≡ []
unfolding members_with_bits
no_bits [] = refl
no_bits (member ∷ committee) = refl

no_member : (bits : List Bool) → members_with_bits [] bits ≡ []
unfolding members_with_bits
no_member bits = refl

dropped : {A : Type 0} (i : ℕ) → drop i (let none : List A = [] in none) ≡ []
dropped zero = refl
dropped (suc i) = refl

abbrev from : List ℕ → List Bool → ℕ → List ℕ
from committee bits i = members_with_bits (drop i committee) (drop i bits)

from_no_bits : (committee : List ℕ) (i : ℕ) → from committee [] i ≡ []
from_no_bits committee i = ap (λ bs. members_with_bits (drop i committee) bs) (dropped i) ∙ no_bits (drop i committee)

opens : (member : ℕ) (committee : List ℕ) (bit : Bool) (bits : List Bool) → members_with_bits (member ∷ committee) (bit ∷ bits) ≡ cond bit (member ∷ members_with_bits committee bits) (members_with_bits committee bits)
unfolding members_with_bits
opens member committee bit bits = refl

at : (committee : List ℕ) (bits : List Bool) (i : ℕ) → i < length committee → from committee bits i ≡ cond (is_set bits i) (get_or committee i 0 ∷ from committee bits (i + 1)) (from committee bits (i + 1))
at [] bits i h = absurd (omega arith)
at (member ∷ committee) [] i h = from_no_bits (member ∷ committee) i ∙ sym (from_no_bits (member ∷ committee) (i + 1))
at (member ∷ committee) (bit ∷ bits) zero h = opens member committee bit bits
at (member ∷ committee) (bit ∷ bits) (suc i) h = at committee bits i (omega arith) ∙ ap (λ k. cond (is_set bits i) (get_or committee i 0 ∷ from (member ∷ committee) (bit ∷ bits) k) (from (member ∷ committee) (bit ∷ bits) k)) (let e : suc (i + 1) ≡ suc i + 1 = omega arith in e)

pub one_does_not : (committee : List ℕ) (bits : List Bool) (i : ℕ) → i < length committee → is_set bits i ≡ false → members_with_bits (drop i committee) (drop i bits) ≡ members_with_bits (drop (i + 1) committee) (drop (i + 1) bits)
one_does_not committee bits i h unset = at committee bits i h ∙ ap (λ b. cond b (get_or committee i 0 ∷ from committee bits (i + 1)) (from committee bits (i + 1))) unset

here : (committee : List ℕ) (bits : List Bool) (i : ℕ) → i < length committee → is_set bits i ≡ true → from committee bits i ≡ get_or committee i 0 ∷ from committee bits (i + 1)
here committee bits i h set_bit = at committee bits i h ∙ ap (λ b. cond b (get_or committee i 0 ∷ from committee bits (i + 1)) (from committee bits (i + 1))) set_bit

from_end : (committee : List ℕ) (bits : List Bool) (i : ℕ) → length committee ≤ i → from committee bits i ≡ []
from_end committee bits i h = ap (λ ms. members_with_bits ms (drop i bits)) (drop_of_length-le committee h) ∙ no_member (drop i bits)

-- ---- the list so far, before what is left

pub members_begin : (committee : List ℕ) (bits : List Bool) → members_with_bits (drop 0 committee) (drop 0 bits) ≡ members_with_bits committee bits
members_begin committee bits = refl

pub one_attests : (committee : List ℕ) (bits : List Bool) (members : List ℕ) (i : ℕ) → i < length committee → is_set bits i ≡ true → (members ++ get_or committee i 0 ∷ []) ++ members_with_bits (drop (i + 1) committee) (drop (i + 1) bits) ≡ members ++ members_with_bits (drop i committee) (drop i bits)
one_attests committee bits members i h set_bit =
    append_assoc members (get_or committee i 0 ∷ []) (from committee bits (i + 1)) ∙ ap (λ ms. members ++ ms) (sym (here committee bits i h set_bit))

pub members_end : (committee : List ℕ) (bits : List Bool) (members : List ℕ) (i : ℕ) → length committee ≤ i → members ++ members_with_bits (drop i committee) (drop i bits) ≡ members
members_end committee bits members i h = ap (λ ms. members ++ ms) (from_end committee bits i h) ∙ append-nil members

-- what the loop over a committee needs
pub ruleset listing = (members_begin, one_attests, one_does_not, members_end)
