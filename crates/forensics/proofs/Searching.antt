-- The search for a validator among the members of a committee whose bit is set.
use Rattle.std.proofs.Common.{◌≡◌, ◌∙◌, ℕ, ◌+◌, ◌<◌, ◌≤◌, Bool, true, false, ◌||◌, ◌==◌, List, [], length, get_or, drop, slice_get, sym, ap}
use Rattle.std.specs.List.{list_any}
use Rattle.std.specs.Option.{unwrap_or}
use Rattle.spec_state.specs.Accessors.{members_with_bits}
use Rattle.block_operations.proofs.Members.{one_does_not, one_attests, members_end}

abbrev left : List ℕ → List Bool → ℕ → List ℕ
left members bits i = members_with_bits (drop i members) (drop i bits)

abbrev is_left : List ℕ → List Bool → ℕ → ℕ → Bool
is_left members bits v i = list_any (λ (m : ℕ). m == v) (left members bits i)

-- one whose bit isn't set is passed over
pub unset : (members : List ℕ) (bits : List Bool) (v i : ℕ) → i < length members → unwrap_or (slice_get bits i) false ≡ false
    → list_any (λ (m : ℕ). m == v) (members_with_bits (drop (i + 1) members) (drop (i + 1) bits)) ≡ list_any (λ (m : ℕ). m == v) (members_with_bits (drop i members) (drop i bits))
unset members bits v i less is = ap (list_any (λ (m : ℕ). m == v)) (sym (one_does_not members bits i less is))

-- one whose bit is set comes first
opens : (members : List ℕ) (bits : List Bool) (v i : ℕ) (t : Bool) → i < length members → unwrap_or (slice_get bits i) false ≡ true → (get_or members i 0 == v) ≡ t → is_left members bits v i ≡ (t || is_left members bits v (i + 1))
opens members bits v i t less is test =
    ap (list_any (λ (m : ℕ). m == v)) (sym (one_attests members bits [] i less is))
    ∙ ap (λ (s : Bool). s || is_left members bits v (i + 1)) test

pub another : (members : List ℕ) (bits : List Bool) (v i : ℕ) → i < length members → unwrap_or (slice_get bits i) false ≡ true → (get_or members i 0 == v) ≡ false
    → list_any (λ (m : ℕ). m == v) (members_with_bits (drop (i + 1) members) (drop (i + 1) bits)) ≡ list_any (λ (m : ℕ). m == v) (members_with_bits (drop i members) (drop i bits))
another members bits v i less is test = sym (opens members bits v i false less is test)

pub found : (members : List ℕ) (bits : List Bool) (v i : ℕ) → i < length members → unwrap_or (slice_get bits i) false ≡ true → (get_or members i 0 == v) ≡ true
    → list_any (λ (m : ℕ). m == v) (members_with_bits (drop i members) (drop i bits)) ≡ true
found members bits v i less is test = opens members bits v i true less is test

pub nobody : (members : List ℕ) (bits : List Bool) (v i : ℕ) → length members ≤ i → list_any (λ (m : ℕ). m == v) (members_with_bits (drop i members) (drop i bits)) ≡ false
nobody members bits v i most = ap (list_any (λ (m : ℕ). m == v)) (members_end members bits [] i most)
