-- The value of digits, digit by digit.
use Rattle.std.proofs.Common.{◌≡◌, ℕ, ◌+◌, ◌-◌, ◌*◌, ◌<◌, ◌≤◌, length, get_or, List, [], ◌∷◌, take, drop, fold, arith, ap, sym, ◌∙◌, true, not, ◌==◌, refl, ◌^◌, Some, None}
use Rattle.std.specs.List.{list_all}
use Rattle.std.specs.Char.{is_ascii_digit}
use Rattle.std.proofs.lemmas.List.{take-append-drop, take_all}
use Rattle.std.proofs.lemmas.List.Sums.{fold-append, fold_more}
use Rattle.std.proofs.lemmas.List.Recursion.{and_at}
use Rattle.std.proofs.lemmas.Bool.Decides.{nat_tests}
use Rattle.bc_preset.specs.Numbers.{decimal_value, has_first_digit, within_u64}

grows : (value : ℕ) (digits : List ℕ) → value ≤ fold (λ value digit. value * 10 + (digit - 48)) value digits
grows value [] = omega arith
grows value (digit ∷ digits) = omega (arith, grows (value * 10 + (digit - 48)) digits)

-- the value of the first digits is at most that of all
pub value_grows : (digits : List ℕ) (i : ℕ) → decimal_value (take i digits) ≤ decimal_value digits
unfolding decimal_value
value_grows digits i =
    let split = fold-append (λ (value digit : ℕ). value * 10 + (digit - 48)) 0 (take i digits) (drop i digits) in
    let whole = ap (fold (λ (value digit : ℕ). value * 10 + (digit - 48)) 0) (take-append-drop i digits) in
    omega (arith, split, whole, grows (decimal_value (take i digits)) (drop i digits))

-- one digit more
pub value_more : (digits : List ℕ) (i : ℕ) → i < length digits → decimal_value (take (i + 1) digits) ≡ decimal_value (take i digits) * 10 + (get_or digits i 0 - 48)
unfolding decimal_value
value_more digits i h = fold_more (λ (value digit : ℕ). value * 10 + (digit - 48)) 0 digits i 0 h

digit_bounds : (c : ℕ) → is_ascii_digit c ≡ true → (48 ≤ c) × (c ≤ 57)
digit_bounds c h = (grind (arith, nat_tests), grind (arith, nat_tests))

-- each of them is a digit
pub digit_at : (digits : List ℕ) (i : ℕ) → list_all is_ascii_digit digits ≡ true → i < length digits → (48 ≤ get_or digits i 0) × (get_or digits i 0 ≤ 57)
digit_at digits i h l = digit_bounds _ (and_at (list_all is_ascii_digit) is_ascii_digit refl (λ _ _. refl) digits i 0 l h)

pub value_none : decimal_value [] ≡ 0
unfolding decimal_value
value_none = refl

-- a number that doesn't fit, before the last digit
pub value_too_large : (digits : List ℕ) (i : ℕ) → i < length digits → within_u64 (decimal_value (take i digits) * 10 + (get_or digits i 0 - 48)) ≡ None → within_u64 (decimal_value digits) ≡ None
unfolding within_u64
value_too_large digits i h e =
    let more = value_more digits i h in
    let grows = value_grows digits (i + 1) in
    grind (arith, nat_tests)

-- a number that fits
pub value_fits : (x y : ℕ) → within_u64 x ≡ Some y → (x ≡ y) × (y < 2 ^ 64)
unfolding within_u64
value_fits x y e = (grind (arith, nat_tests), grind (arith, nat_tests))

-- the value of all digits
pub value_done : (digits : List ℕ) (i value : ℕ) → length digits ≤ i → value ≡ decimal_value (take i digits) → value < 2 ^ 64 → Some value ≡ within_u64 (decimal_value digits)
unfolding within_u64
value_done digits i value h e fits =
    let whole : decimal_value digits ≡ value = ap decimal_value (sym (take_all i digits h)) ∙ sym e in
    rw whole (grind (arith, nat_tests))

pub ruleset digit_steps = (value_none, digit_at, value_too_large, value_done)

-- the first of two digits or more is not 0
pub first_of_more : (digits : List ℕ) → 2 ≤ length digits → not (get_or digits 0 0 == 48) ≡ has_first_digit digits
first_of_more [] some = absurd (omega arith)
first_of_more (digit ∷ []) some = absurd (omega arith)
first_of_more (first ∷ second ∷ digits) some = refl
