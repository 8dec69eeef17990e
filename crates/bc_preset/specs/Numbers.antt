-- Numbers as a configuration writes them.
use Rattle.std.specs.Prelude.{ℕ, ◌+◌, ◌-◌, ◌*◌, ◌^◌, Bool, true, false, ◌&&◌, not, nat_lt, ◌==◌, if◌then◌else◌, List, [], ◌∷◌, Option, Some, None, fold}
use Rattle.std.specs.List.{list_all}
use Rattle.std.specs.Char.{is_ascii_digit}

-- the value of decimal digits
unfoldable pub decimal_value : List ℕ → ℕ
decimal_value digits = fold (λ value digit. value * 10 + (digit - 48)) 0 digits

-- one digit at least, and no leading zero but in `0`
abbrev pub has_first_digit : List ℕ → Bool
has_first_digit [] = false
has_first_digit (digit ∷ []) = true
has_first_digit (first ∷ second ∷ digits) = not (first == 48)

-- decimal digits and nothing else, without a leading zero
unfoldable pub is_decimal : List ℕ → Bool
is_decimal text = list_all is_ascii_digit text && has_first_digit text

-- a number, if it is below 2 ^ 64
unfoldable pub within_u64 : ℕ → Option ℕ
within_u64 value = if nat_lt value (2 ^ 64) then Some value else None

-- the number that the text writes
unfoldable pub parse_decimal : List ℕ → Option ℕ
parse_decimal text = if is_decimal text then within_u64 (decimal_value text) else None
