-- The lines of bytes, as the first and the others.
use Rattle.std.proofs.Common.{◌≡◌, ℕ, ◌+◌, ◌<◌, ◌≤◌, Bool, true, false, not, cond, suc, nat_lt, eqb, List, [], ◌∷◌, length, take, drop, Some, None, refl, ap, ◌∙◌, arith}
use Rattle.std.specs.List.{slice_split, onto_first, position, position_or_len, before_first, after_first}
use Rattle.std.specs.Str.Lines.{lines, lines_of_parts, strip_carriage_return}
use Rattle.std.proofs.lemmas.List.Splits.{slice_split_first}
use Rattle.std.proofs.lemmas.Bool.Decides.{nat_tests}

abbrev is_feed : ℕ → Bool
is_feed b = eqb b 10

-- there is always a part
first_part : (bytes : List ℕ) → (part : List ℕ) × ((parts : List (List ℕ)) × (slice_split is_feed bytes ≡ part ∷ parts))
first_part [] = ([], ([], refl))
first_part (b ∷ bytes) =
    let rest = first_part bytes in
    elim (is_feed b) as (λ v. (part : List ℕ) × ((parts : List (List ℕ)) × (cond v ([] ∷ slice_split is_feed bytes) (onto_first b (slice_split is_feed bytes)) ≡ part ∷ parts))) [
      | true ↦ ([], (slice_split is_feed bytes, refl))
      | false ↦ (b ∷ rest.0, (rest.1.0, ap (onto_first b) rest.1.1))
    ]

lines_first : (line rest : List ℕ) → lines_of_parts (line ∷ slice_split is_feed rest) ≡ strip_carriage_return line ∷ lines_of_parts (slice_split is_feed rest)
lines_first line rest =
    let first = first_part rest in
    rw first.1.1 refl

-- the only part
last_part : (bytes : List ℕ) → length bytes ≤ position_or_len is_feed bytes → slice_split is_feed bytes ≡ bytes ∷ []
last_part [] h = refl
last_part (b ∷ bytes) h =
    elim (is_feed b) as (λ v. suc (length bytes) ≤ cond (not v) (1 + position_or_len is_feed bytes) 0 → cond v ([] ∷ slice_split is_feed bytes) (onto_first b (slice_split is_feed bytes)) ≡ (b ∷ bytes) ∷ []) [
      | true ↦ λ h. absurd (omega arith)
      | false ↦ λ h. ap (onto_first b) (last_part bytes (omega arith))
    ] h

position_some : (n m end : ℕ) → Some end ≡ cond (nat_lt n m) (Some n) None → (n < m) × (end ≡ n)
position_some n m end e = (grind (arith, nat_tests), grind (arith, nat_tests))

position_none : (n m : ℕ) → None ≡ cond (nat_lt n m) (Some n) None → m ≤ n
position_none n m e = grind (arith, nat_tests)

pub lines_more : (bytes : List ℕ) (end : ℕ) → Some end ≡ position is_feed bytes → lines bytes ≡ strip_carriage_return (take end bytes) ∷ lines (drop (end + 1) bytes)
lines_more bytes end e =
    let found = position_some (position_or_len is_feed bytes) (length bytes) end e in
    rw found.1 (ap lines_of_parts (slice_split_first is_feed bytes 0 found.0) ∙ lines_first (before_first is_feed bytes) (after_first is_feed bytes))

one_part : (bytes : List ℕ) → 0 < length bytes → lines_of_parts (bytes ∷ []) ≡ bytes ∷ []
one_part [] h = absurd (omega arith)
one_part (b ∷ bytes) h = grind (arith, nat_tests)

pub lines_last : (bytes : List ℕ) → 0 < length bytes → None ≡ position is_feed bytes → lines bytes ≡ bytes ∷ []
lines_last bytes h e = ap lines_of_parts (last_part bytes (position_none _ _ e)) ∙ one_part bytes h
