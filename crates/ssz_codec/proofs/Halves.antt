-- What is written in two halves is the writing of the parts.
use Rattle.std.proofs.Common.{◌≡◌, ℕ, ◌+◌, ◌*◌, ◌<◌, ◌≤◌, List, [], ◌∷◌, ◌++◌, length, get_or, drop, map, refl, sym, ap, ◌∙◌, append_assoc, arith}
use Rattle.std.specs.Prelude.{replicate}
use Rattle.std.proofs.lemmas.List.{append-nil, length-append, length-map, drop_more, drop_all}
use Rattle.ssz_codec.specs.declared.layout.Field.{Field}
use Rattle.ssz_codec.specs.declared.layout.Field.TheVariants.{Fixed, Variable}
use Rattle.ssz_codec.specs.Layout.{offset_bytes, fixed_length, fixed_parts, variable_parts, joined}
use Rattle.ssz_codec.specs.laws.Lists.{variable_heads}
use Rattle.ssz_codec.specs.inside.Halves.{Halves, nothing_written, with_part, with_parts, with_variable_parts, whole_of}

fixed_grows : (fs : List Field) (parts : List (List ℕ)) (h : Halves) → (with_parts fs parts h).fixed ≡ h.fixed ++ fixed_parts fs parts (h.start + length h.variable)
unfolding fixed_parts
fixed_grows [] parts h = sym (append-nil h.fixed)
fixed_grows (f ∷ fs) [] h = sym (append-nil h.fixed)
fixed_grows (Fixed n ∷ fs) (part ∷ parts) h =
    fixed_grows fs parts (with_part (Fixed n) part h) ∙ append_assoc h.fixed part (fixed_parts fs parts (h.start + length h.variable))
fixed_grows (Variable ∷ fs) (part ∷ parts) h =
    let o = h.start + length h.variable in
    let next : h.start + length (h.variable ++ part) ≡ o + length part = omega (arith, length-append h.variable part) in
    fixed_grows fs parts (with_part Variable part h)
    ∙ ap (λ n. (h.fixed ++ offset_bytes o) ++ fixed_parts fs parts n) next
    ∙ append_assoc h.fixed (offset_bytes o) (fixed_parts fs parts (o + length part))

variable_grows : (fs : List Field) (parts : List (List ℕ)) (h : Halves) → (with_parts fs parts h).variable ≡ h.variable ++ variable_parts fs parts
unfolding variable_parts
variable_grows [] parts h = sym (append-nil h.variable)
variable_grows (f ∷ fs) [] h = sym (append-nil h.variable)
variable_grows (Fixed n ∷ fs) (part ∷ parts) h = variable_grows fs parts (with_part (Fixed n) part h)
variable_grows (Variable ∷ fs) (part ∷ parts) h = variable_grows fs parts (with_part Variable part h) ∙ append_assoc h.variable part (variable_parts fs parts)

-- the two halves of a container are its writing
pub halves_joined : (fs : List Field) (parts : List (List ℕ)) (start : ℕ) → start ≡ fixed_length fs → whole_of (with_parts fs parts (nothing_written start)) ≡ joined fs parts
unfolding joined
halves_joined fs parts start is =
    let h = nothing_written start in
    ap (λ (l : List ℕ). l ++ (with_parts fs parts h).variable) (fixed_grows fs parts h)
    ∙ ap (λ (l : List ℕ). fixed_parts fs parts (start + 0) ++ l) (variable_grows fs parts h)
    ∙ ap (λ n. fixed_parts fs parts n ++ variable_parts fs parts) (omega (arith, is))

all_variable : (parts : List (List ℕ)) (h : Halves) → with_variable_parts parts h ≡ with_parts (replicate (length parts) Variable) parts h
all_variable [] h = refl
all_variable (part ∷ parts) h = all_variable parts (with_part Variable part h)

-- those of a list of variable parts
pub list_joined : {A : Type 0} (f : A → List ℕ) (xs : List A) → whole_of (with_variable_parts (map f xs) (nothing_written (4 * length xs))) ≡ joined (replicate (length xs) Variable) (map f xs)
list_joined f xs =
    ap whole_of (all_variable (map f xs) (nothing_written (4 * length xs)))
    ∙ ap (λ n. whole_of (with_parts (replicate n Variable) (map f xs) (nothing_written (4 * length xs)))) (length-map xs f)
    ∙ halves_joined (replicate (length xs) Variable) (map f xs) (4 * length xs) (sym (variable_heads (length xs)))

-- a loop that writes one value after another
pub part_written : {A : Type 0} (f : A → List ℕ) (xs : List A) (i : ℕ) (d x : A) (h total : Halves) → i < length xs → x ≡ get_or xs i d → with_variable_parts (map f (drop i xs)) h ≡ total
    → with_variable_parts (map f (drop (i + 1) xs)) (with_part Variable (f x) h) ≡ total
part_written f xs i d x h total lt is so_far =
    ap (λ y. with_variable_parts (map f (drop (i + 1) xs)) (with_part Variable (f y) h)) is
    ∙ sym (ap (λ ys. with_variable_parts (map f ys) h) (drop_more xs i d lt)) ∙ so_far

pub parts_written : {A : Type 0} (f : A → List ℕ) (xs : List A) (i : ℕ) (h total : Halves) → length xs ≤ i → with_variable_parts (map f (drop i xs)) h ≡ total → h ≡ total
parts_written f xs i h total le so_far = sym (ap (λ ys. with_variable_parts (map f ys) h) (drop_all i xs le)) ∙ so_far
