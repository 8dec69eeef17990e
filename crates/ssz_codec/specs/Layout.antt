-- How the parts of a container, or of a list of variable parts, lie in its bytes (simple-serialize.md, "Serialization",
-- "Vectors, containers, lists"): first the fixed part, in which a variable part has an offset of four bytes, then the
-- variable parts in order.
use Rattle.std.specs.Prelude.{ℕ, ◌+◌, ◌-◌, ◌<◌, ◌^◌, List, [], ◌∷◌, ◌++◌, length, take, drop, Option, Some, None, nat_lt, ◌==◌, if◌then◌else◌}
use Rattle.std.specs.Int.{w32, to_le_bytes, from_le_bytes}
use Rattle.ssz_codec.specs.declared.layout.Field.{Field}
use Rattle.ssz_codec.specs.declared.layout.Field.TheVariants.{Fixed, Variable}

-- what follows from the value of an option, if it has one
infixl 10 ◌and_then◌
abbrev pub ◌and_then◌ : {A B : Type 0} → Option A → (A → Option B) → Option B
None and_then f = None
(Some x) and_then f = f x

-- an offset in its four bytes, and back
unfoldable pub offset_bytes : ℕ → List ℕ
offset_bytes n = to_le_bytes w32 n

unfoldable pub offset_of : List ℕ → ℕ
offset_of bytes = from_le_bytes w32 bytes

-- how many bytes a field takes in the fixed part
abbrev pub field_length : Field → ℕ
field_length (Fixed n) = n
field_length Variable = 4

abbrev pub fixed_length : List Field → ℕ
fixed_length [] = 0
fixed_length (f ∷ fs) = field_length f + fixed_length fs

-- the fixed part, where the first variable part begins at the offset
unfoldable pub fixed_parts : List Field → List (List ℕ) → ℕ → List ℕ
fixed_parts [] parts offset = []
fixed_parts (f ∷ fs) [] offset = []
fixed_parts (Fixed n ∷ fs) (part ∷ parts) offset = part ++ fixed_parts fs parts offset
fixed_parts (Variable ∷ fs) (part ∷ parts) offset = offset_bytes offset ++ fixed_parts fs parts (offset + length part)

-- the variable parts
unfoldable pub variable_parts : List Field → List (List ℕ) → List ℕ
variable_parts [] parts = []
variable_parts (f ∷ fs) [] = []
variable_parts (Fixed n ∷ fs) (part ∷ parts) = variable_parts fs parts
variable_parts (Variable ∷ fs) (part ∷ parts) = part ++ variable_parts fs parts

-- the bytes of all parts
unfoldable pub joined : List Field → List (List ℕ) → List ℕ
joined fs parts = fixed_parts fs parts (fixed_length fs) ++ variable_parts fs parts

-- each offset has room in its four bytes
unfoldable pub OffsetsFit : List Field → List (List ℕ) → ℕ → Type 0
OffsetsFit [] parts offset = Unit {0}
OffsetsFit (f ∷ fs) [] offset = Unit {0}
OffsetsFit (Fixed n ∷ fs) (part ∷ parts) offset = OffsetsFit fs parts offset
OffsetsFit (Variable ∷ fs) (part ∷ parts) offset = (offset < 2 ^ 32) × OffsetsFit fs parts (offset + length part)

-- Reading: the parts, and where the first variable one begins.
pub record Cuts : Type 0 where
  pub parts : List (List ℕ)
  pub start : ℕ

-- a variable part runs from its offset to the beginning of the next
abbrev pub cut_variable : ℕ → List ℕ → Cuts → Option Cuts
cut_variable offset whole next =
    if nat_lt next.start offset then None
    else Some (record { parts = take (next.start - offset) (drop offset whole) ∷ next.parts; start = offset })

-- the parts of these fields, whose fixed parts begin at the head
unfoldable pub cut_from : List Field → List ℕ → List ℕ → Option Cuts
cut_from [] head whole = Some (record { parts = []; start = length whole })
cut_from (Fixed n ∷ fs) head whole =
    cut_from fs (drop n head) whole and_then λ next. Some (record { parts = take n head ∷ next.parts; start = next.start })
cut_from (Variable ∷ fs) head whole =
    cut_from fs (drop 4 head) whole and_then λ next. cut_variable (offset_of (take 4 head)) whole next

-- the parts of a whole container: the first variable part begins where the fixed part ends
unfoldable pub cut : List Field → List ℕ → Option (List (List ℕ))
cut fs bytes =
    if nat_lt (length bytes) (fixed_length fs) then None
    else (cut_from fs bytes bytes and_then λ all. if all.start == fixed_length fs then Some all.parts else None)
