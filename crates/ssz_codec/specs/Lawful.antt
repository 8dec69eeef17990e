-- The law that ties reading to writing (simple-serialize.md, "Deserialization"): bytes read as exactly the value whose
-- writing they are, so at most one value has a given writing.
use Rattle.std.specs.Prelude.{◌≡◌, ℕ, ◌<◌, List, [], ◌∷◌, length, Some}
use Rattle.std.proofs.Common.{get_or}
use Rattle.ssz_codec.specs.declared.layout.Field.{Field}
use Rattle.ssz_codec.specs.declared.layout.Field.TheVariants.{Fixed, Variable}
use Rattle.ssz_codec.specs.Codec.{Codec}

-- each number is a byte
abbrev pub IsBytes : List ℕ → Type 0
IsBytes bytes = (i : ℕ) → get_or bytes i 0 < 256

-- a writing has the size that its type says
abbrev pub HasSize : Field → List ℕ → Type 0
HasSize (Fixed n) bytes = length bytes ≡ n
HasSize Variable bytes = Unit {0}

-- of fixed size, and not of none
abbrev pub IsFixed : Field → Type 0
IsFixed (Fixed n) = 0 < n
IsFixed Variable = ⊥

-- as many parts as fields, each of the field's size
abbrev pub FitFields : List Field → List (List ℕ) → Type 0
FitFields [] [] = Unit {0}
FitFields [] (part ∷ parts) = ⊥
FitFields (f ∷ fs) [] = ⊥
FitFields (f ∷ fs) (part ∷ parts) = HasSize f part × FitFields fs parts

pub record IsLawful {A : Type 0} (c : Codec A) : Type 0 where
  -- what is read is within the limits, and the bytes are its writing
  pub sound : (bytes : List ℕ) (v : A) → IsBytes bytes → c.deserialize bytes ≡ Some v → c.Within v × (bytes ≡ c.serialize v)
  -- what is written is read again
  pub complete : (v : A) → c.Within v → c.deserialize (c.serialize v) ≡ Some v
  pub size : (v : A) → c.Within v → HasSize c.field (c.serialize v)
  -- a writing is bytes
  pub bytes : (v : A) → c.Within v → IsBytes (c.serialize v)
