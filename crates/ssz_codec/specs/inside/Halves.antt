-- A container, or a list of variable parts, while it is written: its fixed part and its variable parts grow beside each
-- other.
use Rattle.std.specs.Prelude.{ℕ, ◌+◌, List, [], ◌∷◌, ◌++◌, length}
use Rattle.ssz_codec.specs.declared.layout.Field.{Field}
use Rattle.ssz_codec.specs.declared.layout.Field.TheVariants.{Fixed, Variable}
use Rattle.ssz_codec.specs.Layout.{offset_bytes}

pub record Halves : Type 0 where
  -- what is written of the fixed part, and of the variable parts
  pub fixed : List ℕ
  pub variable : List ℕ
  -- the length of the whole fixed part, where the variable parts begin
  pub start : ℕ

-- nothing is written yet
abbrev pub nothing_written : ℕ → Halves
nothing_written start = record { fixed = []; variable = []; start = start }

-- one more part of fixed size
abbrev pub with_fixed : List ℕ → Halves → Halves
with_fixed part h = record { fixed = h.fixed ++ part; variable = h.variable; start = h.start }

-- one more part of variable size
abbrev pub with_variable : List ℕ → Halves → Halves
with_variable part h = record { fixed = h.fixed ++ offset_bytes (h.start + length h.variable); variable = h.variable ++ part; start = h.start }

-- one more part
abbrev pub with_part : Field → List ℕ → Halves → Halves
with_part (Fixed n) part h = with_fixed part h
with_part Variable part h = with_variable part h

-- the parts of these fields
abbrev pub with_parts : List Field → List (List ℕ) → Halves → Halves
with_parts [] parts h = h
with_parts (f ∷ fs) [] h = h
with_parts (f ∷ fs) (part ∷ parts) h = with_parts fs parts (with_part f part h)

-- parts that are all variable
abbrev pub with_variable_parts : List (List ℕ) → Halves → Halves
with_variable_parts [] h = h
with_variable_parts (part ∷ parts) h = with_variable_parts parts (with_part Variable part h)

-- all that is written
abbrev pub whole_of : Halves → List ℕ
whole_of h = h.fixed ++ h.variable
