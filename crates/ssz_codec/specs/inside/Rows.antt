-- Values that stand one behind another, each read from a part of its own.
use Rattle.std.specs.Prelude.{ℕ, List, [], ◌∷◌, Option, Some, None}
use Rattle.ssz_codec.specs.Layout.{◌and_then◌}
use Rattle.ssz_codec.specs.Codec.{Codec}
use Rattle.ssz_codec.specs.Containers.{deserialize_next}

-- no value, of no part
abbrev pub nothing_read : List (List ℕ) → Option (Unit {0})
nothing_read [] = Some tt
nothing_read (part ∷ parts) = None

-- a value and the others
abbrev pub beside : {A R : Type 0} → A → R → A × R
beside a rest = (a, rest)

-- the value of the first part, and those of the others
abbrev pub read_before : {A R : Type 0} → Codec A → (List (List ℕ) → Option R) → List (List ℕ) → Option (A × R)
read_before c more = deserialize_next c (λ a parts. more parts and_then λ rest. Some (beside a rest))
