-- Reading values one after another, behind those that were read before.
use Rattle.std.specs.Prelude.{◌≡◌, List, [], ◌∷◌, ◌++◌, Option, Some, Result, Ok, Err}
use Rattle.ssz_codec.specs.declared.fault.SszFault.{SszFault}
use Rattle.ssz_codec.specs.Layout.{◌and_then◌}
use Rattle.ssz_codec.specs.Reads.{Fails}

-- what was read before, and one more
abbrev pub with_one : {A : Type 0} → List A → Option A → Option (List A)
with_one front read = read and_then λ x. Some (front ++ x ∷ [])

-- what was read before, and what is still read
abbrev pub with_front : {A : Type 0} → List A → Option (List A) → Option (List A)
with_front front read = read and_then λ xs. Some (front ++ xs)

-- Ok: the values are those from before and then those of the reading. Else there is no reading, or memory ran out.
abbrev pub ReadsBehind : {A : Type 0} → Result (Unit {0}) SszFault → List A → List A → Option (List A) → Type 0
ReadsBehind (Ok done) front values reading = with_front front reading ≡ Some values
ReadsBehind (Err e) front values reading = Fails e (with_front front reading)
