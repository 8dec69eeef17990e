-- What the answer of cutting says of the parts.
use Rattle.std.specs.Prelude.{◌≡◌, ℕ, List, Option, Some, None, Result, Ok, Err}
use Rattle.ssz_codec.specs.declared.fault.SszFault.{SszFault}
use Rattle.ssz_codec.specs.declared.fault.SszFault.TheVariants.{NotAWriting, NoMemory}

-- cutting takes no memory
abbrev pub IsNotCut : SszFault → Option (List (List ℕ)) → Type 0
IsNotCut NotAWriting reading = reading ≡ None
IsNotCut NoMemory reading = ⊥

-- Ok: these are the parts. Else there are none.
abbrev pub GivesParts : {U : Type 0} → Result U SszFault → List (List ℕ) → Option (List (List ℕ)) → Type 0
GivesParts (Ok done) parts reading = reading ≡ Some parts
GivesParts (Err e) parts reading = IsNotCut e reading
