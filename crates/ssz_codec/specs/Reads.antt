-- What the answer of a reader says of the bytes that it was given.
use Rattle.std.specs.Prelude.{◌≡◌, ℕ, List, Option, Some, None, Result, Ok, Err}
use Rattle.ssz_codec.specs.declared.fault.SszFault.{SszFault}
use Rattle.ssz_codec.specs.declared.fault.SszFault.TheVariants.{NotAWriting, NoMemory}
use Rattle.ssz_codec.specs.Codec.{Codec}

-- the fault is that there is no such value, or memory ran out
abbrev pub Fails : {A : Type 0} → SszFault → Option A → Type 0
Fails NotAWriting reading = reading ≡ None
Fails NoMemory reading = Unit {0}

-- the answer is this reading, unless memory ran out
abbrev pub ReadsAs : {A : Type 0} → Result A SszFault → Option A → Type 0
ReadsAs (Ok x) reading = reading ≡ Some x
ReadsAs (Err e) reading = Fails e reading

abbrev pub IsUnread : {A : Type 0} → Codec A → SszFault → List ℕ → Type 0
IsUnread {A = A} c NotAWriting bytes = (x : A) → c.Within x → bytes ≡ c.serialize x → ⊥
IsUnread c NoMemory bytes = Unit {0}

-- Ok: the value is within the limits and the bytes are its writing. NotAWriting: they are no value's writing.
abbrev pub Reads : {A : Type 0} → Codec A → Result A SszFault → List ℕ → Type 0
Reads c (Ok x) bytes = c.Within x × (bytes ≡ c.serialize x)
Reads c (Err e) bytes = IsUnread c e bytes
