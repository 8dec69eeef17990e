-- What a shelf of files and a sink tell of themselves, as plain data: what they handed out and what they took. A file's
-- name is the list of its bytes.
use Rattle.std.specs.Prelude.{◌≡◌, ℕ, zero, suc, Bool, true, false, ◌||◌, ◌&&◌, List, [], ◌∷◌, ◌++◌, length, drop, Option, Some, None, IsSome}

-- A file that was opened: the name that was asked for, the bytes that were handed out, whether its end was met, and
-- whether bytes came behind the end.
pub record FileHanded : Type 0 where
  pub name : List ℕ
  pub bytes : List ℕ
  pub ended : Bool
  pub grew : Bool

-- What a shelf tells: the files that were opened, in order; the names that were asked for, in order, those that could
-- not be opened included; how many faults it counted; what the names hold, where that is known beforehand; and whether
-- it has no cause to fail but a name that holds nothing.
pub record ShelfTold : Type 0 where
  pub files : List FileHanded
  pub asked : List (List ℕ)
  pub faults : ℕ
  pub contents : Option (List ℕ → Option (List ℕ))
  pub reliable : Bool

-- What a sink tells: the bytes that it took, in order; how many faults it counted; and whether it has no cause to fail.
pub record SinkTold : Type 0 where
  pub taken : List ℕ
  pub faults : ℕ
  pub reliable : Bool

-- whether there is a byte
abbrev pub any_byte : List ℕ → Bool
any_byte [] = false
any_byte (_ ∷ _) = true

-- a file that is just opened
abbrev pub opened_file : List ℕ → FileHanded
opened_file name = record { name = name; bytes = []; ended = false; grew = false }

-- these bytes more are handed out of a file, and its end is met or not
abbrev pub more_of : FileHanded → List ℕ → Bool → FileHanded
more_of f bytes met = record { name = f.name; bytes = f.bytes ++ bytes; ended = f.ended || met; grew = f.grew || (f.ended && any_byte bytes) }

-- the same of the file with this number
unfoldable pub with_more : List FileHanded → ℕ → List ℕ → Bool → List FileHanded
with_more [] file bytes met = []
with_more (f ∷ files) zero bytes met = more_of f bytes met ∷ files
with_more (f ∷ files) (suc file) bytes met = f ∷ with_more files file bytes met

-- What was handed out of a file is the front of what its name holds, and all of it where the end was met.
abbrev pub FileAgrees : Option (List ℕ) → FileHanded → Type 0
FileAgrees None f = ⊥
FileAgrees (Some whole) f = (whole ≡ f.bytes ++ drop (length f.bytes) whole) × (f.grew ≡ false) × (f.ended ≡ true → whole ≡ f.bytes)

-- What the names hold agrees with all that was handed out.
abbrev pub Agrees : (List ℕ → Option (List ℕ)) → List FileHanded → Type 0
Agrees contents [] = Unit {0}
Agrees contents (f ∷ files) = FileAgrees (contents f.name) f × Agrees contents files

-- each name holds bytes
abbrev pub AllThere : (List ℕ → Option (List ℕ)) → List (List ℕ) → Type 0
AllThere contents [] = Unit {0}
AllThere contents (name ∷ names) = IsSome (contents name) × AllThere contents names
