-- What a shelf in memory keeps true of the files that were opened.
use Rattle.std.specs.Prelude.{◌≡◌, true, List, [], ◌∷◌, length, Some}
use Rattle.bc_outside.specs.Memory.{NamedFile, OpenedFile, held_in}

-- Each opened file has the bytes that its name holds, and all of them are taken where its end was met.
abbrev pub AreHeld : List NamedFile → List OpenedFile → Type 0
AreHeld files [] = Unit {0}
AreHeld files (f ∷ opened) = (held_in files f.name ≡ Some f.bytes) × (f.ended ≡ true → f.taken ≡ length f.bytes) × AreHeld files opened
