-- The files of a shelf in memory meet what a shelf says.
use Rattle.std.proofs.Common.{◌≡◌, ◌<◌, ◌≤◌, ◌+◌, ℕ, zero, suc, Bool, true, false, ◌||◌, ◌&&◌, List, [], ◌∷◌, ◌++◌, length, map, get_or, set, take, drop, Option, Some, None, refl, sym, ap, ◌∙◌, arith, inl, inr, Result, Ok, Err}
use Rattle.std.specs.Prelude.{IfSome, IsSome}
use Rattle.std.proofs.Math.Seq.{take-add}
use Rattle.std.proofs.lemmas.Grind.{common_steps}
use Rattle.std.proofs.Math.Nat.{eq-or-lt_of_le}
use Rattle.bc_outside.specs.declared.trouble.Trouble.{Trouble}
use Rattle.bc_outside.specs.declared.trouble.Trouble.TheVariants.{Failed, NoMemory}
use Rattle.bc_outside.specs.Told.{any_byte, more_of, Agrees}
use Rattle.bc_outside.specs.Calls.{Opens, Reads, FailsOnlyBy, Rose, ShelfKeeps}
use Rattle.bc_outside.specs.Memory.{NamedFile, OpenedFile, MemoryFiles, held_in, handed_of, at_start, is_reliable, is_listed, counted, left_in, with_taken, told_by, OpensIn, ReadsIn}
use Rattle.bc_outside.specs.inside.Held.{AreHeld}
use Rattle.bc_outside.proofs.Keeping.{agreed_opens, agreed_reads, opens_length, reads_length}

-- the file at a place, as the code finds it
pub set_taken : (files : List OpenedFile) (k n : ℕ) (met : Bool) (file : OpenedFile) → k < length files → file ≡ get_or files k file → set files k (record { name = file.name; bytes = file.bytes; taken = file.taken + n; ended = file.ended || met }) ≡ with_taken files k n met
unfolding with_taken
set_taken [] k n met file h e = absurd (omega arith)
set_taken (f ∷ files) zero n met file h e = ap (λ (x : OpenedFile). record { name = x.name; bytes = x.bytes; taken = x.taken + n; ended = x.ended || met } ∷ files) e
set_taken (f ∷ files) (suc k) n met file h e = ap (λ fs. f ∷ fs) (set_taken files k n met file (omega arith) e)

pub left_in-at : (files : List OpenedFile) (k : ℕ) (file : OpenedFile) → k < length files → file ≡ get_or files k file → left_in files k ≡ Some (drop file.taken file.bytes)
unfolding left_in
left_in-at [] k file h e = absurd (omega arith)
left_in-at (f ∷ files) zero file h e = ap (λ (x : OpenedFile). Some (drop x.taken x.bytes)) (sym e)
left_in-at (f ∷ files) (suc k) file h e = left_in-at files k file (omega arith) e

-- what is left of an opened file
pub at_left : (files : List OpenedFile) (k : ℕ) (P : List ℕ → Type 0) → k < length files → IfSome (left_in files k) P → (left : List ℕ) × (left_in files k ≡ Some left) × P left
unfolding left_in
at_left [] k P h p = absurd (omega arith)
at_left (f ∷ files) zero P h p = (drop f.taken f.bytes, refl, p)
at_left (f ∷ files) (suc k) P h p = at_left files k P (omega arith) p

-- what was handed out of a file of which more is taken
front_taken : (n : ℕ) (left piece : List ℕ) → n ≤ length left → take n (take n left ++ drop n piece) ≡ take n left
front_taken n left piece h = grind (arith, common_steps)

none_behind : (ended : Bool) (n : ℕ) (bytes : List ℕ) → (ended ≡ true → n ≡ 0) → false ≡ (ended && any_byte (take n bytes))
none_behind false n bytes h = refl
none_behind true n bytes h = rw (h refl) refl

pub handed_more : (f : OpenedFile) (n : ℕ) (met : Bool) (piece into : List ℕ) → n ≤ length (drop f.taken f.bytes) → into ≡ take n (drop f.taken f.bytes) ++ drop n piece → (f.ended ≡ true → n ≡ 0)
    → handed_of (record { name = f.name; bytes = f.bytes; taken = f.taken + n; ended = f.ended || met }) ≡ more_of (handed_of f) (take n into) met
handed_more f n met piece into le e none =
    let front : take n into ≡ take n (drop f.taken f.bytes) = ap (take n) e ∙ front_taken n (drop f.taken f.bytes) piece le in
    let bytes : take (f.taken + n) f.bytes ≡ take f.taken f.bytes ++ take n into = take-add f.taken n f.bytes ∙ ap (λ bs. take f.taken f.bytes ++ bs) (sym front) in
    rw (bytes, ← none_behind f.ended n into none) refl

-- the files that were opened stay those of the shelf
pub held_set : (files : List NamedFile) (opened : List OpenedFile) (k : ℕ) (old new : OpenedFile) → k < length opened → old ≡ get_or opened k old → new.name ≡ old.name → new.bytes ≡ old.bytes → (new.ended ≡ true → new.taken ≡ length new.bytes) → AreHeld files opened → AreHeld files (set opened k new)
held_set files [] k old new h e name bytes all held = held
held_set files (f ∷ opened) zero old new h e name bytes all held =
    let same : new.name ≡ f.name = name ∙ ap (λ (x : OpenedFile). x.name) e in
    let whole : new.bytes ≡ f.bytes = bytes ∙ ap (λ (x : OpenedFile). x.bytes) e in
    (ap (held_in files) same ∙ held.0 ∙ ap Some (sym whole), all, held.2)
held_set files (f ∷ opened) (suc k) old new h e name bytes all held = (held.0, held.1, held_set files opened k old new (omega arith) e name bytes all held.2)

pub held_append : (files : List NamedFile) (opened more : List OpenedFile) → AreHeld files opened → AreHeld files more → AreHeld files (opened ++ more)
held_append files [] more h k = k
held_append files (f ∷ opened) more h k = (h.0, h.1, held_append files opened more h.2 k)

held_start : (files : List NamedFile) (name : List ℕ) (held : Option (List ℕ)) → held ≡ held_in files name → AreHeld files (at_start name held)
held_start files name None e = tt
held_start files name (Some bytes) e = (sym e, λ never. cc, tt)

-- what the names hold agrees with what was handed out
whole_is : (f : OpenedFile) → f.bytes ≡ take f.taken f.bytes ++ drop (length (take f.taken f.bytes)) f.bytes
whole_is f = grind (arith, common_steps)

all_is : (f : OpenedFile) → f.taken ≡ length f.bytes → f.bytes ≡ take f.taken f.bytes
all_is f e = grind (arith, common_steps)

pub held_agrees : (files : List NamedFile) (opened : List OpenedFile) → AreHeld files opened → Agrees (held_in files) (map handed_of opened)
held_agrees files [] h = tt
held_agrees files (f ∷ opened) h = (rw h.0 (whole_is f, refl, λ ended. all_is f (h.1 ended)), held_agrees files opened h.2)

-- a counted fault
pub rose : (n : ℕ) → n ≤ 18446744073709551615 → (n ≤ counted n) × Rose n (counted n)
rose n fits = (omega arith, elim (eq-or-lt_of_le fits) [ inl e ↦ inr (omega arith) | inr lt ↦ inl (omega arith) ])

-- no call fails where none is to
pub never : (failing : List ℕ) (n : ℕ) → is_reliable failing ≡ true → is_listed failing n ≡ true → ⊥
never [] n s h = cc
never (x ∷ xs) n s h = cc

pub causes_later : (result : Result ℕ Trouble) (before now : ℕ) → FailsOnlyBy result before now → before ≤ now
causes_later (Ok n) before now h = h
causes_later (Err Failed) before now h = h.0
causes_later (Err NoMemory) before now h = omega arith

some_is : (a b : List ℕ → Option (List ℕ)) → Some a ≡ Some b → a ≡ b
some_is a b e = cc

not_there : (a : Option (List ℕ)) → IsSome a → a ≡ None → ⊥
not_there None h e = cc
not_there (Some x) h e = cc

-- opening
opened_there : (name : List ℕ) (held : Option (List ℕ)) → IsSome held → map handed_of (at_start name held) ≡ record { name = name; bytes = []; ended = false; grew = false } ∷ []
opened_there name None h = cc
opened_there name (Some bytes) h = refl

map_append : (xs ys : List OpenedFile) → map handed_of (xs ++ ys) ≡ map handed_of xs ++ map handed_of ys
map_append [] ys = refl
map_append (x ∷ xs) ys = ap (λ fs. handed_of x ∷ fs) (map_append xs ys)

pub length_map : (xs : List OpenedFile) → length (map handed_of xs) ≡ length xs
length_map [] = refl
length_map (x ∷ xs) = ap suc (length_map xs)

module _ (name : List ℕ) (old new : MemoryFiles) where
  pub opens_of : (result : Result ℕ Trouble) → OpensIn name result old new → Opens name result (told_by old) (told_by new)
  opens_of (Ok file) h = record {
    number = h.2 ∙ sym (length_map old.opened);
    files = ap (λ (m : MemoryFiles). map handed_of m.opened) h.3 ∙ map_append old.opened (at_start name (held_in old.files name)) ∙ ap (λ fs. map handed_of old.opened ++ fs) (opened_there name (held_in old.files name) h.1);
    asked = ap (λ (m : MemoryFiles). m.asked) h.3;
  }
  opens_of (Err Failed) h = record { files = ap (λ (m : MemoryFiles). map handed_of m.opened) h.1; asked = ap (λ (m : MemoryFiles). m.asked) h.1 }
  opens_of (Err NoMemory) h = record { files = ap (λ (m : MemoryFiles). map handed_of m.opened) h; asked = ap (λ (m : MemoryFiles). m.asked) h }

  pub open_causes : (result : Result ℕ Trouble) → old.faults ≤ 18446744073709551615 → OpensIn name result old new → FailsOnlyBy result old.faults new.faults
  open_causes (Ok n) fits h = let e = ap (λ (m : MemoryFiles). m.faults) h.3 in omega arith
  open_causes (Err Failed) fits h = rw (ap (λ (m : MemoryFiles). m.faults) h.1) (rose old.faults fits)
  open_causes (Err NoMemory) fits h = ap (λ (m : MemoryFiles). m.faults) h

  open_files : (result : Result ℕ Trouble) → OpensIn name result old new → (new.files ≡ old.files) × (new.failing ≡ old.failing)
  open_files (Ok n) h = (ap (λ (m : MemoryFiles). m.files) h.3, ap (λ (m : MemoryFiles). m.failing) h.3)
  open_files (Err Failed) h = (ap (λ (m : MemoryFiles). m.files) h.1, ap (λ (m : MemoryFiles). m.failing) h.1)
  open_files (Err NoMemory) h = (ap (λ (m : MemoryFiles). m.files) h, ap (λ (m : MemoryFiles). m.failing) h)

  open_held : (result : Result ℕ Trouble) → OpensIn name result old new → AreHeld old.files old.opened → AreHeld old.files new.opened
  open_held (Ok n) h held = rw (ap (λ (m : MemoryFiles). m.opened) h.3) (held_append old.files old.opened (at_start name (held_in old.files name)) held (held_start old.files name (held_in old.files name) refl))
  open_held (Err Failed) h held = rw (ap (λ (m : MemoryFiles). m.opened) h.1) held
  open_held (Err NoMemory) h held = rw (ap (λ (m : MemoryFiles). m.opened) h) held

  open_steady : (result : Result ℕ Trouble) → OpensIn name result old new → is_reliable old.failing ≡ true → IsSome (held_in old.files name) → new.faults ≡ old.faults
  open_steady (Ok n) h s there = ap (λ (m : MemoryFiles). m.faults) h.3
  open_steady (Err Failed) h s there = elim h.0 [
    | inl fails ↦ absurd (never old.failing (counted old.calls) s fails)
    | inr none ↦ absurd (not_there (held_in old.files name) there none)
  ]
  open_steady (Err NoMemory) h s there = ap (λ (m : MemoryFiles). m.faults) h

  pub open_keeps : (result : Result ℕ Trouble) → OpensIn name result old new → old.faults ≤ new.faults → AreHeld old.files old.opened → ShelfKeeps (name ∷ []) (told_by old) (told_by new)
  open_keeps result h le held =
      let same = open_files result h in
      record {
        opened = opens_length name result (told_by old) (told_by new) (opens_of result h);
        faults = le;
        contents = ap (λ fs. Some (held_in fs)) same.0;
        reliable = ap is_reliable same.1;
        agreed = agreed_opens name result (told_by old) (told_by new) (opens_of result h);
        honest = λ c e a. rw (← some_is (held_in old.files) c e) (held_agrees old.files new.opened (open_held result h held));
        steady = λ c e r there. open_steady result h r (rw (some_is (held_in old.files) c e) there.0);
      }

-- reading
module _ (file : ℕ) (piece piece_then left : List ℕ) (old new : MemoryFiles) where
  pub read_causes : (result : Result ℕ Trouble) → old.faults ≤ 18446744073709551615 → ReadsIn file piece piece_then result left old new → FailsOnlyBy result old.faults new.faults
  read_causes (Ok n) fits h = let e = ap (λ (m : MemoryFiles). m.faults) h.3 in omega arith
  read_causes (Err Failed) fits h = rw (ap (λ (m : MemoryFiles). m.faults) h.2) (rose old.faults fits)
  read_causes (Err NoMemory) fits h = absurd h

  read_files : (result : Result ℕ Trouble) → ReadsIn file piece piece_then result left old new → (new.files ≡ old.files) × (new.failing ≡ old.failing)
  read_files (Ok n) h = (ap (λ (m : MemoryFiles). m.files) h.3, ap (λ (m : MemoryFiles). m.failing) h.3)
  read_files (Err Failed) h = (ap (λ (m : MemoryFiles). m.files) h.2, ap (λ (m : MemoryFiles). m.failing) h.2)
  read_files (Err NoMemory) h = absurd h

  read_steady : (result : Result ℕ Trouble) → ReadsIn file piece piece_then result left old new → is_reliable old.failing ≡ true → new.faults ≡ old.faults
  read_steady (Ok n) h s = ap (λ (m : MemoryFiles). m.faults) h.3
  read_steady (Err Failed) h s = absurd (never old.failing (counted old.calls) s h.0)
  read_steady (Err NoMemory) h s = absurd h

  pub read_keeps : (result : Result ℕ Trouble) → ReadsIn file piece piece_then result left old new → old.faults ≤ new.faults → Reads file piece piece_then result (told_by old) (told_by new) → AreHeld new.files new.opened → ShelfKeeps [] (told_by old) (told_by new)
  read_keeps result h le reads held =
      let same = read_files result h in
      record {
        opened = reads_length file piece piece_then result (told_by old) (told_by new) reads;
        faults = le;
        contents = ap (λ fs. Some (held_in fs)) same.0;
        reliable = ap is_reliable same.1;
        agreed = agreed_reads file piece piece_then result (told_by old) (told_by new) reads;
        honest = λ c e a. rw (← some_is (held_in old.files) c e, ← same.0) (held_agrees new.files new.opened held);
        steady = λ c e r there. read_steady result h r;
      }
