-- Calls to the operating system meet what a shelf says.
use Rattle.std.proofs.Common.{◌≡◌, ◌≤◌, ◌<◌, ℕ, zero, suc, List, [], ◌∷◌, ◌++◌, length, map, set, get_or, Option, Result, Ok, Err, refl, sym, ap, ◌∙◌, arith, inl, inr}
use Rattle.std.proofs.Math.Nat.{eq-or-lt_of_le}
use Rattle.bc_outside.specs.declared.trouble.Trouble.{Trouble}
use Rattle.bc_outside.specs.declared.trouble.Trouble.TheVariants.{Failed, NoMemory}
use Rattle.bc_outside.specs.declared.faults.FaultCounts.{FaultCounts}
use Rattle.std.specs.Prelude.{IfOk, OnErr, take}
use Rattle.bc_outside.specs.Told.{Agrees, more_of, opened_file}
use Rattle.bc_outside.specs.Calls.{FailsOnlyBy, Rose, ShelfKeeps, Reads, meets_end}
use Rattle.bc_outside.proofs.Taking.{set_more}
use Rattle.bc_outside.specs.inside.Tries.{Tries, all_faults}
use Rattle.bc_outside.specs.inside.Disk.{DiskFile, DiskFiles, disk_told, left_of}

-- where a count can't pass its last number, it rose or stands there
risen : (before now : ℕ) → now ≤ 18446744073709551615 → (now < 18446744073709551615 → before < now) → before ≤ now → (before ≤ now) × Rose before now
risen before now fits rises le = (le, elim (eq-or-lt_of_le fits) [ inl e ↦ inr e | inr lt ↦ inl (rises lt) ])

pub tried_causes : {T : Type 0} (result : Result T Trouble) (old new : FaultCounts) → Tries result old new → FailsOnlyBy result (all_faults old) (all_faults new)
tried_causes (Ok n) old new (k, lt, e) = rw e (omega arith)
tried_causes (Err Failed) old new (k, h) = elim h [
  | inl other ↦ rw other.1 (risen _ _ (omega arith) (λ lt. omega arith) (omega arith))
  | inr all ↦ rw (all.1, all.0) (risen _ _ (omega arith) (λ lt. omega arith) (omega arith))
]
tried_causes (Err NoMemory) old new e = ap all_faults e

tried_later : {T : Type 0} (result : Result T Trouble) (old new : FaultCounts) → Tries result old new → all_faults old ≤ all_faults new
tried_later {T} (Ok n) old new h = tried_causes {T = T} (Ok n) old new h
tried_later {T} (Err Failed) old new h = (tried_causes {T = T} (Err Failed) old new h).0
tried_later {T} (Err NoMemory) old new h = let e : all_faults new ≡ all_faults old = tried_causes {T = T} (Err NoMemory) old new h in omega (arith, e)

pub disk_keeps : {T : Type 0} (names : List (List ℕ)) (result : Result T Trouble) (old new : DiskFiles) → Tries result old.faults new.faults → length (disk_told old).files ≤ length (disk_told new).files → ((c : List ℕ → Option (List ℕ)) → Agrees c (disk_told new).files → Agrees c (disk_told old).files) → ShelfKeeps names (disk_told old) (disk_told new)
disk_keeps names result old new tries opened agreed = record {
  opened = opened;
  faults = tried_later result old.faults new.faults tries;
  contents = refl;
  reliable = refl;
  agreed = agreed;
  honest = λ c e a. cc;
  steady = λ c e r there. cc;
}

-- what the readers say is left
pub left_of-at : (files : List DiskFile) (k : ℕ) (file : DiskFile) → k < length files → file ≡ get_or files k file → left_of files k ≡ file.left
unfolding left_of
left_of-at [] k file h e = absurd (omega arith)
left_of-at (f ∷ files) zero file h e = ap (λ (x : DiskFile). x.left) (sym e)
left_of-at (f ∷ files) (suc k) file h e = left_of-at files k file (omega arith) e

pub left_of-set : (files : List DiskFile) (k : ℕ) (file : DiskFile) → k < length files → left_of (set files k file) k ≡ file.left
unfolding left_of
left_of-set [] k file h = absurd (omega arith)
left_of-set (f ∷ files) zero file h = refl
left_of-set (f ∷ files) (suc k) file h = left_of-set files k file (omega arith)

-- a file that didn't change
pub set_same : (files : List DiskFile) (k : ℕ) (old new : DiskFile) → k < length files → old ≡ get_or files k old → new.handed ≡ old.handed → map (λ f. f.handed) (set files k new) ≡ map (λ f. f.handed) files
set_same [] k old new h e m = absurd (omega arith)
set_same (f ∷ files) zero old new h e m = ap (λ x. x ∷ map (λ f. f.handed) files) (m ∙ ap (λ (x : DiskFile). x.handed) e)
set_same (f ∷ files) (suc k) old new h e m = ap (λ fs. f.handed ∷ fs) (set_same files k old new (omega arith) e m)

pub disk_reads : (file : ℕ) (piece piece_then : List ℕ) (result : Result ℕ Trouble) (old new : DiskFiles) (f f_then : DiskFile) → file < length old.files → f ≡ get_or old.files file f → new.files ≡ set old.files file f_then → new.asked ≡ old.asked
    → IfOk result (λ n. n ≤ length piece) → IfOk result (λ n. f_then.handed ≡ more_of f.handed (take n piece_then) (meets_end piece n)) → OnErr result (f_then.handed ≡ f.handed)
    → Reads file piece piece_then result (disk_told old) (disk_told new)
disk_reads file piece piece_then (Ok n) old new f f_then h e is asked within handed kept = record {
  within = within;
  taken = record { files = ap (map (λ x. x.handed)) is ∙ set_more (λ x. x.handed) old.files file f f_then (take n piece_then) (meets_end piece n) h e handed; asked = asked };
}
disk_reads file piece piece_then (Err trouble) old new f f_then h e is asked within handed kept = record { files = ap (map (λ x. x.handed)) is ∙ set_same old.files file f f_then h e kept; asked = asked }

pub length_handed : (files : List DiskFile) → length (map (λ f. f.handed) files) ≡ length files
length_handed [] = refl
length_handed (f ∷ files) = ap suc (length_handed files)

pub handed_push : (files : List DiskFile) (f : DiskFile) (given name : List ℕ) → f.handed ≡ opened_file given → given ≡ name → map (λ x. x.handed) (files ++ f ∷ []) ≡ map (λ x. x.handed) files ++ opened_file name ∷ []
handed_push [] f given name h e = ap (λ g. g ∷ []) (h ∙ ap opened_file e)
handed_push (g ∷ files) f given name h e = ap (λ gs. g.handed ∷ gs) (handed_push files f given name h e)
