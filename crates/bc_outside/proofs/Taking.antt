-- Taking bytes of a file piece by piece.
use Rattle.std.proofs.Common.{◌≡◌, ◌≤◌, ◌<◌, ◌+◌, ℕ, zero, suc, Bool, true, false, ◌||◌, ◌&&◌, ◌==◌, not, List, [], ◌∷◌, ◌++◌, length, map, set, get_or, refl, sym, ap, ◌∙◌, arith, zero-le, append-nil, append_assoc, length-append, take, drop}
use Rattle.std.proofs.Math.Seq.{take-add}
use Rattle.std.proofs.lemmas.Bool.Decides.{nat_tests}
use Rattle.bc_outside.specs.Told.{FileHanded, ShelfTold, any_byte, more_of, with_more}
use Rattle.bc_outside.specs.Calls.{Stays, Takes, TakesSome, ReadUpTo, meets_end}

or_false : (a : Bool) → (a || false) ≡ a
or_false true = refl
or_false false = refl

and_false : (a : Bool) → (a && false) ≡ false
and_false true = refl
and_false false = refl

same_file : (f : FileHanded) → more_of f [] false ≡ f
same_file f = rw (append-nil f.bytes, or_false f.ended, and_false f.ended, or_false f.grew) refl

grew_twice : (grew ended : Bool) (a b : List ℕ) → ((grew || (ended && any_byte a)) || ((ended || false) && any_byte b)) ≡ (grew || (ended && any_byte (a ++ b)))
grew_twice true ended a b = refl
grew_twice false false a b = refl
grew_twice false true [] b = refl
grew_twice false true (x ∷ a) b = refl

ended_twice : (ended met : Bool) → ((ended || false) || met) ≡ (ended || met)
ended_twice true met = refl
ended_twice false met = refl

file_twice : (f : FileHanded) (a b : List ℕ) (met : Bool) → more_of (more_of f a false) b met ≡ more_of f (a ++ b) met
file_twice f a b met = rw (append_assoc f.bytes a b, ended_twice f.ended met, grew_twice f.grew f.ended a b) refl

pub more-none : (files : List FileHanded) (file : ℕ) → with_more files file [] false ≡ files
unfolding with_more
more-none [] file = refl
more-none (f ∷ files) zero = ap (λ g. g ∷ files) (same_file f)
more-none (f ∷ files) (suc file) = ap (λ fs. f ∷ fs) (more-none files file)

pub more-twice : (files : List FileHanded) (file : ℕ) (a b : List ℕ) (met : Bool) → with_more (with_more files file a false) file b met ≡ with_more files file (a ++ b) met
unfolding with_more
more-twice [] file a b met = refl
more-twice (f ∷ files) zero a b met = ap (λ g. g ∷ files) (file_twice f a b met)
more-twice (f ∷ files) (suc file) a b met = ap (λ fs. f ∷ fs) (more-twice files file a b met)

-- More is handed out of the last file.
pub more-last : (files : List FileHanded) (f : FileHanded) (bytes : List ℕ) (met : Bool) → with_more (files ++ f ∷ []) (length files) bytes met ≡ files ++ more_of f bytes met ∷ []
unfolding with_more
more-last [] f bytes met = refl
more-last (g ∷ files) f bytes met = ap (λ fs. g ∷ fs) (more-last files f bytes met)

-- One element is changed so that more of its file is handed out.
pub set_more : {A : Type 0} (handed : A → FileHanded) (items : List A) (k : ℕ) (old new : A) (bytes : List ℕ) (met : Bool) → k < length items → old ≡ get_or items k old → handed new ≡ more_of (handed old) bytes met → map handed (set items k new) ≡ with_more (map handed items) k bytes met
unfolding with_more
set_more handed [] k old new bytes met h e m = absurd (omega arith)
set_more handed (x ∷ items) zero old new bytes met h e m = ap (λ f. f ∷ map handed items) (m ∙ ap (λ x. more_of (handed x) bytes met) e)
set_more handed (x ∷ items) (suc k) old new bytes met h e m = ap (λ fs. handed x ∷ fs) (set_more handed items k old new bytes met (omega arith) e m)

pub takes_none : (file : ℕ) (s : ShelfTold) → Takes file [] false s s
takes_none file s = record { files = sym (more-none s.files file); asked = refl }

pub takes_stays : (file : ℕ) {s t : ShelfTold} → Stays s t → Takes file [] false s t
takes_stays file {s} {t} h = record { files = h.files ∙ sym (more-none s.files file); asked = h.asked }

pub takes_then : {file : ℕ} {a b : List ℕ} {met : Bool} {s t u : ShelfTold} → Takes file a false s t → Takes file b met t u → Takes file (a ++ b) met s u
takes_then {file} {a} {b} {met} {s} {t} {u} h k = record {
  files = k.files ∙ ap (λ fs. with_more fs file b met) h.files ∙ more-twice s.files file a b met;
  asked = k.asked ∙ h.asked;
}

pub takes_some_none : (limit file : ℕ) {s t : ShelfTold} → Stays s t → TakesSome limit file s t
takes_some_none limit file h = ([], zero-le, takes_stays file h)

pub takes_some_more : (limit more file : ℕ) (bytes : List ℕ) (s t u : ShelfTold) → Takes file bytes false s t → length bytes + more ≤ limit → TakesSome more file t u → TakesSome limit file s u
takes_some_more limit more file bytes s t u h le some = (bytes ++ some.0, omega (arith, length-append bytes some.0, some.1), takes_then h some.2)

pub stays_same : (s : ShelfTold) → Stays s s
stays_same s = record { files = refl; asked = refl }

-- whether a read met the end, as the code tests it
pub end_tested : (piece : List ℕ) (n : ℕ) → ((n == 0) && not (length piece == 0)) ≡ meets_end piece n
end_tested [] n = refl
end_tested (b ∷ piece) n = let k : (length (b ∷ piece) == 0) ≡ false = grind (arith, nat_tests) in rw k refl

-- whether a read met the end
pub met_end : (piece : List ℕ) (n : ℕ) → n ≡ 0 → 0 < length piece → meets_end piece n ≡ true
met_end [] n e some = absurd (omega arith)
met_end (b ∷ piece) n e some = rw e refl

pub met_none : (piece : List ℕ) (n : ℕ) → 0 < n → meets_end piece n ≡ false
met_none piece n some = let k : (n == 0) ≡ false = grind (arith, nat_tests) in rw k refl

-- a last read met the end, or another read came
pub read_to_end : (limit file : ℕ) (bytes piece all buffer : List ℕ) (n : ℕ) {s t u : ShelfTold} → Takes file bytes false s t → Takes file piece (meets_end buffer n) t u → all ≡ bytes ++ piece → length all ≤ limit → n ≡ 0 → 0 < length buffer → ReadUpTo limit file all s u
read_to_end limit file bytes piece all buffer n {s} {t} {u} h k e le none some = record {
  met = meets_end buffer n;
  taken = rw e (takes_then h k);
  within = le;
  all = λ _. met_end buffer n none some;
}

pub read_on : (file : ℕ) (bytes piece all buffer : List ℕ) (n : ℕ) {s t u : ShelfTold} → Takes file bytes false s t → Takes file piece (meets_end buffer n) t u → all ≡ bytes ++ piece → 0 < n → Takes file all false s u
read_on file bytes piece all buffer n {s} {t} {u} h k e some = rw e (takes_then h (rw (met_none buffer n some) at k))

-- a piece was written in several calls
pub wrote_more : (bytes piece old mid new : List ℕ) (w n : ℕ) → take n piece ≡ take n (drop w bytes) → mid ≡ old ++ take w bytes → new ≡ mid ++ take n piece → new ≡ old ++ take (w + n) bytes
wrote_more bytes piece old mid new w n e p q =
    q ∙ ap (λ o. o ++ take n piece) p
    ∙ ap (λ x. (old ++ take w bytes) ++ x) e
    ∙ append_assoc old (take w bytes) (take n (drop w bytes)) ∙ ap (λ x. old ++ x) (sym (take-add w n bytes))
