-- Changes of numbers as changes of their chunks.
use Rattle.std.proofs.Common.{◌≡◌, ℕ, ◌/◌, ◌%◌, ◌<◌, ◌^◌, List, [], ◌∷◌, ◌++◌, length, sym, ap, subst, ◌∙◌, arith}
use Rattle.std.specs.Prelude.{slice_get, slice_set, Some}
use Rattle.std.specs.List.{AllByRecursion}
use Rattle.shared_tree.specs.declared.four.Four.{Four}
use Rattle.tree_nodes.specs.Changes.{AreChanges, changed}
use Rattle.shared_tree.specs.inside.Fours.{packed}
use Rattle.tree_nodes.proofs.Changes.{changed_push}
use Rattle.shared_tree.proofs.Packing.{length_packed, put_among, put_below}
use Rattle.tree_nodes.proofs.Puts.{put_set}

-- a number that is put into a chunk
pub add_facts : (fours : List Four) (numbers : List ℕ) (at n : ℕ) (f g : Four) (old front new : List (ℕ × Four)) → at < length numbers → changed fours old ≡ packed numbers → AreChanges 0 (at / 4) front → slice_get (changed fours old) (at / 4) ≡ Some f
    → ((h : Four) → slice_set (changed fours front) (at / 4) h ≡ slice_set (changed fours old) (at / 4) h) → g.numbers ≡ slice_set f.numbers (at % 4) n → new ≡ front ++ (at / 4, g) ∷ [] → changed fours new ≡ packed (slice_set numbers at n)
add_facts fours numbers at n f g old front new within was places held set with is =
    let room : at / 4 < length (packed numbers) = omega (arith, length_packed numbers) in
    ap (λ (cs : List (ℕ × Four)). changed fours cs) is
    ∙ (changed_push fours 0 (at / 4) front g places
    ∙ (set g
    ∙ (ap (λ (l : List Four). slice_set l (at / 4) g) was
    ∙ (sym (put_set (packed numbers) (at / 4) g room)
    ∙ (put_among numbers at n f g (omega arith) room (sym (ap (λ (l : List Four). slice_get l (at / 4)) was) ∙ held) with
    ∙ ap packed (put_set numbers at n within))))))

pub set_below : (xs : List ℕ) (at n : ℕ) → at < length xs → AllByRecursion (λ m. m < 2 ^ 64) xs → n < 2 ^ 64 → AllByRecursion (λ m. m < 2 ^ 64) (slice_set xs at n)
set_below xs at n within all below = subst (λ (ys : List ℕ). AllByRecursion (λ m. m < 2 ^ 64) ys) (put_set xs at n within) (put_below xs at n all below)
