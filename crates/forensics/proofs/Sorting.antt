-- A list that is sorted and rid of what stands in it twice is the list in order.
use Rattle.std.proofs.Common.{◌≡◌, ℕ, suc, ◌+◌, ◌<◌, true, List, [], ◌∷◌, slice_index, eqb, refl, sym, subst, arith}
use Rattle.std.specs.List.{Contains, dedup}
use Rattle.std.specs.List.Sorted.{IsPermutation, IsSorted, IsStrictlyIncreasing}
use Rattle.std.specs.Ordering.{nat_cmp}
use Rattle.std.proofs.lemmas.Bool.{lt-ltb}
use Rattle.std.proofs.lemmas.List.Kept.{Contains-dedup_nat, Contains-from_dedup}
use Rattle.std.proofs.lemmas.List.Sorted.{Contains-permutation, IsPermutation-sym}
use Rattle.std.proofs.lemmas.Map.Keys.{IsStrictlyIncreasing-dedup}
use Rattle.spec_blocks.specs.IsValidIndexedAttestation.{is_strictly_ascending}
use Rattle.spec_slasher.specs.GetIndexedAttestation.{in_order}
use Rattle.spec_slasher.proofs.Lists.{and_true}
use Rattle.spec_slasher.proofs.Sorted.{only_one}

ascends : (xs : List ℕ) → IsStrictlyIncreasing xs → is_strictly_ascending xs ≡ true
unfolding is_strictly_ascending
ascends [] up = refl
ascends (x ∷ []) up = refl
ascends (x ∷ y ∷ xs) up =
    let first : x < y = up 0 (omega arith) in
    and_true _ _ (lt-ltb x y first) (ascends (y ∷ xs) (λ k less.
    let next : suc k + 1 ≡ suc (k + 1) = omega arith in
    let later : slice_index (x ∷ y ∷ xs) (suc k) < slice_index (x ∷ y ∷ xs) (suc k + 1) = up (suc k) (omega (arith, less)) in
    subst (λ (n : ℕ). slice_index (y ∷ xs) k < slice_index (x ∷ y ∷ xs) n) next later))

pub sorted_once : (xs sorted once : List ℕ) → IsPermutation xs sorted → IsSorted nat_cmp sorted → once ≡ dedup eqb sorted → once ≡ in_order xs
sorted_once xs sorted once moved order is =
    only_one xs once (ascends once (subst IsStrictlyIncreasing (sym is) (IsStrictlyIncreasing-dedup sorted order)))
    (λ i h. subst (λ (l : List ℕ). Contains l i) (sym is) (Contains-dedup_nat sorted i (Contains-permutation xs sorted i moved h)))
    (λ i h. Contains-permutation sorted xs i (IsPermutation-sym xs sorted moved) (Contains-from_dedup eqb sorted i (subst (λ (l : List ℕ). Contains l i) is h)))
