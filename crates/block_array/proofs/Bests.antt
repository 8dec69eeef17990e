-- The best of some nodes, from the first to the last and from the last to the first.
use Rattle.std.proofs.Common.{◌≡◌, ℕ, ◌<◌, Bool, true, false, cond, ◌||◌, ◌&&◌, eqb, nat_lt, ◌⊎◌, inl, inr, List, [], ◌∷◌, refl, sym, ap, ◌∙◌, arith, Ordering, Less, Equal, Greater}
use Rattle.std.specs.Ordering.{is_gt, nat_cmp, on, ordering_then, ordering_reverse, then_cmp}
use Rattle.std.specs.Cmp.{IsTotalOrder}
use Rattle.std.specs.Cmp.Lexicographic.{slice_cmp}
use Rattle.std.proofs.lemmas.Bool.{cases_Bool, lt-ltb, le-ltb, eq-eqb, ne_eqb}
use Rattle.std.proofs.lemmas.Cmp.{upto, ranked, on_total, then_total, nat_cmp_total, nat_list_cmp_total}
use Rattle.block_array.specs.PlainArray.{PlainArray, root_at}
use Rattle.block_array.specs.GetHead.{is_greater_root, goes_before, best_of}
use Rattle.block_array.specs.GetLatestAttestingBalance.{get_latest_attesting_balance}
use Rattle.block_array.specs.inside.BestDescendants.{better}

-- ---- the choice by a total order

module _ (R : ℕ → ℕ → Ordering) (total : IsTotalOrder R) where
  abbrev choose : ℕ → ℕ → ℕ
  choose a b = cond (is_gt (R b a)) b a

  not_back : (a b : ℕ) → is_gt (R b a) ≡ true → is_gt (R a b) ≡ false
  not_back a b h = by (R a b) (R b a) (total.antisymm a b) h
    where
      by : (o p : Ordering) → o ≡ ordering_reverse p → is_gt p ≡ true → is_gt o ≡ false
      by o Less e h = absurd cc
      by o Equal e h = absurd cc
      by o Greater e h = ap is_gt e

  stronger : (a b c : ℕ) → is_gt (R b a) ≡ true → is_gt (R c b) ≡ true → is_gt (R c a) ≡ true
  stronger a b c p q = by (cases_Bool (is_gt (R c a)))
    where
      by : (is_gt (R c a) ≡ true) ⊎ (is_gt (R c a) ≡ false) → is_gt (R c a) ≡ true
      by (inl h) = h
      by (inr h) = absurd (let e : true ≡ false = sym p ∙ upto total b c a (not_back b c q) h in cc)

  -- the better of the better of two and a third is the better of the first and the better of the others
  chosen : (a b c : ℕ) → choose (choose a b) c ≡ choose a (choose b c)
  chosen a b c = by (cases_Bool (is_gt (R b a))) (cases_Bool (is_gt (R c b)))
    where
      left : (x : ℕ) → choose a b ≡ x → choose (choose a b) c ≡ choose x c
      left x e = ap (λ y. choose y c) e

      right : (x : ℕ) → choose b c ≡ x → choose a (choose b c) ≡ choose a x
      right x e = ap (choose a) e

      by : (is_gt (R b a) ≡ true) ⊎ (is_gt (R b a) ≡ false) → (is_gt (R c b) ≡ true) ⊎ (is_gt (R c b) ≡ false) → choose (choose a b) c ≡ choose a (choose b c)
      by (inl p) (inl q) =
          left b (ap (λ t. cond t b a) p) ∙ ap (λ t. cond t c b) q
          ∙ sym (right c (ap (λ t. cond t c b) q) ∙ ap (λ t. cond t c a) (stronger a b c p q))
      by (inl p) (inr q) =
          left b (ap (λ t. cond t b a) p) ∙ ap (λ t. cond t c b) q
          ∙ sym (right b (ap (λ t. cond t c b) q) ∙ ap (λ t. cond t b a) p)
      by (inr p) (inl q) = left a (ap (λ t. cond t b a) p) ∙ sym (right c (ap (λ t. cond t c b) q))
      by (inr p) (inr q) =
          left a (ap (λ t. cond t b a) p) ∙ ap (λ t. cond t c a) (upto total c b a q p)
          ∙ sym (right b (ap (λ t. cond t c b) q) ∙ ap (λ t. cond t b a) p)

-- ---- the order of nodes: by weight, and then by root

module _ (array : PlainArray) where
  abbrev by_weight_and_root : ℕ → ℕ → Ordering
  by_weight_and_root = then_cmp (on (get_latest_attesting_balance array) nat_cmp) (on (root_at array.nodes) (slice_cmp nat_cmp))

  is_total : IsTotalOrder by_weight_and_root
  is_total = then_total (on_total (get_latest_attesting_balance array) nat_cmp_total) (on_total (root_at array.nodes) nat_list_cmp_total)

  before_is : (a b : ℕ) → goes_before array a b ≡ is_gt (by_weight_and_root a b)
  unfolding goes_before is_greater_root
  before_is a b = by (nat_cmp x y) refl
    where
      x : ℕ
      x = get_latest_attesting_balance array a

      y : ℕ
      y = get_latest_attesting_balance array b

      greater : Bool
      greater = is_gt (slice_cmp nat_cmp (root_at array.nodes a) (root_at array.nodes b))

      rest : Ordering
      rest = slice_cmp nat_cmp (root_at array.nodes a) (root_at array.nodes b)

      by : (o : Ordering) → o ≡ nat_cmp x y → (nat_lt y x || (eqb y x && greater)) ≡ is_gt (ordering_then (nat_cmp x y) rest)
      by Less e =
          let less : x < y = ranked x y Less e in
          ap (λ t. t || (eqb y x && greater)) (le-ltb y x (omega arith)) ∙ ap (λ t. t && greater) (ne_eqb y x (λ s. omega arith)) ∙ ap (λ o. is_gt (ordering_then o rest)) e
      by Equal e =
          let same : x ≡ y = ranked x y Equal e in
          ap (λ t. t || (eqb y x && greater)) (le-ltb y x (omega arith)) ∙ ap (λ t. t && greater) (eq-eqb y x (sym same)) ∙ ap (λ o. is_gt (ordering_then o rest)) e
      by Greater e =
          let more : y < x = ranked x y Greater e in
          ap (λ t. t || (eqb y x && greater)) (lt-ltb y x more) ∙ ap (λ o. is_gt (ordering_then o rest)) e

  better_is : (a b : ℕ) → better array a b ≡ choose by_weight_and_root is_total a b
  unfolding better
  better_is a b = ap (λ t. cond t b a) (before_is b a)

  assoc : (a b c : ℕ) → better array (better array a b) c ≡ better array a (better array b c)
  assoc a b c =
      better_is (better array a b) c ∙ ap (λ x. choose by_weight_and_root is_total x c) (better_is a b)
      ∙ chosen by_weight_and_root is_total a b c
      ∙ sym (better_is a (better array b c) ∙ ap (choose by_weight_and_root is_total a) (better_is b c))

  best_step : (x y : ℕ) (ys : List ℕ) → best_of array x (y ∷ ys) ≡ best_of array (better array x y) ys
  unfolding best_of better
  best_step x y ys = by (goes_before array y x)
    where
      by : (t : Bool) → cond t (best_of array y ys) (best_of array x ys) ≡ best_of array (cond t y x) ys
      by true = refl
      by false = refl

  best_one : (x : ℕ) → best_of array x [] ≡ x
  unfolding best_of
  best_one x = refl

  -- the best of a node and others is the better one of it and of the best of the others
  pub best_first : (x y : ℕ) (ys : List ℕ) → best_of array x (y ∷ ys) ≡ better array x (best_of array y ys)
  best_first x y [] = best_step x y [] ∙ best_one (better array x y) ∙ ap (better array x) (sym (best_one y))
  best_first x y (z ∷ zs) =
      best_step x y (z ∷ zs) ∙ best_first (better array x y) z zs ∙ assoc x y (best_of array z zs)
      ∙ ap (better array x) (sym (best_first y z zs))

-- ---- two that weigh as much

-- the one of the greater root goes before the other
pub tie_by_root : (array : PlainArray) (a b weight other : ℕ) (of_a of_b : List ℕ) → weight ≡ get_latest_attesting_balance array a → other ≡ get_latest_attesting_balance array b → other ≡ weight
    → of_a ≡ root_at array.nodes a → of_b ≡ root_at array.nodes b → is_greater_root of_a of_b ≡ goes_before array a b
unfolding goes_before
tie_by_root array a b weight other of_a of_b of_weight of_other tie a_root b_root =
    let x = get_latest_attesting_balance array a in
    let y = get_latest_attesting_balance array b in
    let greater = is_greater_root (root_at array.nodes a) (root_at array.nodes b) in
    let same : y ≡ x = sym of_other ∙ tie ∙ of_weight in
    ap (λ root. is_greater_root root of_b) a_root ∙ ap (is_greater_root (root_at array.nodes a)) b_root
    ∙ sym (ap (λ t. t || (eqb y x && greater)) (le-ltb y x (omega arith)) ∙ ap (λ t. t && greater) (eq-eqb y x same))
