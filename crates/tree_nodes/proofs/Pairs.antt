-- The root of two halves is that of their items, and what is put into a half is put into the whole.
use Rattle.std.proofs.Common.{◌≡◌, ◌≢◌, ℕ, zero, suc, ◌+◌, ◌-◌, ◌<◌, ◌≤◌, ◌^◌, List, [], ◌∷◌, ◌++◌, length, map, take, drop, max, refl, sym, ap, subst, ◌∙◌, arith, inl, inr, length-append}
use Rattle.std.proofs.lemmas.List.{append-nil, take_all, drop_all, length-map, map-append}
use Rattle.hash_tree.specs.Merkle.{hash, merkle_root}
use Rattle.hash_tree.proofs.Halves.{merkle_root-halves}
use Rattle.std.proofs.Math.Pow.{pow_mono}
use Rattle.std.proofs.lemmas.Bool.{cases_lt}
use Rattle.std.specs.Prelude.{Result, Ok, Err, IfOk, OnOk}
use Rattle.tree_nodes.specs.inside.Nodes.{AreHalves, AreMade, IsPairOf}
use Rattle.tree_nodes.specs.inside.Puts.{put_at, Grows}
use Rattle.tree_nodes.proofs.Puts.{put_left, put_right, put_push, length_put}

module _ {A : Type 0} where
  pub front : (xs ys : List A) (n : ℕ) → length xs ≤ n → (0 < length ys → length xs ≡ n) → take n (xs ++ ys) ≡ xs
  front xs [] n low full = ap (λ (l : List A). take n l) (append-nil xs) ∙ take_all n xs low
  front [] (y ∷ ys) zero low full = refl
  front [] (y ∷ ys) (suc n) low full = absurd (omega (arith, full (omega arith)))
  front (x ∷ xs) (y ∷ ys) zero low full = absurd (omega arith)
  front (x ∷ xs) (y ∷ ys) (suc n) low full = ap (λ (r : List A). x ∷ r) (front xs (y ∷ ys) n (omega arith) (λ some. omega (arith, full (omega arith))))

  pub back : (xs ys : List A) (n : ℕ) → length xs ≤ n → (0 < length ys → length xs ≡ n) → drop n (xs ++ ys) ≡ ys
  back xs [] n low full = ap (λ (l : List A). drop n l) (append-nil xs) ∙ drop_all n xs low
  back [] (y ∷ ys) zero low full = refl
  back [] (y ∷ ys) (suc n) low full = absurd (omega (arith, full (omega arith)))
  back (x ∷ xs) (y ∷ ys) zero low full = absurd (omega arith)
  back (x ∷ xs) (y ∷ ys) (suc n) low full = back xs (y ∷ ys) n (omega arith) (λ some. omega (arith, full (omega arith)))

pub root_of_halves : {A : Type 0} (root_of : A → List ℕ) (left right : ℕ × List A) → AreHalves left right → hash (merkle_root left.0 (map root_of left.1) ++ merkle_root right.0 (map root_of right.1)) ≡ merkle_root (suc left.0) (map root_of (left.1 ++ right.1))
root_of_halves root_of left right h =
    let low : length (map root_of left.1) ≤ 2 ^ left.0 = omega (arith, h.left_fits, length-map left.1 root_of) in
    let full : 0 < length (map root_of right.1) → length (map root_of left.1) ≡ 2 ^ left.0 = λ some. omega (arith, h.left_first (omega (arith, length-map right.1 root_of)), length-map left.1 root_of) in
    let chunks : map root_of (left.1 ++ right.1) ≡ map root_of left.1 ++ map root_of right.1 = map-append root_of left.1 right.1 in
    let whole = merkle_root-halves (suc left.0) left.0 (map root_of left.1 ++ map root_of right.1) (map root_of left.1) (map root_of right.1) refl
    (sym (front (map root_of left.1) (map root_of right.1) (2 ^ left.0) low full))
    (sym (back (map root_of left.1) (map root_of right.1) (2 ^ left.0) low full)) in
    ap (λ (d : ℕ). hash (merkle_root left.0 (map root_of left.1) ++ merkle_root d (map root_of right.1))) (sym h.same_depth) ∙ (sym whole ∙ ap (merkle_root (suc left.0)) (sym chunks))

-- a place in the left half is none behind its items
pub place_left : {A : Type 0} (left right : ℕ × List A) (at : ℕ) → AreHalves left right → at < 2 ^ left.0 → at ≤ length (left.1 ++ right.1) → at ≤ length left.1
place_left left right at h low within =
    let long = length-append left.1 right.1 in
    elim (cases_lt 0 (length right.1)) as (λ _. at ≤ length left.1) [
      | inl some ↦ let full : length left.1 ≡ 2 ^ left.0 = h.left_first some in omega arith
      | inr none ↦ omega arith
    ]

-- where a place is in the right half, the left one is full
full_left : {A : Type 0} (left right : ℕ × List A) (at : ℕ) → AreHalves left right → 2 ^ left.0 ≤ at → at ≤ length (left.1 ++ right.1) → length left.1 ≡ 2 ^ left.0
full_left left right at h high within =
    let long = length-append left.1 right.1 in
    let fits = h.left_fits in
    elim (cases_lt 0 (length right.1)) as (λ _. length left.1 ≡ 2 ^ left.0) [
      | inl some ↦ h.left_first some
      | inr none ↦ omega arith
    ]

-- a tree with an item put into its left half
pub put_halves_left : {A : Type 0} (left right new : ℕ × List A) (at : ℕ) (item : A) → AreHalves left right → at < 2 ^ left.0 → at ≤ length (left.1 ++ right.1) → new ≡ (left.0, put_at left.1 at item) → AreHalves new right
put_halves_left left right new at item h low within is =
    let first = h.left_first in
    let fits = h.left_fits in
    let place : at ≤ length left.1 = place_left left right at h low within in
    let long : length new.1 ≡ max (length left.1) (at + 1) = ap (λ (v : ℕ × List _). length v.1) is ∙ length_put left.1 at item place in
    let wide : 2 ^ new.0 ≡ 2 ^ left.0 = ap (λ (v : ℕ × List _). 2 ^ v.0) is in
    record {
      same_depth = ap (λ (v : ℕ × List _). v.0) is ∙ h.same_depth;
      left_fits = omega arith;
      right_fits = h.right_fits;
      left_first = λ some. let full : length left.1 ≡ 2 ^ left.0 = first some in omega arith;
    }

pub put_value_left : {A : Type 0} (left right new : ℕ × List A) (at : ℕ) (item : A) → AreHalves left right → at < 2 ^ left.0 → new ≡ (left.0, put_at left.1 at item) → ◌≡◌ {A = ℕ × List A} (suc new.0, new.1 ++ right.1) (suc left.0, put_at (left.1 ++ right.1) at item)
put_value_left left right new at item h low is =
    ap (λ (v : ℕ × List _). (suc v.0, v.1 ++ right.1)) is
    ∙ ap (λ (items : List _). (suc left.0, items)) (sym (put_left left.1 right.1 at item (λ some. let full : length left.1 ≡ 2 ^ left.0 = h.left_first some in omega arith)))

-- and into its right half
pub put_halves_right : {A : Type 0} (left right new : ℕ × List A) (at : ℕ) (item : A) → AreHalves left right → 2 ^ left.0 ≤ at → at < 2 ^ left.0 + 2 ^ left.0 → at ≤ length (left.1 ++ right.1) → new ≡ (right.0, put_at right.1 (at - 2 ^ left.0) item) → AreHalves left new
put_halves_right left right new at item h high low within is =
    let full : length left.1 ≡ 2 ^ left.0 = full_left left right at h high within in
    let place : at - 2 ^ left.0 ≤ length right.1 = omega (arith, length-append left.1 right.1) in
    let right_fits = h.right_fits in
    let same : 2 ^ right.0 ≡ 2 ^ left.0 = ap (λ (d : ℕ). 2 ^ d) (sym h.same_depth) in
    let long : length new.1 ≡ max (length right.1) (at - 2 ^ left.0 + 1) = ap (λ (v : ℕ × List _). length v.1) is ∙ length_put right.1 (at - 2 ^ left.0) item place in
    let wide : 2 ^ new.0 ≡ 2 ^ right.0 = ap (λ (v : ℕ × List _). 2 ^ v.0) is in
    record {
      same_depth = h.same_depth ∙ sym (ap (λ (v : ℕ × List _). v.0) is);
      left_fits = h.left_fits;
      right_fits = omega arith;
      left_first = λ some. full;
    }

pub put_value_right : {A : Type 0} (left right new : ℕ × List A) (at : ℕ) (item : A) → AreHalves left right → 2 ^ left.0 ≤ at → at ≤ length (left.1 ++ right.1) → new ≡ (right.0, put_at right.1 (at - 2 ^ left.0) item) → ◌≡◌ {A = ℕ × List A} (suc left.0, left.1 ++ new.1) (suc left.0, put_at (left.1 ++ right.1) at item)
put_value_right left right new at item h high within is =
    let full : length left.1 ≡ 2 ^ left.0 = full_left left right at h high within in
    ap (λ (v : ℕ × List _). (suc left.0, left.1 ++ v.1)) is
    ∙ ap (λ (items : List _). (suc left.0, items)) (sym (put_right left.1 right.1 (2 ^ left.0) at item full high))

-- what a call puts into a half it puts into the whole
pub put_into_left : {A : Type 0} (node left right new other : ℕ × List A) (depth half at : ℕ) (item : A) → AreHalves left right → node ≡ (suc left.0, left.1 ++ right.1) → depth ≡ node.0 → ((lower : ℕ) → depth ≡ suc lower → half ≡ 2 ^ lower) → at < half → at ≤ length node.1 → new ≡ (depth - 1, put_at left.1 at item) → other ≡ right → AreHalves new other × (◌≡◌ {A = ℕ × List A} (suc new.0, new.1 ++ other.1) (depth, put_at node.1 at item))
put_into_left node left right new other depth half at item h view same lower low within new_is other_is =
    let d : depth ≡ suc left.0 = same ∙ ap (λ (v : ℕ × List _). v.0) view in
    let width : half ≡ 2 ^ left.0 = lower left.0 d in
    let is : new ≡ (left.0, put_at left.1 at item) = new_is ∙ ap (λ (k : ℕ). (k, put_at left.1 at item)) (omega arith) in
    let place : at ≤ length (left.1 ++ right.1) = omega (arith, ap (λ (v : ℕ × List _). length v.1) view) in (
      subst (λ (r : ℕ × List _). AreHalves new r) (sym other_is) (put_halves_left left right new at item h (omega arith) place is),
      ap (λ (r : ℕ × List _). (suc new.0, new.1 ++ r.1)) other_is
          ∙ (put_value_left left right new at item h (omega arith) is
          ∙ (ap (λ (k : ℕ). (k, put_at (left.1 ++ right.1) at item)) (sym d) ∙ ap (λ (v : ℕ × List _). (depth, put_at v.1 at item)) (sym view))),
    )

pub put_into_right : {A : Type 0} (node left right new other : ℕ × List A) (depth half at : ℕ) (item : A) → AreHalves left right → node ≡ (suc left.0, left.1 ++ right.1) → depth ≡ node.0 → ((lower : ℕ) → depth ≡ suc lower → half ≡ 2 ^ lower) → half + half ≡ 2 ^ depth → half ≤ at → at < 2 ^ depth → at ≤ length node.1 → new ≡ (depth - 1, put_at right.1 (at - half) item) → other ≡ left → AreHalves other new × (◌≡◌ {A = ℕ × List A} (suc other.0, other.1 ++ new.1) (depth, put_at node.1 at item))
put_into_right node left right new other depth half at item h view same lower twice high low within new_is other_is =
    let d : depth ≡ suc left.0 = same ∙ ap (λ (v : ℕ × List _). v.0) view in
    let same_depth = h.same_depth in
    let width : half ≡ 2 ^ left.0 = lower left.0 d in
    let is : new ≡ (right.0, put_at right.1 (at - 2 ^ left.0) item) = new_is ∙ (ap (λ (k : ℕ). (k, put_at right.1 (at - half) item)) (omega arith) ∙ ap (λ (k : ℕ). (right.0, put_at right.1 (at - k) item)) width) in
    let place : at ≤ length (left.1 ++ right.1) = omega (arith, ap (λ (v : ℕ × List _). length v.1) view) in (
      subst (λ (l : ℕ × List _). AreHalves l new) (sym other_is) (put_halves_right left right new at item h (omega arith) (omega arith) place is),
      ap (λ (l : ℕ × List _). (suc l.0, l.1 ++ new.1)) other_is
          ∙ (put_value_right left right new at item h (omega arith) place is
          ∙ (ap (λ (k : ℕ). (k, put_at (left.1 ++ right.1) at item)) (sym d) ∙ ap (λ (v : ℕ × List _). (depth, put_at v.1 at item)) (sym view))),
    )

-- what is put into a leaf is its item
alone : {A : Type 0} (xs : List A) (at : ℕ) (item : A) → length xs ≤ 1 → at < 1 → item ∷ [] ≡ put_at xs at item
unfolding put_at
alone [] at item long low = refl
alone (x ∷ []) zero item long low = refl
alone (x ∷ []) (suc at) item long low = absurd (omega arith)
alone (x ∷ y ∷ xs) at item long low = absurd (omega arith)

pub put_into_bare : {A : Type 0} (node : ℕ × List A) (depth at : ℕ) (item : A) → depth ≡ node.0 → length node.1 ≤ 1 → (0 < node.0 → node.1 ≡ []) → at < 2 ^ depth → ◌≡◌ {A = ℕ × List A} (depth, item ∷ []) (depth, put_at node.1 at item)
unfolding put_at
put_into_bare node depth at item same one none low =
    ap (λ (items : List _). (depth, items)) (elim (cases_lt 0 node.0) as (λ _. item ∷ [] ≡ put_at node.1 at item) [
      | inl deep ↦ ap (λ (xs : List _). put_at xs at item) (sym (none deep))
      | inr flat ↦ let zero_deep : depth ≡ 0 = omega arith in let width : 2 ^ depth ≡ 1 = ap (λ (d : ℕ). 2 ^ d) zero_deep in alone node.1 at item one (omega arith)
    ])

-- a full tree as the left half of a deeper one, whose right half has one item
pub grown : {A : Type 0} (node shared right : ℕ × List A) (depth at : ℕ) (item : A) → depth ≡ node.0 → length node.1 ≤ 2 ^ depth → 2 ^ depth ≤ at → at ≤ length node.1 → shared ≡ node → right ≡ (depth, item ∷ []) → AreHalves shared right × (◌≡◌ {A = ℕ × List A} (suc shared.0, shared.1 ++ right.1) (depth + 1, put_at node.1 at item))
grown node shared right depth at item same fits full place shared_is right_is =
    let one : 2 ^ 0 ≤ 2 ^ depth = pow_mono {i = 0} {j = depth} (omega arith) in
    let width : 2 ^ shared.0 ≡ 2 ^ depth = ap (λ (v : ℕ × List _). 2 ^ v.0) shared_is ∙ ap (λ (d : ℕ). 2 ^ d) (sym same) in
    let right_width : 2 ^ right.0 ≡ 2 ^ depth = ap (λ (v : ℕ × List _). 2 ^ v.0) right_is in
    let long : length shared.1 ≡ length node.1 = ap (λ (v : ℕ × List _). length v.1) shared_is in
    let right_long : length right.1 ≡ 1 = ap (λ (v : ℕ × List _). length v.1) right_is in (
      record {
        same_depth = ap (λ (v : ℕ × List _). v.0) shared_is ∙ (sym same ∙ sym (ap (λ (v : ℕ × List _). v.0) right_is));
        left_fits = omega arith;
        right_fits = omega arith;
        left_first = λ some. omega arith;
      },
      ap (λ (v : ℕ × List _). (suc v.0, v.1 ++ right.1)) shared_is
          ∙ (ap (λ (v : ℕ × List _). (suc node.0, node.1 ++ v.1)) right_is
          ∙ (ap (λ (items : List _). (suc node.0, items)) (sym (put_push node.1 at item (omega arith)))
          ∙ ap (λ (d : ℕ). (d, put_at node.1 at item)) (omega arith))),
    )

-- two halves that were made, and their pair
module _ {A E : Type 0} {P Q : ℕ × List A → Type 0} where
  pub both_made : (left right : Result (ℕ × List A) E) → IfOk left P → IfOk right Q → ((l r : ℕ × List A) → P l → Q r → AreHalves l r) → AreMade AreHalves left right
  both_made (Ok l) (Ok r) p q both = both l r p q
  both_made (Ok l) (Err e) p q both = tt
  both_made (Err e) right p q both = tt

  pub pair_made : (left right whole : Result (ℕ × List A) E) (value : ℕ × List A) → IfOk left P → IfOk right Q → IfOk whole (IsPairOf left right) → ((l r : ℕ × List A) → P l → Q r → ◌≡◌ {A = ℕ × List A} (suc l.0, l.1 ++ r.1) value) → IfOk whole (λ new. new ≡ value)
  pair_made left right (Err e) value p q is both = tt
  pair_made (Ok l) (Ok r) (Ok new) value p q is both = is ∙ both l r p q
  pair_made (Ok l) (Err e) (Ok new) value p q is both = absurd is
  pair_made (Err e) right (Ok new) value p q is both = absurd is

pub pair_counted : {A E P Q R : Type 0} (left right whole : Result (ℕ × List A) E) → OnOk left P → IfOk whole (IsPairOf left right) → OnOk whole Q → (P → Q → R) → OnOk whole R
pair_counted left right (Err e) p is q both = tt
pair_counted (Ok l) (Ok r) (Ok new) p is q both = both p q
pair_counted (Ok l) (Err e) (Ok new) p is q both = absurd is
pair_counted (Err e) right (Ok new) p is q both = absurd is

pub pair_counted_right : {A E P Q R : Type 0} (left right whole : Result (ℕ × List A) E) → OnOk right P → IfOk whole (IsPairOf left right) → OnOk whole Q → (P → Q → R) → OnOk whole R
pair_counted_right left right (Err e) p is q both = tt
pair_counted_right (Ok l) (Ok r) (Ok new) p is q both = both p q
pair_counted_right (Ok l) (Err e) (Ok new) p is q both = absurd is
pair_counted_right (Err e) right (Ok new) p is q both = absurd is

-- a tree that stays as deep has room at the place, and another one is full
pub stays_low : (depth at grown : ℕ) → Grows depth at grown → grown ≡ depth → at < 2 ^ depth
stays_low depth at grown g same =
    elim (cases_lt at (2 ^ depth)) as (λ _. at < 2 ^ depth) [
      | inl low ↦ low
      | inr high ↦ let more : grown ≡ depth + 1 = g.grows high in absurd (omega arith)
    ]

pub grows_high : (depth at grown : ℕ) → Grows depth at grown → grown ≢ depth → (2 ^ depth ≤ at) × (grown ≡ depth + 1)
grows_high depth at grown g other =
    elim (cases_lt at (2 ^ depth)) as (λ _. (2 ^ depth ≤ at) × (grown ≡ depth + 1)) [
      | inl low ↦ absurd (other (g.stays low))
      | inr high ↦ (high, g.grows high)
    ]
