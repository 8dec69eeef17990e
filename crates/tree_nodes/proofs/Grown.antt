-- A tree with more items, by its halves.
use Rattle.std.proofs.Common.{◌≡◌, ℕ, suc, ◌+◌, ◌-◌, ◌*◌, ◌<◌, ◌≤◌, ◌^◌, List, [], ◌∷◌, ◌++◌, length, min, take, drop, take-add, refl, sym, ap, ap₂, ◌∙◌, arith, inl, inr, length-append, add-mul}
use Rattle.std.proofs.Math.Pow.{pow_mono}
use Rattle.std.proofs.lemmas.Bool.{cases_lt}
use Rattle.std.proofs.lemmas.List.{length-drop, length-take-le, append-nil, append_assoc, drop-drop}
use Rattle.hash_tree.proofs.Halves.{width_halves}
use Rattle.tree_nodes.specs.inside.Grown.{GrownHalves, IsLeast}
use Rattle.tree_nodes.specs.inside.Nodes.{AreHalves}
use Rattle.tree_nodes.proofs.Many.{times}

-- a left half that is still to be deeper gets the items for it
pub left_least : (low depth len count half len_left first : ℕ) → 0 < depth → half + half ≡ 2 ^ depth → half ≡ 2 ^ (depth - 1) → len ≤ 2 ^ low → len_left ≡ min len half → first ≡ min count (half - len_left) → (low < depth → IsLeast depth len count) → min low (depth - 1) < depth - 1 → IsLeast (depth - 1) len_left first
left_least low depth len count half len_left first inner twice width fits left_is first_is h less =
    let below : suc low ≤ depth - 1 = omega arith in
    let wide : 2 ^ suc low ≤ 2 ^ (depth - 1) = pow_mono below in
    let double : 2 ^ suc low ≡ 2 ^ low + 2 ^ low = width_halves (suc low) low refl in
    let one : 2 ^ 0 ≤ 2 ^ low = pow_mono {i = 0} {j = low} (omega arith) in
    let is : IsLeast depth len count = h (omega arith) in
    let some = is.some in
    let least = is.least in
    record { some = omega arith; least = omega arith }

module _ {A : Type 0} where
  -- how many items the halves have, and how many more they get
  pub shares : (node left right : ℕ × List A) (low depth len count half len_left first : ℕ) → GrownHalves node depth left right → 0 < depth → half + half ≡ 2 ^ depth → ((lower : ℕ) → depth ≡ suc lower → half ≡ 2 ^ lower) → len ≡ length node.1 → len + count ≤ 2 ^ depth → len_left ≡ min len half → first ≡ min count (half - len_left) → (half ≡ 2 ^ (depth - 1)) × (len_left ≡ length left.1) × (len - len_left ≡ length right.1) × (len_left + first ≤ half) × (len - len_left + (count - first) ≤ half) × (first ≤ count) × (0 < len - len_left + (count - first) → len_left + first ≡ half) × (0 < length right.1 → first ≡ 0)
  shares node left right low depth len count half len_left first h inner twice lower long room left_is first_is =
      let width : half ≡ 2 ^ (depth - 1) = lower (depth - 1) (omega arith) in
      let both : length node.1 ≡ length left.1 + length right.1 = ap length h.whole ∙ length-append left.1 right.1 in
      let deep : left.0 ≤ depth - 1 = omega (arith, h.left_depth) in
      let wide : 2 ^ left.0 ≤ 2 ^ (depth - 1) = pow_mono deep in
      let left_fits = h.left_fits in
      let right_fits = h.right_fits in
      elim (cases_lt 0 (length right.1)) as (λ _. (half ≡ 2 ^ (depth - 1)) × (len_left ≡ length left.1) × (len - len_left ≡ length right.1) × (len_left + first ≤ half) × (len - len_left + (count - first) ≤ half) × (first ≤ count) × (0 < len - len_left + (count - first) → len_left + first ≡ half) × (0 < length right.1 → first ≡ 0)) [
        | inl some ↦
            let full : length left.1 ≡ 2 ^ (depth - 1) = h.left_first some in
            (width, omega arith, omega arith, omega arith, omega arith, omega arith, (λ more. omega arith), λ there. omega arith)
        | inr none ↦ (width, omega arith, omega arith, omega arith, omega arith, omega arith, (λ more. omega arith), λ there. absurd (omega arith))
      ]

  -- the halves with more items are those of the tree with them
  more_items : (items left right xs mid : List A) (count first : ℕ) → items ≡ left ++ right → first ≤ count → (0 < length right → first ≡ 0) → mid ≡ drop first xs → (left ++ take first xs) ++ (right ++ take (count - first) mid) ≡ items ++ take count xs
  more_items items left [] xs mid count first whole few none rest =
      append_assoc left (take first xs) (take (count - first) mid)
      ∙ (ap (λ (ys : List A). left ++ (take first xs ++ take (count - first) ys)) rest
      ∙ (ap (λ (ys : List A). left ++ ys) (sym (take-add first (count - first) xs))
      ∙ ap₂ (λ (ys : List A) (n : ℕ). ys ++ take n xs) (sym (whole ∙ append-nil left)) (omega arith)))
  more_items items left (y ∷ ys) xs mid count first whole few none rest =
      let zero_first : first ≡ 0 = none (omega arith) in
      ap (λ (n : ℕ). (left ++ take n xs) ++ ((y ∷ ys) ++ take (count - n) mid)) zero_first
      ∙ (ap (λ (zs : List A). zs ++ ((y ∷ ys) ++ take (count - 0) mid)) (append-nil left)
      ∙ (sym (append_assoc left (y ∷ ys) (take (count - 0) mid))
      ∙ ap₂ (λ (zs : List A) (us : List A). zs ++ us) (sym whole)
      (ap₂ (λ (n : ℕ) (us : List A). take n us) (let same : count - 0 ≡ count = omega arith in same) (rest ∙ ap (λ (n : ℕ). drop n xs) zero_first))))

  pub more_halves : (node left right l r : ℕ × List A) (xs mid : List A) (low depth len count half len_left first : ℕ) → GrownHalves node depth left right → 0 < depth → half + half ≡ 2 ^ depth → ((lower : ℕ) → depth ≡ suc lower → half ≡ 2 ^ lower) → len ≡ length node.1 → len + count ≤ 2 ^ depth → len_left ≡ min len half → first ≡ min count (half - len_left) → count ≤ length xs → mid ≡ drop first xs → l ≡ (depth - 1, left.1 ++ take first xs) → r ≡ (depth - 1, right.1 ++ take (count - first) mid) → AreHalves l r × (◌≡◌ {A = ℕ × List A} (suc l.0, l.1 ++ r.1) (depth, node.1 ++ take count xs))
  more_halves node left right l r xs mid low depth len count half len_left first h inner twice lower long room left_is first_is some rest l_is r_is =
      let parts = shares node left right low depth len count half len_left first h inner twice lower long room left_is first_is in
      let width = parts.0 in
      let left_long = parts.1 in
      let right_long = parts.2 in
      let left_room = parts.3 in
      let right_room = parts.4 in
      let few = parts.5 in
      let first_taken : length (take first xs) ≡ first = length-take-le first xs (omega arith) in
      let mid_long : length mid ≡ length xs - first = ap length rest ∙ length-drop first xs in
      let rest_taken : length (take (count - first) mid) ≡ count - first = length-take-le (count - first) mid (omega arith) in
      let l_long : length l.1 ≡ length left.1 + length (take first xs) = ap (λ (v : ℕ × List A). length v.1) l_is ∙ length-append left.1 (take first xs) in
      let r_long : length r.1 ≡ length right.1 + length (take (count - first) mid) = ap (λ (v : ℕ × List A). length v.1) r_is ∙ length-append right.1 (take (count - first) mid) in
      let l_deep : l.0 ≡ depth - 1 = ap (λ (v : ℕ × List A). v.0) l_is in
      let r_deep : r.0 ≡ depth - 1 = ap (λ (v : ℕ × List A). v.0) r_is in
      let l_wide : 2 ^ l.0 ≡ 2 ^ (depth - 1) = ap (λ (n : ℕ). 2 ^ n) l_deep in
      let r_wide : 2 ^ r.0 ≡ 2 ^ (depth - 1) = ap (λ (n : ℕ). 2 ^ n) r_deep in (
        record {
          same_depth = l_deep ∙ sym r_deep;
          left_fits = omega arith;
          right_fits = omega arith;
          left_first = λ there. let full : len_left + first ≡ half = parts.6 (omega arith) in omega arith;
        },
        ap₂ (λ (n : ℕ) (ys : List A). (n, ys)) (let d : suc l.0 ≡ depth = omega arith in d)
            (ap₂ (λ (a b : List A). a ++ b) (ap (λ (v : ℕ × List A). v.1) l_is) (ap (λ (v : ℕ × List A). v.1) r_is)
            ∙ more_items node.1 left.1 right.1 xs mid count first h.whole few parts.7 rest),
      )

-- what is left of the leaves
pub rest_after : {A : Type 0} (xs mid last : List A) (count first : ℕ) → first ≤ count → mid ≡ drop first xs → last ≡ drop (count - first) mid → last ≡ drop count xs
rest_after xs mid last count first few front back =
    back ∙ (ap (λ (ys : List _). drop (count - first) ys) front ∙ (drop-drop (count - first) first xs ∙ ap (λ (n : ℕ). drop n xs) (let same : first + (count - first) ≡ count = omega arith in same)))

-- a pair for each level and leaf
pub more_work : (front back first count depth : ℕ) → 0 < depth → 0 < count → first ≤ count → front ≤ first * (depth - 1) → back ≤ (count - first) * (depth - 1) → suc (front + back) ≤ count * depth
more_work front back first count depth inner some few left right =
    let whole : count * depth ≡ count * (depth - 1) + count = times count depth inner in
    let sum : (first + (count - first)) * (depth - 1) ≡ first * (depth - 1) + (count - first) * (depth - 1) = add-mul first (count - first) (depth - 1) in
    let same : (first + (count - first)) * (depth - 1) ≡ count * (depth - 1) = ap (λ (n : ℕ). n * (depth - 1)) (let is : first + (count - first) ≡ count = omega arith in is) in
    omega arith
