-- Paths of a walk over a tree, and what is left behind a place.
use Rattle.std.proofs.Common.{◌≡◌, ℕ, zero, suc, ◌+◌, ◌-◌, ◌<◌, ◌≤◌, ◌^◌, List, [], ◌∷◌, ◌++◌, length, map, drop, refl, sym, ap, subst, ◌∙◌, arith, length-append}
use Rattle.std.specs.Prelude.{get_or, slice_get, slice_set, Option, Some, None}
use Rattle.std.specs.Borrow.{Bor}
use Rattle.std.proofs.lemmas.List.{append_assoc, append-nil, drop_all}
use Rattle.std.proofs.lemmas.Grind.{drop-set_at}
use Rattle.hash_tree.proofs.Halves.{width_halves}
use Rattle.tree_nodes.specs.inside.Nodes.{AreHalves}
use Rattle.tree_nodes.specs.inside.Layers.{held}
use Rattle.tree_nodes.specs.inside.Walks.{Joins, IsPath, Enters, ahead, waiting}

pow_some : (depth : ℕ) → 0 < 2 ^ depth
pow_some zero = omega arith
pow_some (suc depth) = let width : 2 ^ suc depth ≡ 2 ^ depth + 2 ^ depth = width_halves (suc depth) depth refl in omega (arith, pow_some depth)

module _ {A : Type 0} where
  some_of : (x : A) (o : Option A) → o ≡ Some x → (y : A) → o ≡ Some y → x ≡ y
  some_of x o e y f = ap (λ (p : Option A). elim p as (λ _. A) [ Some z ↦ z | None ↦ x ]) (sym e ∙ f)

  pub drop_some : (xs : List A) (at : ℕ) (x : A) → Some x ≡ slice_get xs at → drop at xs ≡ x ∷ drop (at + 1) xs
  drop_some [] at x e = absurd cc
  drop_some (y ∷ xs) zero x e = ap (λ (z : A). z ∷ xs) (sym (some_of x (Some y) (sym e) y refl))
  drop_some (y ∷ xs) (suc at) x e = drop_some xs at x e ∙ ap (λ (k : ℕ). x ∷ drop k (y ∷ xs)) (let next : suc (at + 1) ≡ suc at + 1 = omega arith in next)

module _ {A : Type 0} where
  pub get_some : (xs : List A) (at : ℕ) (x : A) → at < length xs → x ≡ get_or xs at x → Some x ≡ slice_get xs at
  get_some [] at x less e = absurd (omega arith)
  get_some (y ∷ xs) zero x less e = ap (λ (z : A). Some z) e
  get_some (y ∷ xs) (suc at) x less e = get_some xs at x (omega arith) e

  -- nothing is in a list whose length is 0
  pub none_in : (xs : List A) → length xs ≤ 0 → xs ≡ []
  none_in [] e = refl
  none_in (x ∷ xs) e = absurd (omega arith)

  left_joins : (left right : ℕ × List A) (rest : List (ℕ × List A)) → AreHalves left right → Joins (suc left.0, left.1 ++ right.1) rest → Joins left (right ∷ rest)
  unfolding held
  left_joins left right rest h joins some =
      let both : length (left.1 ++ right.1) ≡ length left.1 + length right.1 = length-append left.1 right.1 in
      let behind : length (right.1 ++ held rest) ≡ length right.1 + length (held rest) = length-append right.1 (held rest) in
      let width : 2 ^ suc left.0 ≡ 2 ^ left.0 + 2 ^ left.0 = width_halves (suc left.0) left.0 refl in
      let same : 2 ^ left.0 ≡ 2 ^ right.0 = ap (λ (d : ℕ). 2 ^ d) h.same_depth in
      let left_fits = h.left_fits in
      let right_fits = h.right_fits in
      grind (arith, both, behind, width, same, left_fits, right_fits, h.left_first, joins, some)

  right_joins : (left right : ℕ × List A) (rest : List (ℕ × List A)) → AreHalves left right → Joins (suc left.0, left.1 ++ right.1) rest → Joins right rest
  right_joins left right rest h joins some =
      let both : length (left.1 ++ right.1) ≡ length left.1 + length right.1 = length-append left.1 right.1 in
      let width : 2 ^ suc left.0 ≡ 2 ^ left.0 + 2 ^ left.0 = width_halves (suc left.0) left.0 refl in
      let same : 2 ^ left.0 ≡ 2 ^ right.0 = ap (λ (d : ℕ). 2 ^ d) h.same_depth in
      let left_fits = h.left_fits in
      let right_fits = h.right_fits in
      let full : length (left.1 ++ right.1) ≡ 2 ^ suc left.0 = joins some in
      omega arith

  -- the halves of a node join one another and the path
  halves_join : (left right : ℕ × List A) (rest : List (ℕ × List A)) (from : ℕ) → AreHalves left right → suc left.0 ≤ from → Joins (suc left.0, left.1 ++ right.1) rest → IsPath from rest → (left.0 ≤ from - 1) × Joins left (right ∷ rest) × IsPath (from - 1) (right ∷ rest)
  halves_join left right rest from h low joins path =
      let same = h.same_depth in
      let one : from ≡ suc (from - 1) = omega arith in
      (omega arith, left_joins left right rest h joins, (omega arith, right_joins left right rest h joins, subst (λ (k : ℕ). IsPath k rest) one path))

  pub enter_facts : (node left right l r : ℕ × List A) (rest : List (ℕ × List A)) (from : ℕ) → AreHalves left right → (suc left.0, left.1 ++ right.1) ≡ node → left ≡ l → right ≡ r → node.0 ≤ from → Joins node rest → IsPath from rest → (l.0 ≤ from - 1) × Joins l (r ∷ rest) × IsPath (from - 1) (r ∷ rest)
  enter_facts node left right l r rest from h view el er low joins path =
      subst (λ (v : ℕ × List A). (l.0 ≤ from - 1) × Joins l (v ∷ rest) × IsPath (from - 1) (v ∷ rest)) er
      (subst (λ (v : ℕ × List A). (v.0 ≤ from - 1) × Joins v (right ∷ rest) × IsPath (from - 1) (right ∷ rest)) el
      (halves_join left right rest from h (subst (λ (v : ℕ × List A). v.0 ≤ from) (sym view) low) (subst (λ (v : ℕ × List A). Joins v rest) (sym view) joins) path))

  enters_pair : (left right : ℕ × List A) (entered before now : List A) → AreHalves left right → Enters entered left.1 (right.1 ++ before) now → Enters entered (left.1 ++ right.1) before now
  enters_pair left right entered before now h enters = (
    enters.0 ∙ sym (append_assoc left.1 right.1 before),
    λ nothing.
        let both = enters.1 nothing in
        let first_full = h.left_first in
        let empty : length left.1 ≡ 0 = ap length both.0 in
        let none : right.1 ≡ [] = none_in right.1 (grind (arith, first_full, empty)) in
        (ap (λ (xs : List A). xs ++ right.1) both.0 ∙ none, both.1 ∙ ap (λ (xs : List A). xs ++ before) none),
  )

  pub enters_node : (node left right l r : ℕ × List A) (entered before between now : List A) → AreHalves left right → (suc left.0, left.1 ++ right.1) ≡ node → left ≡ l → right ≡ r → between ≡ r.1 ++ before → Enters entered l.1 between now → Enters entered node.1 before now
  enters_node node left right l r entered before between now h view el er e enters =
      subst (λ (v : ℕ × List A). Enters entered v.1 before now) view
      (enters_pair left right entered before now h
      (subst (λ (xs : List A). Enters entered left.1 xs now) (e ∙ ap (λ (v : ℕ × List A). v.1 ++ before) (sym er))
      (subst (λ (v : ℕ × List A). Enters entered v.1 between now) (sym el) enters)))

  pub ahead_set : (path : List (Bor (ℕ × List A))) (from : ℕ) (node : Bor (ℕ × List A)) → 0 < from → from ≤ length path → ahead (from - 1) (slice_set path (from - 1) node) ≡ node.now ∷ ahead from path
  ahead_set path from node some fits =
      ap (λ (nodes : List (Bor (ℕ × List A))). map (λ (n : Bor (ℕ × List A)). n.now) nodes) (drop-set_at path (from - 1) (from - 1) node refl (omega arith))
      ∙ ap (λ (k : ℕ). node.now ∷ ahead k path) (let one : from - 1 + 1 ≡ from = omega arith in one)

  pub ahead_at : (path : List (Bor (ℕ × List A))) (from : ℕ) (node : Bor (ℕ × List A)) → Some node ≡ slice_get path from → ahead from path ≡ node.now ∷ ahead (from + 1) path
  ahead_at path from node e = ap (λ (nodes : List (Bor (ℕ × List A))). map (λ (n : Bor (ℕ × List A)). n.now) nodes) (drop_some path from node e)

  pub held_laid : (nodes rest : List (ℕ × List A)) (node : ℕ × List A) → nodes ≡ node ∷ rest → held nodes ≡ node.1 ++ held rest
  unfolding held
  held_laid nodes rest node e = ap held e

  pub last_path : (node : ℕ × List A) → node.0 ≤ 40 → IsPath 40 (node ∷ [])
  unfolding held
  last_path node low = (low, (λ some. absurd (omega arith)), tt)

  pub held_last : (node : ℕ × List A) → held (node ∷ []) ≡ node.1
  unfolding held
  held_last node = append-nil node.1

  pub none_ahead : (path : List (Bor (ℕ × List A))) (from : ℕ) → length path ≤ from → waiting from path ≡ []
  unfolding held
  none_ahead path from behind = ap (λ (nodes : List (Bor (ℕ × List A))). held (map (λ (n : Bor (ℕ × List A)). n.now) nodes)) (drop_all from path behind)

  pub path_at : (path : List (Bor (ℕ × List A))) (from : ℕ) (node : Bor (ℕ × List A)) → Some node ≡ slice_get path from → IsPath from (ahead from path) → IsPath from (node.now ∷ ahead (from + 1) path)
  path_at path from node e is = subst (λ (ns : List (ℕ × List A)). IsPath from ns) (ahead_at path from node e) is

  first_of : (node : ℕ × List A) (rest : List (ℕ × List A)) (entered now : List A) → Joins node rest → Enters entered node.1 (held rest) now → Enters entered (node.1 ++ held rest) [] now
  first_of node rest entered now joins enters = (
    enters.0 ∙ sym (append-nil (node.1 ++ held rest)),
    λ nothing.
        let both = enters.1 nothing in
        let none : length node.1 ≡ 0 = ap length both.0 in
        let empty : held rest ≡ [] = none_in (held rest) (grind (arith, joins, none, pow_some node.0)) in
        (ap (λ (xs : List A). xs ++ held rest) both.0 ∙ empty, both.1 ∙ empty),
  )

  pub first_ahead : (path : List (Bor (ℕ × List A))) (from : ℕ) (node : Bor (ℕ × List A)) (entered now : List A) → Some node ≡ slice_get path from → IsPath from (ahead from path) → Enters entered node.now.1 (waiting (from + 1) path) now → Enters entered (waiting from path) [] now
  first_ahead path from node entered now e is enters =
      subst (λ (xs : List A). Enters entered xs [] now) (sym (held_laid (ahead from path) (ahead (from + 1) path) node.now (ahead_at path from node e)))
      (first_of node.now (ahead (from + 1) path) entered now (path_at path from node e is).1 enters)
