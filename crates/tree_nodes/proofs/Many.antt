-- Many changes of a tree, by its halves.
use Rattle.std.proofs.Common.{◌≡◌, ℕ, zero, suc, ◌+◌, ◌-◌, ◌*◌, ◌<◌, ◌≤◌, ◌^◌, List, [], ◌∷◌, ◌++◌, length, min, cond, refl, sym, ap, ap₂, subst, ◌∙◌, arith, inl, inr, length-append}
use Rattle.std.specs.Prelude.{slice_get, slice_set, Some, Result, Ok, Err, OnOk}
use Rattle.std.proofs.Math.Nat.{suc-mul}
use Rattle.std.proofs.Math.Pow.{pow_mono}
use Rattle.std.proofs.lemmas.Bool.{lt-ltb, le-ltb, cases_lt}
use Rattle.std.proofs.lemmas.List.{length-set, set-set, set-append_left, set-append_right}
use Rattle.tree_nodes.specs.Changes.{AreChanges, changed}
use Rattle.hash_tree.specs.Merkle.{hash, merkle_root}
use Rattle.hash_tree.proofs.Halves.{merkle_root-short}
use Rattle.tree_nodes.specs.inside.Lifts.{Lifts}
use Rattle.tree_nodes.specs.inside.Nodes.{AreHalves, HalvesOf}
use Rattle.tree_nodes.specs.inside.Puts.{before, changed_in}
use Rattle.tree_nodes.proofs.Changes.{length_changed, get_same, changed_push}

module _ {A : Type 0} where
  before_yes : (from : ℕ) (c : ℕ × A) (cs : List (ℕ × A)) → c.0 < from → before from (c ∷ cs) ≡ c ∷ before from cs
  unfolding before
  before_yes from c cs h = ap (λ b. cond b (c ∷ before from cs) (before from cs)) (lt-ltb c.0 from h)

  before_no : (from : ℕ) (c : ℕ × A) (cs : List (ℕ × A)) → from ≤ c.0 → before from (c ∷ cs) ≡ before from cs
  unfolding before
  before_no from c cs h = ap (λ b. cond b (c ∷ before from cs) (before from cs)) (le-ltb c.0 from h)

  in_yes : (from : ℕ) (xs : List A) (c : ℕ × A) (cs : List (ℕ × A)) → c.0 < from → changed_in from xs (c ∷ cs) ≡ changed_in from xs cs
  unfolding changed_in
  in_yes from xs c cs h = ap (λ b. cond b (changed_in from xs cs) (slice_set (changed_in from xs cs) (c.0 - from) c.1)) (lt-ltb c.0 from h)

  in_no : (from : ℕ) (xs : List A) (c : ℕ × A) (cs : List (ℕ × A)) → from ≤ c.0 → changed_in from xs (c ∷ cs) ≡ slice_set (changed_in from xs cs) (c.0 - from) c.1
  unfolding changed_in
  in_no from xs c cs h = ap (λ b. cond b (changed_in from xs cs) (slice_set (changed_in from xs cs) (c.0 - from) c.1)) (le-ltb c.0 from h)

  before_nil : (from : ℕ) → before {A = A} from [] ≡ []
  unfolding before
  before_nil from = refl

  in_nil : (from : ℕ) (xs : List A) → changed_in from xs [] ≡ xs
  unfolding changed_in
  in_nil from xs = refl

  pub before_all : (lowest from : ℕ) (cs : List (ℕ × A)) → AreChanges lowest from cs → before from cs ≡ cs
  before_all lowest from [] h = before_nil from
  before_all lowest from (c ∷ cs) h = before_yes from c cs h.1 ∙ ap (λ (r : List (ℕ × A)). c ∷ r) (before_all (suc c.0) from cs h.2)

  pub changed_in_none : (lowest from : ℕ) (xs : List A) (cs : List (ℕ × A)) → AreChanges lowest from cs → changed_in from xs cs ≡ xs
  changed_in_none lowest from xs [] h = in_nil from xs
  changed_in_none lowest from xs (c ∷ cs) h = in_yes from xs c cs h.1 ∙ changed_in_none (suc c.0) from xs cs h.2

  pub before_before : (from middle : ℕ) (cs : List (ℕ × A)) → from ≤ middle → before from (before middle cs) ≡ before from cs
  before_before from middle [] h = ap (before from) (before_nil middle)
  before_before from middle (c ∷ cs) h =
      elim (cases_lt c.0 middle) as (λ _. before from (before middle (c ∷ cs)) ≡ before from (c ∷ cs)) [
        | inl low ↦ ap (before from) (before_yes middle c cs low) ∙ elim (cases_lt c.0 from) as (λ _. before from (c ∷ before middle cs) ≡ before from (c ∷ cs)) [
          | inl lower ↦ before_yes from c (before middle cs) lower ∙ (ap (λ (r : List (ℕ × A)). c ∷ r) (before_before from middle cs h) ∙ sym (before_yes from c cs lower))
          | inr higher ↦ before_no from c (before middle cs) higher ∙ (before_before from middle cs h ∙ sym (before_no from c cs higher))
        ]
        | inr high ↦ ap (before from) (before_no middle c cs high) ∙ (before_before from middle cs h ∙ sym (before_no from c cs (omega arith)))
      ]

  pub weaker : (low lower len more : ℕ) (cs : List (ℕ × A)) → lower ≤ low → len ≤ more → AreChanges low len cs → AreChanges lower more cs
  weaker low lower len more [] a b h = tt
  weaker low lower len more (c ∷ cs) a b h = (omega (arith, h.0), omega (arith, h.1), weaker (suc c.0) (suc c.0) len more cs (omega arith) b h.2)

  pub wider : (lowest len more : ℕ) (cs : List (ℕ × A)) → len ≤ more → AreChanges lowest len cs → AreChanges lowest more cs
  wider lowest len more cs h are = weaker lowest lowest len more cs (omega arith) h are

  -- a change behind all others
  pub more_places : (lowest i : ℕ) (cs : List (ℕ × A)) (v : A) → lowest ≤ i → AreChanges lowest i cs → AreChanges lowest (i + 1) (cs ++ (i, v) ∷ [])
  more_places lowest i [] v h are = (h, omega arith, tt)
  more_places lowest i (c ∷ cs) v h are = (are.0, omega (arith, are.1), more_places (suc c.0) i cs v (omega (arith, are.1)) are.2)

  sorted_before : (low len middle : ℕ) (cs : List (ℕ × A)) → AreChanges low len cs → AreChanges low (min len middle) (before middle cs)
  sorted_before low len middle [] h = subst (λ (cs : List (ℕ × A)). AreChanges low (min len middle) cs) (sym (before_nil middle)) tt
  sorted_before low len middle (c ∷ cs) h =
      let rest = sorted_before (suc c.0) len middle cs h.2 in
      elim (cases_lt c.0 middle) as (λ _. AreChanges low (min len middle) (before middle (c ∷ cs))) [
        | inl less ↦ let below = h.1 in subst (λ (r : List (ℕ × A)). AreChanges low (min len middle) r) (sym (before_yes middle c cs less)) (h.0, omega arith, rest)
        | inr more ↦ let above = h.0 in subst (λ (r : List (ℕ × A)). AreChanges low (min len middle) r) (sym (before_no middle c cs more)) (weaker (suc c.0) low (min len middle) (min len middle) (before middle cs) (omega arith) (omega arith) rest)
      ]

  -- the changes of the left half, and of the right one
  pub left_changes : (from middle half : ℕ) (xs ys : List A) (cs : List (ℕ × A)) → middle ≡ from + half → length xs ≤ half → (0 < length ys → length xs ≡ half) → AreChanges 0 (from + length (xs ++ ys)) cs → AreChanges 0 (from + length xs) (before middle cs)
  left_changes from middle half xs ys cs e low full h =
      let long = length-append xs ys in
      let fits : min (from + length (xs ++ ys)) middle ≤ from + length xs = elim (cases_lt 0 (length ys)) as (λ _. min (from + length (xs ++ ys)) middle ≤ from + length xs) [
        | inl some ↦ let is : length xs ≡ half = full some in omega arith
        | inr none ↦ omega arith
      ] in
      weaker 0 0 (min (from + length (xs ++ ys)) middle) (from + length xs) (before middle cs) (omega arith) fits (sorted_before 0 (from + length (xs ++ ys)) middle cs h)

  pub right_changes : (from middle half : ℕ) (xs ys : List A) (cs : List (ℕ × A)) → middle ≡ from + half → length xs ≤ half → AreChanges 0 (from + length (xs ++ ys)) cs → AreChanges 0 (middle + length ys) cs
  right_changes from middle half xs ys cs e low h =
      let long = length-append xs ys in
      weaker 0 0 (from + length (xs ++ ys)) (middle + length ys) cs (omega arith) (omega arith) h

  pub length_in : (from : ℕ) (xs : List A) (cs : List (ℕ × A)) → length (changed_in from xs cs) ≡ length xs
  length_in from xs [] = ap length (in_nil from xs)
  length_in from xs (c ∷ cs) =
      elim (cases_lt c.0 from) as (λ _. length (changed_in from xs (c ∷ cs)) ≡ length xs) [
        | inl low ↦ ap length (in_yes from xs c cs low) ∙ length_in from xs cs
        | inr high ↦ ap length (in_no from xs c cs high) ∙ (length-set (changed_in from xs cs) (c.0 - from) c.1 ∙ length_in from xs cs)
      ]

  -- a tree with changes is its halves with theirs
  pub changed_halves : (low from middle half : ℕ) (xs ys : List A) (cs : List (ℕ × A)) → middle ≡ from + half → length xs ≤ half → (0 < length ys → length xs ≡ half) → AreChanges low (from + length (xs ++ ys)) cs → changed_in from (xs ++ ys) cs ≡ changed_in from xs (before middle cs) ++ changed_in middle ys cs
  changed_halves low from middle half xs ys [] e fits full h =
      in_nil from (xs ++ ys) ∙ (ap (λ (l : List A). l ++ ys) (sym (ap (changed_in from xs) (before_nil middle) ∙ in_nil from xs)) ∙ ap (λ (r : List A). changed_in from xs (before middle []) ++ r) (sym (in_nil middle ys)))
  changed_halves low from middle half xs ys (c ∷ cs) e fits full h =
      let so_far = changed_halves (suc c.0) from middle half xs ys cs e fits full h.2 in
      let below = h.1 in
      let long = length-append xs ys in
      let left_long : length (changed_in from xs (before middle cs)) ≡ length xs = length_in from xs (before middle cs) in
      elim (cases_lt c.0 middle) as (λ _. changed_in from (xs ++ ys) (c ∷ cs) ≡ changed_in from xs (before middle (c ∷ cs)) ++ changed_in middle ys (c ∷ cs)) [
        | inl left ↦
            let front = ap (changed_in from xs) (before_yes middle c cs left) in
            let back = in_yes middle ys c cs left in
            elim (cases_lt c.0 from) as (λ _. changed_in from (xs ++ ys) (c ∷ cs) ≡ changed_in from xs (before middle (c ∷ cs)) ++ changed_in middle ys (c ∷ cs)) [
              | inl before_all ↦ in_yes from (xs ++ ys) c cs before_all ∙ (so_far ∙ sym (ap₂ (λ (l r : List A). l ++ r) (front ∙ in_yes from xs c (before middle cs) before_all) back))
              | inr inside ↦
                  let place : c.0 - from < length (changed_in from xs (before middle cs)) = elim (cases_lt 0 (length ys)) as (λ _. c.0 - from < length (changed_in from xs (before middle cs))) [
                    | inl some ↦ let is : length xs ≡ half = full some in omega arith
                    | inr none ↦ omega arith
                  ] in
                  in_no from (xs ++ ys) c cs inside
                  ∙ (ap (λ (l : List A). slice_set l (c.0 - from) c.1) so_far
                  ∙ (set-append_left (changed_in from xs (before middle cs)) (changed_in middle ys cs) (c.0 - from) c.1 place
                  ∙ sym (ap₂ (λ (l r : List A). l ++ r) (front ∙ in_no from xs c (before middle cs) inside) back)))
            ]
        | inr right ↦
            let is : length xs ≡ half = full (omega arith) in
            let back = in_no middle ys c cs right in
            in_no from (xs ++ ys) c cs (omega arith)
            ∙ (ap (λ (l : List A). slice_set l (c.0 - from) c.1) so_far
            ∙ (set-append_right (changed_in from xs (before middle cs)) (changed_in middle ys cs) half (c.0 - from) c.1 (omega arith) (omega arith)
            ∙ (ap (λ (k : ℕ). changed_in from xs (before middle cs) ++ slice_set (changed_in middle ys cs) k c.1) (omega arith)
            ∙ sym (ap₂ (λ (l r : List A). l ++ r) (ap (changed_in from xs) (before_no middle c cs right)) back))))
      ]

  last_above : (low len : ℕ) (front : List (ℕ × A)) (last : ℕ × A) → AreChanges low len (front ++ last ∷ []) → low ≤ last.0
  last_above low len [] last h = h.0
  last_above low len (c ∷ cs) last h = let above = h.0 in let more : suc c.0 ≤ last.0 = last_above (suc c.0) len cs last h.2 in omega arith

  -- where the last change is before a place, all are
  pub all_before : (low len : ℕ) (front : List (ℕ × A)) (last : ℕ × A) → AreChanges low len (front ++ last ∷ []) → AreChanges low last.0 front × (last.0 < len)
  all_before low len [] last h = (tt, h.1)
  all_before low len (c ∷ cs) last h =
      let rest = all_before (suc c.0) len cs last h.2 in
      ((h.0, last_above (suc c.0) len cs last h.2, rest.0), rest.1)

  -- the last change, where it is at this place
  pub held_facts : (xs : List A) (k at : ℕ) (f : A) (old front : List (ℕ × A)) → k < length xs → old ≡ front ++ (at, f) ∷ [] → k ≤ at → AreChanges 0 (k + 1) old
      → AreChanges 0 k front × (slice_get (changed xs old) k ≡ Some f) × ((g : A) → slice_set (changed xs front) k g ≡ slice_set (changed xs old) k g)
  held_facts xs k at f old front room is high h =
      let ends = all_before 0 (k + 1) front (at, f) (subst (λ (cs : List (ℕ × A)). AreChanges 0 (k + 1) cs) is h) in
      let below : at < k + 1 = ends.1 in
      let same : at ≡ k = omega arith in
      let places : AreChanges 0 k front = subst (λ (n : ℕ). AreChanges 0 n front) same ends.0 in
      let now : changed xs old ≡ slice_set (changed xs front) k f = ap (λ (cs : List (ℕ × A)). changed xs cs) (is ∙ ap (λ (n : ℕ). front ++ (n, f) ∷ []) same) ∙ changed_push xs 0 k front f places in (
        places,
        ap (λ (l : List A). slice_get l k) now ∙ get_same (changed xs front) k f (omega (arith, length_changed xs front)),
        (λ g. sym (ap (λ (l : List A). slice_set l k g) now ∙ set-set (changed xs front) k f g)),
      )

  pub not_reached : (low len from : ℕ) (front : List (ℕ × A)) (last : ℕ × A) → AreChanges low len (front ++ last ∷ []) → last.0 < from → AreChanges low from (front ++ last ∷ [])
  not_reached low len from [] last h less = (h.0, less, tt)
  not_reached low len from (c ∷ cs) last h less =
      let above = last_above (suc c.0) len cs last h.2 in
      (h.0, omega arith, not_reached (suc c.0) len from cs last h.2 less)

  before_last : (from : ℕ) (front : List (ℕ × A)) (last : ℕ × A) → from ≤ last.0 → before from (front ++ last ∷ []) ≡ before from front
  before_last from [] last h = before_no from last [] h
  before_last from (c ∷ cs) last h =
      elim (cases_lt c.0 from) as (λ _. before from (c ∷ (cs ++ last ∷ [])) ≡ before from (c ∷ cs)) [
        | inl low ↦ before_yes from c (cs ++ last ∷ []) low ∙ (ap (λ (r : List (ℕ × A)). c ∷ r) (before_last from cs last h) ∙ sym (before_yes from c cs low))
        | inr high ↦ before_no from c (cs ++ last ∷ []) high ∙ (before_last from cs last h ∙ sym (before_no from c cs high))
      ]

  before_fewer : (from : ℕ) (cs : List (ℕ × A)) → length (before from cs) ≤ length cs
  before_fewer from [] = omega (arith, ap length (before_nil from))
  before_fewer from (c ∷ cs) =
      let rest = before_fewer from cs in
      elim (cases_lt c.0 from) as (λ _. length (before from (c ∷ cs)) ≤ suc (length cs)) [
        | inl low ↦ omega (arith, ap length (before_yes from c cs low))
        | inr high ↦ omega (arith, ap length (before_no from c cs high))
      ]

  pub reached_fewer : (from : ℕ) (cs front : List (ℕ × A)) (last : ℕ × A) → cs ≡ front ++ last ∷ [] → from ≤ last.0 → suc (length (before from cs)) ≤ length cs
  reached_fewer from cs front last is h =
      omega (arith, ap length is, length-append front (last ∷ []), ap length (ap (before from) is ∙ before_last from front last h), before_fewer from front)

  in_front : (low from : ℕ) (xs : List A) (front : List (ℕ × A)) (last : ℕ × A) → from ≤ last.0 → AreChanges low from front → changed_in from xs (front ++ last ∷ []) ≡ slice_set xs (last.0 - from) last.1
  in_front low from xs [] last h all = in_no from xs last [] h ∙ ap (λ (l : List A). slice_set l (last.0 - from) last.1) (in_nil from xs)
  in_front low from xs (c ∷ cs) last h all = in_yes from xs c (cs ++ last ∷ []) all.1 ∙ in_front (suc c.0) from xs cs last h all.2

  in_last : (from : ℕ) (xs : List A) (front : List (ℕ × A)) (last : ℕ × A) → from ≤ last.0 → AreChanges 0 from front → changed_in from xs (front ++ last ∷ []) ≡ slice_set xs (last.0 - from) last.1
  in_last from xs front last h all = in_front 0 from xs front last h all

  one_set : (xs : List A) (item : A) → length xs ≡ 1 → slice_set xs 0 item ≡ item ∷ []
  one_set [] item h = absurd (omega arith)
  one_set (x ∷ []) item h = refl
  one_set (x ∷ y ∷ xs) item h = absurd (omega arith)

  -- the change of a leaf
  pub leaf_changed : (from : ℕ) (xs : List A) (cs front : List (ℕ × A)) (last : ℕ × A) → cs ≡ front ++ last ∷ [] → from ≤ last.0 → length xs ≤ 1 → AreChanges 0 (from + length xs) cs → (changed_in from xs cs ≡ last.1 ∷ []) × (front ≡ before from cs)
  leaf_changed from xs cs front last is h few places =
      let all = all_before 0 (from + length xs) front last (subst (λ (r : List (ℕ × A)). AreChanges 0 (from + length xs) r) is places) in
      let below = all.1 in
      let here : last.0 ≡ from = omega arith in
      let sorted : AreChanges 0 from front = subst (λ (n : ℕ). AreChanges 0 n front) here all.0 in (
        ap (changed_in from xs) is ∙ (in_last from xs front last h sorted ∙ (ap (λ (k : ℕ). slice_set xs k last.1) (omega arith) ∙ one_set xs last.1 (omega arith))),
        sym (ap (before from) is ∙ (before_last from front last h ∙ before_all 0 from front sorted)),
      )

  -- a tree whose first place is 0 has all changes
  pub changed_all : (xs : List A) (cs : List (ℕ × A)) → changed_in 0 xs cs ≡ changed xs cs
  unfolding changed
  changed_all xs [] = in_nil 0 xs
  changed_all xs (c ∷ cs) = in_no 0 xs c cs (omega arith) ∙ (ap (λ (k : ℕ). slice_set (changed_in 0 xs cs) k c.1) (omega arith) ∙ ap (λ (l : List A). slice_set l c.0 c.1) (changed_all xs cs))

  ends : (c : ℕ × A) (cs : List (ℕ × A)) → (front : List (ℕ × A)) × ((last : ℕ × A) × (c ∷ cs ≡ front ++ last ∷ []))
  ends c [] = ([], (c, refl))
  ends c (d ∷ cs) = let rest = ends d cs in (c ∷ rest.0, (rest.1.0, ap (λ (r : List (ℕ × A)). c ∷ r) rest.1.1))

  -- where the last change is not reached, none is
  pub unreached : (len from : ℕ) (cs : List (ℕ × A)) → AreChanges 0 len cs → ((front : List (ℕ × A)) (last : ℕ × A) → cs ≡ front ++ last ∷ [] → last.0 < from) → AreChanges 0 from cs
  unreached len from [] h none = tt
  unreached len from (c ∷ cs) h none =
      let e = ends c cs in
      subst (λ (r : List (ℕ × A)). AreChanges 0 from r) (sym e.1.1) (not_reached 0 len from e.0 e.1.0 (subst (λ (r : List (ℕ × A)). AreChanges 0 len r) e.1.1 h) (none e.0 e.1.0 e.1.1))

  pub one_fewer : (from : ℕ) (cs : List (ℕ × A)) → 0 < length cs → ((front : List (ℕ × A)) (last : ℕ × A) → cs ≡ front ++ last ∷ [] → from ≤ last.0) → suc (length (before from cs)) ≤ length cs
  one_fewer from [] some h = absurd (omega arith)
  one_fewer from (c ∷ cs) some h =
      let e = ends c cs in
      reached_fewer from (c ∷ cs) e.0 e.1.0 e.1.1 (h e.0 e.1.0 e.1.1)

  -- a place that the last change reaches is below the length
  pub reached_below : (len from : ℕ) (cs : List (ℕ × A)) → AreChanges 0 len cs → 0 < length cs → ((front : List (ℕ × A)) (last : ℕ × A) → cs ≡ front ++ last ∷ [] → from ≤ last.0) → from < len
  reached_below len from [] h some reach = absurd (omega arith)
  reached_below len from (c ∷ cs) h some reach =
      let e = ends c cs in
      let all = all_before 0 len e.0 e.1.0 (subst (λ (r : List (ℕ × A)). AreChanges 0 len r) e.1.1 h) in
      let here = reach e.0 e.1.0 e.1.1 in
      omega (arith, all.1)

  -- the halves with their changes
  pub many_halves : (node left right l r : ℕ × List A) (depth half from middle : ℕ) (cs rest : List (ℕ × A)) → HalvesOf node left right → depth ≡ node.0 → ((lower : ℕ) → depth ≡ suc lower → half ≡ 2 ^ lower) → middle ≡ from + half → AreChanges 0 (from + length node.1) cs → rest ≡ before middle cs → l ≡ (depth - 1, changed_in from left.1 rest) → r ≡ (depth - 1, changed_in middle right.1 cs) → AreHalves l r × (◌≡◌ {A = ℕ × List A} (suc l.0, l.1 ++ r.1) (depth, changed_in from node.1 cs))
  many_halves node left right l r depth half from middle cs rest h same lower m places rest_is l_is r_is =
      let d : depth ≡ suc left.0 = same ∙ ap (λ (v : ℕ × List A). v.0) h.whole in
      let width : half ≡ 2 ^ left.0 = lower left.0 d in
      let left_fits = h.halves.left_fits in
      let right_fits = h.halves.right_fits in
      let first = h.halves.left_first in
      let depths = h.halves.same_depth in
      let items : node.1 ≡ left.1 ++ right.1 = ap (λ (v : ℕ × List A). v.1) h.whole in
      let l_long : length l.1 ≡ length left.1 = ap (λ (v : ℕ × List A). length v.1) l_is ∙ length_in from left.1 rest in
      let r_long : length r.1 ≡ length right.1 = ap (λ (v : ℕ × List A). length v.1) r_is ∙ length_in middle right.1 cs in
      let l_deep : l.0 ≡ left.0 = ap (λ (v : ℕ × List A). v.0) l_is ∙ omega arith in
      let r_deep : r.0 ≡ left.0 = ap (λ (v : ℕ × List A). v.0) r_is ∙ omega arith in
      let l_wide : 2 ^ l.0 ≡ 2 ^ left.0 = ap (λ (n : ℕ). 2 ^ n) l_deep in
      let r_wide : 2 ^ r.0 ≡ 2 ^ left.0 = ap (λ (n : ℕ). 2 ^ n) r_deep in
      let right_wide : 2 ^ right.0 ≡ 2 ^ left.0 = ap (λ (n : ℕ). 2 ^ n) (sym depths) in
      let whole = changed_halves 0 from middle half left.1 right.1 cs m (omega arith) (λ some. let full : length left.1 ≡ 2 ^ left.0 = first some in omega arith) (subst (λ (xs : List A). AreChanges 0 (from + length xs) cs) items places) in (
        record {
          same_depth = l_deep ∙ sym r_deep;
          left_fits = omega arith;
          right_fits = omega arith;
          left_first = λ some. let full : length left.1 ≡ 2 ^ left.0 = first (omega arith) in omega arith;
        },
        ap₂ (λ (n : ℕ) (xs : List A). (n, xs)) (ap suc l_deep ∙ sym d)
            (ap₂ (λ (a b : List A). a ++ b) (ap (λ (v : ℕ × List A). v.1) l_is ∙ ap (changed_in from left.1) rest_is) (ap (λ (v : ℕ × List A). v.1) r_is)
            ∙ (sym whole ∙ ap (λ (xs : List A). changed_in from xs cs) (sym items))),
      )

pub times : (n d : ℕ) → 0 < d → n * d ≡ n * (d - 1) + n
times zero d h = omega arith
times (suc n) d h = omega (arith, suc-mul n d, suc-mul n (d - 1), times n d h)

pub work_one : (now middle start n k m d : ℕ) → 0 < d → suc n ≤ m → middle + k * (d - 1) ≤ start + m * (d - 1) → now + n * (d - 1) ≤ middle + k * (d - 1) → now + 1 + n * d ≤ start + m * d
work_one now middle start n k m d some fewer right left = omega (arith, times n d some, times m d some)

pub always : {X E P : Type 0} (r : Result X E) → P → OnOk r P
always (Ok x) p = p
always (Err e) p = tt

-- what the halves of a tree are
pub half_facts : {A : Type 0} (node left right : ℕ × List A) (depth half : ℕ) → HalvesOf node left right → depth ≡ node.0 → ((lower : ℕ) → depth ≡ suc lower → half ≡ 2 ^ lower) → (depth - 1 ≡ left.0) × (depth - 1 ≡ right.0) × (half ≡ 2 ^ (depth - 1)) × (length left.1 ≤ half) × (length right.1 ≤ half) × (0 < length right.1 → length left.1 ≡ half)
half_facts node left right depth half h same lower =
    let d : depth ≡ suc left.0 = same ∙ ap (λ (v : ℕ × List _). v.0) h.whole in
    let width : half ≡ 2 ^ left.0 = lower left.0 d in
    let one : depth - 1 ≡ left.0 = omega arith in
    let left_fits = h.halves.left_fits in
    let right_fits = h.halves.right_fits in
    let first = h.halves.left_first in
    let depths = h.halves.same_depth in
    let right_wide : 2 ^ right.0 ≡ 2 ^ left.0 = ap (λ (n : ℕ). 2 ^ n) (sym depths) in
    (one, one ∙ depths, width ∙ ap (λ (n : ℕ). 2 ^ n) (sym one), omega arith, omega arith, λ some. first some ∙ sym width)

-- a root one level higher over the same chunks
pub lift_one : (low level next_level : ℕ) (root top next : List ℕ) → low ≤ level → next_level ≡ level + 1 → Lifts low level root top → next ≡ hash (top ++ merkle_root level []) → Lifts low next_level root next
lift_one low level next_level root top next order one h is chunks fits root_is =
    let wide : 2 ^ low ≤ 2 ^ level = pow_mono order in
    is ∙ (ap (λ (t : List ℕ). hash (t ++ merkle_root level [])) (h chunks fits root_is) ∙ sym (merkle_root-short next_level level chunks (omega arith) (omega arith)))
