-- Items written at the first places of a list.
use Rattle.std.proofs.Common.{◌≡◌, ℕ, suc, ◌+◌, ◌-◌, ◌≤◌, List, [], ◌∷◌, ◌++◌, length, drop, replicate, refl, sym, ap, ◌∙◌, arith, length-append}
use Rattle.std.specs.Prelude.{slice_set}
use Rattle.std.proofs.lemmas.List.{append_assoc, drop-replicate, length-replicate, set-append_right}
use Rattle.tree_nodes.specs.Changes.{AreChanges, changed}
use Rattle.validator_registry.specs.inside.Places.{places}

module _ {A : Type 0} where
  -- items written from a place on are changes of a list that goes as far
  places_from : (k n : ℕ) (xs : List A) → k + length xs ≤ n → AreChanges k n (places k xs)
  unfolding places
  places_from k n [] room = tt
  places_from k n (x ∷ xs) room = (omega arith, omega arith, places_from (suc k) n xs (omega arith))

  -- and so are those written at the first places
  pub places_changes : (n : ℕ) (xs : List A) → length xs ≤ n → AreChanges 0 n (places 0 xs)
  places_changes n xs room = places_from 0 n xs (omega arith)

  -- an item written behind the first ones
  set_behind : (front rest : List A) (k : ℕ) (old x : A) → k ≡ length front
      → slice_set ((front ++ old ∷ []) ++ rest) k x ≡ front ++ x ∷ rest
  set_behind front rest k old x is =
      let first : k - k ≡ 0 = omega arith in
      ap (λ (l : List A). slice_set l k x) (append_assoc front (old ∷ []) rest)
      ∙ (set-append_right front (old ∷ rest) k k x (sym is) (omega arith)
      ∙ ap (λ (i : ℕ). front ++ slice_set (old ∷ rest) i x) first)

  -- items written behind the first ones
  changed_from : (front items : List A) (k : ℕ) (xs : List A) → k ≡ length front → length xs ≤ length items
      → changed (front ++ items) (places k xs) ≡ front ++ (xs ++ drop (length xs) items)
  unfolding changed places
  changed_from front items k [] is room = refl
  changed_from front [] k (x ∷ xs) is room = absurd (omega arith)
  changed_from front (old ∷ items) k (x ∷ xs) is room =
      ap (λ (l : List A). slice_set (changed l (places (suc k) xs)) k x) (sym (append_assoc front (old ∷ []) items))
      ∙ (ap (λ (l : List A). slice_set l k x)
      (changed_from (front ++ old ∷ []) items (suc k) xs (omega (arith, length-append front (old ∷ []))) (omega arith))
      ∙ set_behind front (xs ++ drop (length xs) items) k old x is)

  -- items written at the first places stand before those that were behind these
  changed_places : (items xs : List A) → length xs ≤ length items
      → changed items (places 0 xs) ≡ xs ++ drop (length xs) items
  changed_places items xs room = changed_from [] items 0 xs refl room

  -- and so they do in a list of equal items
  pub changed_replicate : (n : ℕ) (d : A) (xs : List A) → length xs ≤ n
      → changed (replicate n d) (places 0 xs) ≡ xs ++ replicate (n - length xs) d
  changed_replicate n d xs room =
      changed_places (replicate n d) xs (omega (arith, length-replicate n d))
      ∙ ap (λ (l : List A). xs ++ l) (drop-replicate (length xs) n d)

  -- one more item goes behind those that were written from a place on
  more_from : (k : ℕ) (xs : List A) (x : A) → places k (xs ++ x ∷ []) ≡ places k xs ++ (k + length xs, x) ∷ []
  unfolding places
  more_from k [] x = ap (λ (i : ℕ). (i, x) ∷ []) (omega arith)
  more_from k (y ∷ xs) x =
      ap (λ (l : List (ℕ × A)). (k, y) ∷ l)
      (more_from (suc k) xs x ∙ ap (λ (i : ℕ). places (suc k) xs ++ (i, x) ∷ []) (omega arith))

  -- and behind those written at the first places
  pub places_more : (xs : List A) (x : A) → places 0 (xs ++ x ∷ []) ≡ places 0 xs ++ (length xs, x) ∷ []
  places_more xs x = more_from 0 xs x ∙ ap (λ (i : ℕ). places 0 xs ++ (i, x) ∷ []) (omega arith)
