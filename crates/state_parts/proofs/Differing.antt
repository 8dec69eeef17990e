-- Changes from one list to another of the same length, found place by place.
use Rattle.std.proofs.Common.{◌≡◌, ℕ, ◌+◌, ◌≤◌, List, [], ◌∷◌, ◌++◌, length, take, slice_get, Some, refl, sym, subst, ap, ◌∙◌, inl, inr, arith}
use Rattle.std.proofs.lemmas.List.{take_more, take_more_set, take_all}
use Rattle.std.proofs.lemmas.Option.{slice_get_within, get_or_from_slice_get}
use Rattle.tree_nodes.specs.Changes.{AreChanges, changed}
use Rattle.tree_nodes.proofs.Changes.{length_changed, changed_push, untouched}
use Rattle.tree_nodes.proofs.Many.{more_places, wider}
use Rattle.state_parts.specs.inside.Differences.{AreDifferences, IsCompared}

pub none_taken : {A : Type 0} (xs : List A) → take 0 xs ≡ []
none_taken [] = refl
none_taken (x ∷ xs) = refl

front_more : {A : Type 0} (xs : List A) (i : ℕ) (x : A) → slice_get xs i ≡ Some x → take (i + 1) xs ≡ take i xs ++ x ∷ []
front_more xs i x is = take_more xs i x (slice_get_within xs i x is) ∙ ap (λ y. take i xs ++ y ∷ []) (get_or_from_slice_get xs i x x is)

module _ {A : Type 0} (old : List A) (i : ℕ) (before : List (ℕ × A)) (places : AreChanges 0 i before) where
  -- no change at this place
  kept_more : (x : A) → slice_get old i ≡ Some x → take (i + 1) (changed old before) ≡ take i (changed old before) ++ x ∷ []
  kept_more x is = front_more (changed old before) i x (untouched old 0 i before places ∙ is)

  -- one change more
  put_more : (x v : A) → slice_get old i ≡ Some x → take (i + 1) (changed old (before ++ (i, v) ∷ [])) ≡ take i (changed old before) ++ v ∷ []
  put_more x v is =
      let inside = slice_get_within old i x is in
      ap (λ (xs : List A). take (i + 1) xs) (changed_push old 0 i before v places)
      ∙ take_more_set (changed old before) i v (omega (arith, length_changed old before, inside))

  -- a value that was compared is the next one
  pub compared_more : (after : List (ℕ × A)) (kept value : A) → slice_get old i ≡ Some kept → IsCompared kept value i before after
      → AreChanges 0 (i + 1) after × (take (i + 1) (changed old after) ≡ take i (changed old before) ++ value ∷ [])
  compared_more after kept value is compared = elim compared [
    | inl same ↦
        subst (λ (cs : List (ℕ × A)). AreChanges 0 (i + 1) cs × (take (i + 1) (changed old cs) ≡ take i (changed old before) ++ value ∷ [])) (sym same.1)
        (wider 0 i (i + 1) before (omega arith) places, kept_more value (is ∙ ap (λ (x : A). Some x) same.0))
    | inr other ↦
        subst (λ (cs : List (ℕ × A)). AreChanges 0 (i + 1) cs × (take (i + 1) (changed old cs) ≡ take i (changed old before) ++ value ∷ [])) (sym other)
        (more_places 0 i before value (omega arith) places, put_more kept value is)
  ]

module _ {A : Type 0} (old new : List A) where
  pub no_differences : (i : ℕ) (changes : List (ℕ × A)) → i ≡ 0 → changes ≡ [] → AreDifferences old new i changes
  no_differences i changes first none =
      let begun : AreDifferences old new 0 [] = record { places = tt; made = none_taken (changed old []) ∙ sym (none_taken new) } in
      subst (λ (k : ℕ). AreDifferences old new k changes) (sym first) (subst (AreDifferences old new 0) (sym none) begun)

  -- a place that was compared
  pub place_compared : (i : ℕ) (before after : List (ℕ × A)) (kept value : A) → slice_get old i ≡ Some kept → slice_get new i ≡ Some value → IsCompared kept value i before after
      → AreDifferences old new i before → AreDifferences old new (i + 1) after
  place_compared i before after kept value is becomes compared d =
      let more = compared_more old i before d.places after kept value is compared in
      record {
        places = more.0;
        made = more.1 ∙ ap (λ (front : List A). front ++ value ∷ []) d.made ∙ sym (front_more new i value becomes);
      }

  -- at the end
  pub all_places : (i : ℕ) (changes : List (ℕ × A)) → i ≤ length old → AreDifferences old new i changes → AreChanges 0 (length old) changes
  all_places i changes h d = wider 0 i (length old) changes h d.places

  pub all_made : (i : ℕ) (changes : List (ℕ × A)) → length old ≤ i → length new ≤ i → AreDifferences old new i changes → changed old changes ≡ new
  all_made i changes h k d = sym (take_all i (changed old changes) (omega (arith, length_changed old changes, h))) ∙ d.made ∙ take_all i new k
