-- The attestations that have a vote right, listed one after another.
use Rattle.std.proofs.Common.{◌≡◌, ℕ, ◌+◌, ◌≤◌, Bool, true, false, cond, List, [], ◌∷◌, ◌++◌, length, drop, Some, None, slice_get, sym, ap, ◌∙◌, append_assoc}
use Rattle.std.specs.Prelude.{filter}
use Rattle.std.proofs.lemmas.List.{append-nil, drop_all}
use Rattle.epoch_rewards.proofs.Places.{drop_at_item, drop_at_nothing}

module _ {A : Type 0} (is_right : A → Bool) (items : List A) (i : ℕ) where
  opens : (item : A) → Some item ≡ slice_get items i → filter is_right (drop i items) ≡ cond (is_right item) (item ∷ filter is_right (drop (i + 1) items)) (filter is_right (drop (i + 1) items))
  opens item e = ap (filter is_right) (drop_at_item items i item e)

  pub right_one : (found : List A) (item : A) → Some item ≡ slice_get items i → is_right item ≡ true → (found ++ item ∷ []) ++ filter is_right (drop (i + 1) items) ≡ found ++ filter is_right (drop i items)
  right_one found item e is =
      append_assoc found (item ∷ []) (filter is_right (drop (i + 1) items))
      ∙ ap (λ xs. found ++ xs) (sym (opens item e ∙ ap (λ b. cond b (item ∷ filter is_right (drop (i + 1) items)) (filter is_right (drop (i + 1) items))) is))

  pub wrong_one : (item : A) → Some item ≡ slice_get items i → is_right item ≡ false → filter is_right (drop (i + 1) items) ≡ filter is_right (drop i items)
  wrong_one item e is = sym (opens item e ∙ ap (λ b. cond b (item ∷ filter is_right (drop (i + 1) items)) (filter is_right (drop (i + 1) items))) is)

  pub no_one : None ≡ slice_get items i → filter is_right (drop (i + 1) items) ≡ filter is_right (drop i items)
  no_one e = ap (filter is_right) (sym (drop_at_nothing items i e))

  pub right_end : (found : List A) → length items ≤ i → found ++ filter is_right (drop i items) ≡ found
  right_end found over = ap (λ xs. found ++ filter is_right xs) (drop_all i items over) ∙ append-nil found

pub ruleset listing = (right_one, wrong_one, no_one)
