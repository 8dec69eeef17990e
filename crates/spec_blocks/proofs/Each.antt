-- Steps for the items of a list, one at a time. A loop over the items names `each_item` in its #[tactic(auto, using(..))] and
-- has the invariant `each_of step state (drop i items) ≡ each_of step old items`.
use Rattle.std.proofs.Common.{◌≡◌, ℕ, suc, ◌+◌, ◌<◌, ◌≤◌, Option, Some, None, List, [], ◌∷◌, length, drop, get_or, slice_get, refl, sym, ap, ap₂, ◌∙◌, arith, subst}
use Rattle.std.proofs.lemmas.List.{drop_all}
use Rattle.std.proofs.lemmas.Option.{slice_get_within, slice_get-get_or}
use Rattle.std.proofs.Math.Seq.{drop-cons}
use Rattle.bc_words.specs.Outcome.{Outcome, done, bind, Stops}
use Rattle.bc_words.specs.declared.stop.Stop.{Stop}
use Rattle.bc_words.proofs.Outcomes.{stops_bound}
use Rattle.spec_blocks.specs.Checks.{each_of}
use Rattle.spec_blocks.proofs.Done.{on_the_way, same_value}

abbrev value_or : {A : Type 0} → A → Option A → A
value_or x None = x
value_or x (Some y) = y

-- the list from an item on
pub from_item : {A : Type 0} (items : List A) (i : ℕ) (x : A) → slice_get items i ≡ Some x → drop i items ≡ x ∷ drop (i + 1) items
from_item {A} items i x is =
    let inside = slice_get_within items i x is in
    let here : get_or items i x ≡ x = ap (value_or x) (sym (slice_get-get_or items i x inside) ∙ is) in
    let behind : suc i ≡ i + 1 = omega arith in
    drop-cons items i x inside ∙ ap₂ (λ (y : A) (k : ℕ). y ∷ drop k items) here behind

module _ {A S : Type 0} (step : S → A → Outcome S) where
  opens : (items : List A) (i : ℕ) (x : A) (state : S) → slice_get items i ≡ Some x → each_of step state (drop i items) ≡ bind (step state x) (λ next. each_of step next (drop (i + 1) items))
  unfolding each_of
  opens items i x state is = ap (each_of step state) (from_item items i x is)

  -- the step of an item leaves those behind it
  pub item_done : (items : List A) (i : ℕ) (x : A) (state next : S) → slice_get items i ≡ Some x → step state x ≡ done next → each_of step state (drop i items) ≡ each_of step next (drop (i + 1) items)
  item_done items i x state next is e = opens items i x state is ∙ ap (λ o. bind o (λ s. each_of step s (drop (i + 1) items))) e

  -- its stop is that of all
  pub item_stops : (items : List A) (i : ℕ) (x : A) (state : S) (stop : Stop) → slice_get items i ≡ Some x → Stops stop (step state x) → Stops stop (each_of step state (drop i items))
  item_stops items i x state stop is e = rw (opens items i x state is) (stops_bound stop (step state x) (λ s. each_of step s (drop (i + 1) items)) e)

  -- the same of an item that stands below the end
  pub item_below_done : (items : List A) (i : ℕ) (d : A) (state next : S) → i < length items → step state (get_or items i d) ≡ done next → each_of step state (drop i items) ≡ each_of step next (drop (i + 1) items)
  item_below_done items i d state next inside e = item_done items i (get_or items i d) state next (slice_get-get_or items i d inside) e

  pub item_below_stops : (items : List A) (i : ℕ) (d : A) (state : S) (stop : Stop) → i < length items → Stops stop (step state (get_or items i d)) → Stops stop (each_of step state (drop i items))
  item_below_stops items i d state stop inside e = item_stops items i (get_or items i d) state stop (slice_get-get_or items i d inside) e

  -- behind the last item the state is the value
  pub items_end : (items : List A) (i : ℕ) (state : S) → length items ≤ i → each_of step state (drop i items) ≡ done state
  unfolding each_of
  items_end items i state past = ap (each_of step state) (drop_all i items past)

  -- without items too
  pub no_items : (items : List A) (state : S) → length items ≡ 0 → each_of step state items ≡ done state
  no_items items state none = items_end items 0 state (omega arith)

  -- all items are those from the first on
  pub items_begin : (items : List A) (state : S) → each_of step state (drop 0 items) ≡ each_of step state items
  items_begin items state = refl

-- what a loop over the items needs
pub ruleset each_item = (items_begin, items_end, item_done, item_stops, item_below_done, item_below_stops)

-- a step that keeps a property, for each item of a list
pub each_keeps : {A S : Type 0} (P : S → Type 0) (step : S → A → Outcome S) → ((s t : S) (a : A) → step s a ≡ done t → P s → P t) → (items : List A) (s t : S) → each_of step s items ≡ done t → P s → P t
unfolding each_of
each_keeps P step keeps [] s t is holds = subst P (same_value s t is) holds
each_keeps P step keeps (item ∷ items) s t is holds =
    let first = on_the_way (step s item) _ t is in
    each_keeps P step keeps items first.value t first.then_done (keeps s first.value item first.first holds)
