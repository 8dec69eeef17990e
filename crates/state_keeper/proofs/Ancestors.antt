-- Walks from a block to its parents.
use Rattle.std.proofs.Common.{◌≡◌, ℕ, zero, suc, ◌+◌, ◌%◌, ◌<◌, ◌≤◌, List, length, Option, Some, option_map, unwrap_or, slice_get, get_or, refl, sym, ap, ◌∙◌, subst, arith, add-one}
use Rattle.std.proofs.lemmas.Option.{same_Some, get_or_from_slice_get}
use Rattle.state_keeper.proofs.Items.{item_at}
use Rattle.bc_words.specs.Outcome.{Outcome, done}
use Rattle.spec_state.specs.declared.plain.PlainState.{PlainState}
use Rattle.state_keeper.specs.declared.entry.Entry.{Entry}
use Rattle.state_keeper.specs.Chain.{kept_every}
use Rattle.state_keeper.specs.inside.Entries.{StandsFor, HasKept, IsStep, IsBehind, AreEntries, AreKept, ancestor_at, parent_at, distance_at}

module _ {B : Type 0} where
  pub ancestor_begin : (entries : List (Entry B PlainState)) (n : ℕ) → ancestor_at entries n 0 ≡ n
  unfolding ancestor_at
  ancestor_begin entries n = refl

  pub ancestor_next : (entries : List (Entry B PlainState)) (n back : ℕ) → ancestor_at entries n (back + 1) ≡ parent_at entries (ancestor_at entries n back)
  unfolding ancestor_at
  ancestor_next entries n back = ap (λ k. ancestor_at entries n k) (add-one back)

  pub distance_is : (entries : List (Entry B PlainState)) (n : ℕ) (e : Entry B PlainState) → slice_get entries n ≡ Some e → distance_at entries n ≡ e.distance
  distance_is entries n e there = ap (λ (o : Option (Entry B PlainState)). unwrap_or (option_map (λ e. e.distance) o) 0) there

  parent_is : (entries : List (Entry B PlainState)) (n : ℕ) (e : Entry B PlainState) → slice_get entries n ≡ Some e → parent_at entries n ≡ e.parent
  parent_is entries n e there = ap (λ (o : Option (Entry B PlainState)). unwrap_or (option_map (λ e. e.parent) o) 0) there

  -- An entry so many parents before another one, which is so far from the first block
  record Ancestor (entries : List (Entry B PlainState)) (n back distance : ℕ) : Type 0 where
    entry : Entry B PlainState
    there : slice_get entries (ancestor_at entries n back) ≡ Some entry
    far : entry.distance + back ≡ distance

  module _ (can : PlainState → B → Type 0) (step : PlainState → B → Outcome PlainState) (entries : List (Entry B PlainState)) (each : AreEntries can step entries) where
    -- a block that is some steps from the first block has a parent
    behind_of : (n : ℕ) (e : Entry B PlainState) → slice_get entries n ≡ Some e → 0 < e.distance → IsBehind can step entries n e
    behind_of zero e there some = let none = each zero e there in absurd (omega arith)
    behind_of (suc n) e there some = each (suc n) e there

    ancestor_of : (n : ℕ) (e : Entry B PlainState) → slice_get entries n ≡ Some e → (back : ℕ) → back ≤ e.distance → Ancestor entries n back e.distance
    ancestor_of n e there zero within = record { entry = e; there = ap (λ k. slice_get entries k) (ancestor_begin entries n) ∙ there; far = omega arith }
    ancestor_of n e there (suc back) within =
        let found = ancestor_of n e there back (omega arith) in
        let far = found.far in
        let behind = behind_of (ancestor_at entries n back) found.entry found.there (omega arith) in
        let nearer = behind.distance in
        let is : ancestor_at entries n (suc back) ≡ found.entry.parent = ap (λ k. ancestor_at entries n k) (sym (add-one back)) ∙ (ancestor_next entries n back ∙ parent_is entries (ancestor_at entries n back) found.entry found.there) in
        record { entry = behind.parent; there = ap (λ k. slice_get entries k) is ∙ behind.there; far = omega arith }

    -- the nearest ancestor whose distance is a multiple of that has its state kept
    pub ancestor_kept : (states : List PlainState) → AreKept entries states → (n : ℕ) → n < length entries → HasKept entries states (ancestor_at entries n (distance_at entries n % kept_every))
    ancestor_kept states kept n inside =
        let (e, there) = item_at entries n inside in
        let is = distance_is entries n e there in
        let found = ancestor_of n e there (distance_at entries n % kept_every) (omega arith) in
        let far = found.far in
        record { entry = found.entry; there = found.there; held = (kept (ancestor_at entries n (distance_at entries n % kept_every)) found.entry found.there).whole (omega arith) }

    -- from the state of the next ancestor a step gives that of this one
    pub ancestor_step : (n back : ℕ) (state : PlainState) → n < length entries → back < distance_at entries n → StandsFor entries (ancestor_at entries n (back + 1)) state → IsStep can step entries (ancestor_at entries n back) state
    ancestor_step n back state inside within stands =
        let (e, there) = item_at entries n inside in
        let is = distance_is entries n e there in
        let found = ancestor_of n e there back (omega arith) in
        let far = found.far in
        let behind = behind_of (ancestor_at entries n back) found.entry found.there (omega arith) in
        let parent : ancestor_at entries n (back + 1) ≡ found.entry.parent = ancestor_next entries n back ∙ parent_is entries (ancestor_at entries n back) found.entry found.there in
        let held : slice_get entries (ancestor_at entries n (back + 1)) ≡ Some behind.parent = ap (λ k. slice_get entries k) parent ∙ behind.there in
        let same : behind.parent.state.value ≡ state = same_Some behind.parent.state.value state (sym (ap (λ (o : Option (Entry B PlainState)). option_map (λ e. e.state.value) o) held) ∙ stands) in
        record {
          entry = found.entry;
          there = found.there;
          can_step = subst (λ s. can s found.entry.block) same behind.can_step;
          done_step = subst (λ s. step s found.entry.block ≡ done found.entry.state.value) same behind.done_step;
        }

  -- what is read of a block whose state is kept is the state's place
  pub kept_read : (entries : List (Entry B PlainState)) (states : List PlainState) (n : ℕ) (h : HasKept entries states n) (read : Entry B PlainState) → (get_or entries n read).kept ≡ Some h.held.place
  kept_read entries states n h read = ap (λ (e : Entry B PlainState). e.kept) (get_or_from_slice_get entries n h.entry read h.there) ∙ h.held.kept

  pub kept_place : (entries : List (Entry B PlainState)) (states : List PlainState) (n : ℕ) (h : HasKept entries states n) (read : Entry B PlainState) (place : ℕ) → (get_or entries n read).kept ≡ Some place → slice_get states place ≡ Some h.entry.state.value
  kept_place entries states n h read place is = subst (λ p. slice_get states p ≡ Some h.entry.state.value) (same_Some h.held.place place (sym (kept_read entries states n h read) ∙ is)) h.held.there

  -- and what stands there is its state
  pub kept_state_stands : (entries : List (Entry B PlainState)) (states : List PlainState) (n : ℕ) (h : HasKept entries states n) (read : Entry B PlainState) (place : ℕ) → (get_or entries n read).kept ≡ Some place → (state : PlainState) → StandsFor entries n (get_or states place state)
  kept_state_stands entries states n h read place is state =
      ap (λ (o : Option (Entry B PlainState)). option_map (λ e. e.state.value) o) h.there
      ∙ ap (λ s. Some s) (sym (get_or_from_slice_get states place h.entry.state.value state (kept_place entries states n h read place is)))

  module _ (can : PlainState → B → Type 0) (step : PlainState → B → Outcome PlainState) (entries : List (Entry B PlainState)) (n : ℕ) (state : PlainState) (h : IsStep can step entries n state) (read : Entry B PlainState) where
    -- and so of a block to which a step goes
    pub can_read : can state (get_or entries n read).block
    can_read = subst (λ (e : Entry B PlainState). can state e.block) (sym (get_or_from_slice_get entries n h.entry read h.there)) h.can_step

    pub step_read : step state (get_or entries n read).block ≡ done h.entry.state.value
    step_read = ap (λ (e : Entry B PlainState). step state e.block) (get_or_from_slice_get entries n h.entry read h.there) ∙ h.done_step

    pub step_stands : (next : PlainState) → step state (get_or entries n read).block ≡ done next → StandsFor entries n next
    step_stands next is =
        let same : done h.entry.state.value ≡ done next = sym step_read ∙ is in
        let value : h.entry.state.value ≡ next = cc in
        ap (λ (o : Option (Entry B PlainState)). option_map (λ e. e.state.value) o) h.there ∙ ap (λ s. Some s) value
