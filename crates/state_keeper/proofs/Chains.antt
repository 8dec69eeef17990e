-- What entries say of the chain of blocks that they stand for.
use Rattle.std.proofs.Common.{◌≡◌, ℕ, zero, suc, ◌+◌, ◌<◌, ◌≤◌, List, [], ◌∷◌, ◌++◌, length, map, Option, Some, option_map, unwrap_or, slice_get, refl, sym, ap, ◌∙◌, subst, arith, append_assoc, append-nil, length-append}
use Rattle.std.proofs.lemmas.List.{map-append}
use Rattle.std.proofs.lemmas.Option.{slice_get-map}
use Rattle.bc_words.specs.Outcome.{Outcome, done, ◌>>=◌}
use Rattle.spec_state.specs.declared.plain.PlainState.{PlainState}
use Rattle.state_keeper.specs.declared.entry.Entry.{Entry}
use Rattle.state_keeper.specs.Chain.{ChainBlock, HasState, along, states_of, state_at, distances_of, distance_of}
use Rattle.state_keeper.specs.inside.Entries.{plain_of, StandsFor, distance_at, IsBehind, AreEntries}
use Rattle.state_keeper.proofs.Items.{get_before, get_at, mapped}

module _ {A B : Type 0} (next : A → B → A) (first : A) (value : Entry B PlainState → A) where
  -- What an entry has is made of what its parent has, which is before it
  record IsMade (entries : List (Entry B PlainState)) (n : ℕ) (e : Entry B PlainState) : Type 0 where
    parent : Entry B PlainState
    there : slice_get entries e.parent ≡ Some parent
    before : e.parent < n
    made : next (value parent) e.block ≡ value e

  abbrev AreMade : ℕ → List (Entry B PlainState) → Type 0
  AreMade from entries = (n : ℕ) (e : Entry B PlainState) → from ≤ n → slice_get entries n ≡ Some e → IsMade entries n e

  along_is : (before rest : List (Entry B PlainState)) → AreMade (length before) (before ++ rest) → along next first (map value before) (map plain_of rest) ≡ map value (before ++ rest)
  unfolding along
  along_is before [] made = ap (λ es. map value es) (sym (append-nil before))
  along_is before (e ∷ rest) made =
      let here = made (length before) e (omega arith) (get_at before e rest) in
      let parent : slice_get before e.parent ≡ Some here.parent = get_before before (e ∷ rest) e.parent here.parent here.there here.before in
      let known : slice_get (map value before) e.parent ≡ Some (value here.parent) = slice_get-map value before e.parent ∙ ap (λ (o : Option (Entry B PlainState)). option_map value o) parent in
      let item : next (unwrap_or (slice_get (map value before) e.parent) first) e.block ≡ value e = ap (λ (o : Option A). next (unwrap_or o first) e.block) known ∙ here.made in
      let grown : map value before ++ value e ∷ [] ≡ map value (before ++ e ∷ []) = sym (map-append value before (e ∷ [])) in
      let whole : (before ++ e ∷ []) ++ rest ≡ before ++ e ∷ rest = append_assoc before (e ∷ []) rest in
      let long : length (before ++ e ∷ []) ≡ length before + 1 = length-append before (e ∷ []) in
      let later : AreMade (length before + 1) (before ++ e ∷ rest) = λ n x past there. made n x (omega arith) there in
      let later' : AreMade (length (before ++ e ∷ [])) ((before ++ e ∷ []) ++ rest) = subst (λ k. AreMade k ((before ++ e ∷ []) ++ rest)) (sym long) (subst (λ es. AreMade (length before + 1) es) (sym whole) later) in
      ap (λ x. along next first (map value before ++ x ∷ []) (map plain_of rest)) item ∙ (ap (λ ks. along next first ks (map plain_of rest)) grown ∙ (along_is (before ++ e ∷ []) rest later' ∙ ap (λ es. map value es) whole))

module _ {B : Type 0} (can : PlainState → B → Type 0) (step : PlainState → B → Outcome PlainState) where
  behind_of : (entries : List (Entry B PlainState)) → AreEntries can step entries → (n : ℕ) (e : Entry B PlainState) → 1 ≤ n → slice_get entries n ≡ Some e → IsBehind can step entries n e
  behind_of entries each zero e some there = absurd (omega arith)
  behind_of entries each (suc n) e some there = each (suc n) e there

  -- the states of the chain are those that the entries stand for
  pub states_are : (entries : List (Entry B PlainState)) → AreEntries can step entries → states_of step (map plain_of entries) ≡ map (λ e. done e.state.value) entries
  unfolding states_of
  states_are [] each = refl
  states_are (genesis ∷ entries) each =
      along_is (λ before block. before >>= λ state. step state block) (done genesis.state.value) (λ e. done e.state.value) (genesis ∷ []) entries (λ n e some there.
      let behind = behind_of (genesis ∷ entries) each n e some there in
      record { parent = behind.parent; there = behind.there; before = behind.before; made = behind.done_step })

  -- and so are the distances
  pub distances_are : (entries : List (Entry B PlainState)) → AreEntries can step entries → distances_of (map plain_of entries) ≡ map (λ e. e.distance) entries
  unfolding distances_of
  distances_are [] each = refl
  distances_are (genesis ∷ entries) each =
      let none : genesis.distance ≡ 0 = each 0 genesis refl in
      ap (λ d. along (λ before block. before + 1) 0 (d ∷ []) (map plain_of entries)) (sym none) ∙
      along_is (λ before block. before + 1) 0 (λ e. e.distance) (genesis ∷ []) entries (λ n e some there.
      let behind = behind_of (genesis ∷ entries) each n e some there in
      record { parent = behind.parent; there = behind.there; before = behind.before; made = sym behind.distance })

  pub distance_there : (entries : List (Entry B PlainState)) (n : ℕ) → AreEntries can step entries → distance_of (map plain_of entries) n ≡ distance_at entries n
  unfolding distance_of
  distance_there entries n each = ap (λ ds. unwrap_or (slice_get ds n) 0) (distances_are entries each) ∙ ap (λ (o : Option ℕ). unwrap_or o 0) (slice_get-map (λ (e : Entry B PlainState). e.distance) entries n)

module _ {B : Type 0} where
  state_there : (entries : List (Entry B PlainState)) (n : ℕ) → option_map (λ b. b.state) (slice_get (map plain_of entries) n) ≡ option_map (λ e. e.state.value) (slice_get entries n)
  state_there entries n = ap (λ (o : Option (ChainBlock B)). option_map (λ b. b.state) o) (slice_get-map plain_of entries n) ∙ mapped plain_of (λ b. b.state) (slice_get entries n)

  -- a state that the entries stand for is that of the block
  pub has_state : (entries : List (Entry B PlainState)) (n : ℕ) (state : PlainState) → StandsFor entries n state → HasState (map plain_of entries) n state
  has_state entries n state stands = state_there entries n ∙ stands

  pub stands_for : (entries : List (Entry B PlainState)) (n : ℕ) (state : PlainState) → HasState (map plain_of entries) n state → StandsFor entries n state
  stands_for entries n state has = sym (state_there entries n) ∙ has

  -- and that of the chain
  pub chain_state : (can : PlainState → B → Type 0) (step : PlainState → B → Outcome PlainState) (entries : List (Entry B PlainState)) → AreEntries can step entries → (n : ℕ) (state : PlainState) → HasState (map plain_of entries) n state → state_at step (map plain_of entries) n ≡ Some (done state)
  unfolding state_at
  chain_state can step entries each n state has =
      ap (λ (os : List (Outcome PlainState)). slice_get os n) (states_are can step entries each) ∙ (slice_get-map (λ (e : Entry B PlainState). done e.state.value) entries n ∙
      (sym (mapped (λ (e : Entry B PlainState). e.state.value) (λ s. done s) (slice_get entries n)) ∙
      ap (λ (o : Option PlainState). option_map (λ s. done s) o) (stands_for entries n state has)))
