-- One entry more.
use Rattle.std.proofs.Common.{◌≡◌, ℕ, zero, suc, ◌+◌, ◌<◌, ◌≤◌, ◌%◌, Bool, true, false, cond, eqb, get_or, inl, inr, List, [], ◌∷◌, ◌++◌, length, map, Contains, IfSome, Option, Some, None, option_map, slice_get, sym, ap, ◌∙◌, subst, arith, eq-eqb, length-append}
use Rattle.std.proofs.lemmas.List.{length-map, map-append}
use Rattle.std.proofs.lemmas.Option.{slice_get_within, slice_get-map, get_or_from_slice_get, same_Some, none-some}
use Rattle.bc_words.specs.Outcome.{Outcome, done}
use Rattle.spec_state.specs.declared.plain.PlainState.{PlainState}
use Rattle.state_keeper.specs.declared.entry.Entry.{Entry}
use Rattle.state_keeper.specs.Chain.{ChainBlock, kept_every}
use Rattle.state_keeper.specs.inside.Entries.{plain_of, distance_at, StandsFor, IsCache, IsBehind, IsEntry, AreEntries, IsHeld, IsKept, AreKept, Stay, IsKeeper, place_of}
use Rattle.state_keeper.proofs.Items.{item_at, get_append, get_at, get_end, item_of}
use Rattle.state_keeper.proofs.Ancestors.{distance_is}

in_none : {X : Type 0} (x : X) → Contains [] x → ⊥
in_none x among = let less = among.1 in absurd (omega arith)

module _ {B : Type 0} where
  -- a kept state stays where its place keeps it
  still_kept : (states more : List PlainState) (e : Entry B PlainState) → Stay states more → IsKept states e → IsKept more e
  still_kept states more e stay is = record {
    whole = λ whole. let held = is.whole whole in record { place = held.place; kept = held.kept; there = stay held.place e.state.value held.there };
    right = λ place kept. stay place e.state.value (is.right place kept);
  }

  -- what is read at the place where the state of an entry is kept is that of its block
  pub kept_stands : (entries : List (Entry B PlainState)) (states : List PlainState) (n : ℕ) (e : Entry B PlainState) (place : ℕ) (read : PlainState) → slice_get entries n ≡ Some e → slice_get states place ≡ Some e.state.value → read ≡ get_or states place read → StandsFor entries n read
  kept_stands entries states n e place read there held is =
      ap (λ (o : Option (Entry B PlainState)). option_map (λ e. e.state.value) o) there ∙ ap (λ s. Some s) (sym (is ∙ get_or_from_slice_get states place e.state.value read held))

  placed_by : (whole : Bool) (states : List PlainState) (e : Entry B PlainState) (many : ℕ) → e.kept ≡ cond whole (Some many) None → IfSome (cond whole (Some many) None) (λ place. slice_get states place ≡ Some e.state.value) → (whole ≡ true → IsHeld states e) × ((place : ℕ) → e.kept ≡ Some place → slice_get states place ≡ Some e.state.value)
  placed_by true states e many kept there = (λ _. record { place = many; kept = kept; there = there }, λ place is. subst (λ p. slice_get states p ≡ Some e.state.value) (same_Some many place (sym kept ∙ is)) there)
  placed_by false states e many kept there = (λ no. absurd (let wrong : false ≡ true = no in cc), λ place is. absurd (none-some place (sym kept ∙ is)))

  -- so is one that was put behind as many states as its place says
  placed_kept : (states : List PlainState) (e : Entry B PlainState) (state : PlainState) (many : ℕ) → e.kept ≡ place_of e.distance many → IfSome (place_of e.distance many) (λ place. slice_get states place ≡ Some state) → e.state.value ≡ state → IsKept states e
  unfolding place_of
  placed_kept states e state many kept there seen =
      let (held, right) = placed_by (eqb (e.distance % kept_every) 0) states e many kept (subst (λ s. IfSome (place_of e.distance many) (λ place. slice_get states place ≡ Some s)) (sym seen) there) in
      record { whole = λ whole. held (eq-eqb (e.distance % kept_every) 0 whole); right = right }

module _ {B : Type 0} (can : PlainState → B → Type 0) (step : PlainState → B → Outcome PlainState) where
  pub near_of : (entries : List (Entry B PlainState)) (n : ℕ) (e : Entry B PlainState) → IsEntry can step entries n e → e.distance ≤ n
  near_of entries zero e is = omega arith
  near_of entries (suc n) e is = is.near

  -- an entry stays one where more come
  lifted : (entries more : List (Entry B PlainState)) (n : ℕ) (e : Entry B PlainState) → IsEntry can step entries n e → IsEntry can step (entries ++ more) n e
  lifted entries more zero e is = is
  lifted entries more (suc n) e is = record {
    parent = is.parent;
    there = get_append entries more e.parent is.parent is.there;
    before = is.before;
    can_step = is.can_step;
    done_step = is.done_step;
    distance = is.distance;
    near = is.near;
  }

  entry_behind : (entries : List (Entry B PlainState)) (n : ℕ) (e : Entry B PlainState) → 0 < n → IsBehind can step entries n e → IsEntry can step entries n e
  entry_behind entries zero e some is = absurd (omega arith)
  entry_behind entries (suc n) e some is = is

  -- What is asked of an entry that comes behind others
  pub record Joins (entries : List (Entry B PlainState)) (e : Entry B PlainState) : Type 0 where
    pub parent : Entry B PlainState
    pub there : slice_get entries e.parent ≡ Some parent
    pub can_step : can parent.state.value e.block
    pub done_step : step parent.state.value e.block ≡ done e.state.value
    pub distance : e.distance ≡ parent.distance + 1

  joined : (entries : List (Entry B PlainState)) (e : Entry B PlainState) → AreEntries can step entries → 0 < length entries → Joins entries e → IsEntry can step (entries ++ e ∷ []) (length entries) e
  joined entries e each some joins =
      let within = slice_get_within entries e.parent joins.parent joins.there in
      let parent_near = near_of entries e.parent joins.parent (each e.parent joins.parent joins.there) in
      let far = joins.distance in
      entry_behind (entries ++ e ∷ []) (length entries) e some (record {
        parent = joins.parent;
        there = get_append entries (e ∷ []) e.parent joins.parent joins.there;
        before = within;
        can_step = joins.can_step;
        done_step = joins.done_step;
        distance = joins.distance;
        near = omega arith;
      })

  pub keeps_joined : (entries : List (Entry B PlainState)) (states more : List PlainState) (pairs : List (ℕ × PlainState)) (e : Entry B PlainState) → IsKeeper can step entries states pairs → Joins entries e → Stay states more → IsKept more e → IsKeeper can step (entries ++ e ∷ []) more pairs
  keeps_joined entries states more pairs e keeps joins stay held =
      let long : length (entries ++ e ∷ []) ≡ length entries + 1 = length-append entries (e ∷ []) in
      let each : AreEntries can step (entries ++ e ∷ []) = λ n x there. elim (get_end entries e n x there) [
        | inl old ↦ lifted entries (e ∷ []) n x (keeps.each n x old)
        | inr new ↦ subst (λ y. IsEntry can step (entries ++ e ∷ []) n y) new.1 (subst (λ m. IsEntry can step (entries ++ e ∷ []) m e) (sym new.0) (joined entries e keeps.each keeps.some joins))
      ] in
      let kept : AreKept (entries ++ e ∷ []) more = λ n x there. elim (get_end entries e n x there) [
        | inl old ↦ still_kept states more x stay (keeps.kept n x old)
        | inr new ↦ subst (λ y. IsKept more y) new.1 held
      ] in
      let cached : IsCache (entries ++ e ∷ []) pairs = λ n state among.
      let (x, there, same) = item_of (λ (e : Entry B PlainState). e.state.value) (slice_get entries n) state (keeps.cached n state among) in
      ap (λ (o : Option (Entry B PlainState)). option_map (λ e. e.state.value) o) (get_append entries (e ∷ []) n x there) ∙ ap (λ s. Some s) same in
      record { some = omega arith; each = each; kept = kept; cached = cached }

  first_each : (e : Entry B PlainState) → e.distance ≡ 0 → (n : ℕ) (x : Entry B PlainState) → slice_get (e ∷ []) n ≡ Some x → IsEntry can step (e ∷ []) n x
  first_each e first zero x there = subst (λ (y : Entry B PlainState). y.distance ≡ 0) (same_Some e x there) first
  first_each e first (suc n) x there = absurd (none-some x there)

  first_kept : (states : List PlainState) (e : Entry B PlainState) → IsKept states e → (n : ℕ) (x : Entry B PlainState) → slice_get (e ∷ []) n ≡ Some x → IsKept states x
  first_kept states e held zero x there = subst (λ y. IsKept states y) (same_Some e x there) held
  first_kept states e held (suc n) x there = absurd (none-some x there)

  -- kept states more change nothing
  pub keeps_still : (entries : List (Entry B PlainState)) (states more : List PlainState) (pairs : List (ℕ × PlainState)) → IsKeeper can step entries states pairs → Stay states more → IsKeeper can step entries more pairs
  keeps_still entries states more pairs keeps stay = record { some = keeps.some; each = keeps.each; kept = λ n e there. still_kept states more e stay (keeps.kept n e there); cached = keeps.cached }

  -- a keeper's one entry at its beginning
  pub keeps_first : (entries : List (Entry B PlainState)) (states : List PlainState) (pairs : List (ℕ × PlainState)) (e : Entry B PlainState) (state : PlainState) → entries ≡ e ∷ [] → pairs ≡ [] → e.distance ≡ 0 → e.kept ≡ place_of e.distance 0 → IfSome (place_of e.distance 0) (λ place. slice_get states place ≡ Some state) → e.state.value ≡ state → IsKeeper can step entries states pairs
  keeps_first entries states pairs e state one none far kept held seen =
      subst (λ es. IsKeeper can step es states pairs) (sym one) (subst (λ ps. IsKeeper can step (e ∷ []) states ps) (sym none) (record {
        some = omega arith;
        each = first_each e far;
        kept = first_kept states e (placed_kept states e state 0 kept held seen);
        cached = λ n s among. absurd (in_none (n, s) among);
      }))

  -- a block is at most as far from the first block as its number says
  pub near_at : (entries : List (Entry B PlainState)) → AreEntries can step entries → (n : ℕ) → n < length (map plain_of entries) → distance_at entries n ≤ n
  near_at entries each n inside =
      let (e, there) = item_at entries n (omega (arith, length-map entries plain_of)) in
      let near = near_of entries n e (each n e there) in
      let is = distance_is entries n e there in
      omega arith

  pub joins_of : (entries : List (Entry B PlainState)) (e : Entry B PlainState) → e.parent < length (map plain_of entries) → IfSome (slice_get (map plain_of entries) e.parent) (λ before. can before.state e.block) → IfSome (slice_get (map plain_of entries) e.parent) (λ before. step before.state e.block ≡ done e.state.value) → e.distance ≡ distance_at entries e.parent + 1 → Joins entries e
  joins_of entries e inside can_step done_step far =
      let (p, there) = item_at entries e.parent (omega (arith, length-map entries plain_of)) in
      let plain : slice_get (map plain_of entries) e.parent ≡ Some (plain_of p) = slice_get-map plain_of entries e.parent ∙ ap (λ (o : Option (Entry B PlainState)). option_map plain_of o) there in
      record {
        parent = p;
        there = there;
        can_step = subst (λ (o : Option (ChainBlock B)). IfSome o (λ before. can before.state e.block)) plain can_step;
        done_step = subst (λ (o : Option (ChainBlock B)). IfSome o (λ before. step before.state e.block ≡ done e.state.value)) plain done_step;
        distance = far ∙ ap (λ d. d + 1) (distance_is entries e.parent p there);
      }

  -- a keeper's entries with the one that `add` makes
  pub keeps_added : (entries slice new : List (Entry B PlainState)) (states more : List PlainState) (pairs : List (ℕ × PlainState)) (e : Entry B PlainState) (state : PlainState) (far many : ℕ) → IsKeeper can step entries states pairs → slice ≡ entries → e.parent < length (map plain_of entries) → IfSome (slice_get (map plain_of entries) e.parent) (λ before. can before.state e.block) → IfSome (slice_get (map plain_of entries) e.parent) (λ before. step before.state e.block ≡ done state) → far ≡ distance_at slice e.parent → e.distance ≡ far + 1 → e.state.value ≡ state → e.kept ≡ place_of e.distance many → IfSome (place_of e.distance many) (λ place. slice_get more place ≡ Some state) → Stay states more → new ≡ entries ++ e ∷ [] → IsKeeper can step new more pairs
  keeps_added entries slice new states more pairs e state far many keeps same inside can_step done_step far_is distance seen kept held stay new_is =
      let distance' : e.distance ≡ distance_at entries e.parent + 1 = distance ∙ ap (λ d. d + 1) (far_is ∙ ap (λ (es : List (Entry B PlainState)). distance_at es e.parent) same) in
      let done_step' = subst (λ s. IfSome (slice_get (map plain_of entries) e.parent) (λ before. step before.state e.block ≡ done s)) (sym seen) done_step in
      subst (λ es. IsKeeper can step es more pairs) (sym new_is) (keeps_joined entries states more pairs e keeps (joins_of entries e inside can_step done_step' distance') stay (placed_kept more e state many kept held seen))

module _ {B : Type 0} where
  -- the blocks with the one of that entry
  pub added_blocks : (entries new : List (Entry B PlainState)) (e : Entry B PlainState) (state : PlainState) → new ≡ entries ++ e ∷ [] → e.state.value ≡ state → map plain_of new ≡ map plain_of entries ++ record { block = e.block; parent = e.parent; state = state } ∷ []
  added_blocks entries new e state new_is seen =
      ap (λ (es : List (Entry B PlainState)). map plain_of es) new_is ∙ (map-append plain_of entries (e ∷ []) ∙ ap (λ s. map plain_of entries ++ record { block = e.block; parent = e.parent; state = s } ∷ []) seen)

  -- which stands for the state that came with it
  pub added_stands : (entries new : List (Entry B PlainState)) (e : Entry B PlainState) (n : ℕ) (state : PlainState) → new ≡ entries ++ e ∷ [] → n ≡ length entries → e.state.value ≡ state → StandsFor new n state
  added_stands entries new e n state new_is n_is seen =
      ap (λ (es : List (Entry B PlainState)). option_map (λ e. e.state.value) (slice_get es n)) new_is ∙
      (ap (λ k. option_map (λ e. e.state.value) (slice_get (entries ++ e ∷ []) k)) n_is ∙
      (ap (λ (o : Option (Entry B PlainState)). option_map (λ e. e.state.value) o) (get_at entries e []) ∙ ap (λ s. Some s) seen))
