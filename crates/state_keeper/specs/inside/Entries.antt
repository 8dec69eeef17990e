-- What is kept of each block, and what holds of it.
use Rattle.std.specs.Prelude.{◌≡◌, ℕ, zero, suc, ◌+◌, ◌%◌, ◌<◌, ◌≤◌, ◌==◌, if◌then◌else◌, List, length, Contains, Option, Some, None, option_map, slice_get, unwrap_or}
use Rattle.bc_words.specs.Outcome.{Outcome, done}
use Rattle.spec_state.specs.declared.plain.PlainState.{PlainState}
use Rattle.state_keeper.specs.declared.entry.Entry.{Entry}
use Rattle.state_keeper.specs.Chain.{ChainBlock, kept_every}

-- where, behind so many kept states, the state of a block is kept that is so far from the first block
unfoldable pub place_of : ℕ → ℕ → Option ℕ
place_of distance many = if distance % kept_every == 0 then Some many else None

-- Each of the states stands at its place among the others too
abbrev pub Stay : {S : Type 0} → List S → List S → Type 0
Stay {S} states others = (place : ℕ) (state : S) → slice_get states place ≡ Some state → slice_get others place ≡ Some state

module _ {B : Type 0} where
  -- the block that an entry stands for
  abbrev pub plain_of : Entry B PlainState → ChainBlock B
  plain_of e = record { block = e.block; parent = e.parent; state = e.state.value }

  -- The state is that of the block of a number
  abbrev pub StandsFor : List (Entry B PlainState) → ℕ → PlainState → Type 0
  StandsFor entries n state = option_map (λ e. e.state.value) (slice_get entries n) ≡ Some state

  -- how far the block of a number is from the first block
  abbrev pub distance_at : List (Entry B PlainState) → ℕ → ℕ
  distance_at entries n = unwrap_or (option_map (λ e. e.distance) (slice_get entries n)) 0

  -- the number of its parent, and that of the block so many parents before it
  abbrev pub parent_at : List (Entry B PlainState) → ℕ → ℕ
  parent_at entries n = unwrap_or (option_map (λ e. e.parent) (slice_get entries n)) 0

  unfoldable pub ancestor_at : List (Entry B PlainState) → ℕ → ℕ → ℕ
  ancestor_at entries n zero = n
  ancestor_at entries n (suc back) = parent_at entries (ancestor_at entries n back)

  -- The state of an entry is kept
  pub record IsHeld (states : List PlainState) (e : Entry B PlainState) : Type 0 where
    pub place : ℕ
    pub kept : e.kept ≡ Some place
    pub there : slice_get states place ≡ Some e.state.value

  -- The state of the block of a number is kept
  pub record HasKept (entries : List (Entry B PlainState)) (states : List PlainState) (n : ℕ) : Type 0 where
    pub entry : Entry B PlainState
    pub there : slice_get entries n ≡ Some entry
    pub held : IsHeld states entry

  -- Every eighth state is kept, and where a state is said to be kept it is that of the entry
  pub record IsKept (states : List PlainState) (e : Entry B PlainState) : Type 0 where
    pub whole : e.distance % kept_every ≡ 0 → IsHeld states e
    pub right : (place : ℕ) → e.kept ≡ Some place → slice_get states place ≡ Some e.state.value

  abbrev pub AreKept : List (Entry B PlainState) → List PlainState → Type 0
  AreKept entries states = (n : ℕ) (e : Entry B PlainState) → slice_get entries n ≡ Some e → IsKept states e

  -- The pairs of the cache are numbers of blocks with their states
  abbrev pub IsCache : List (Entry B PlainState) → List (ℕ × PlainState) → Type 0
  IsCache entries pairs = (n : ℕ) (state : PlainState) → Contains pairs (n, state) → StandsFor entries n state

  module _ (can : PlainState → B → Type 0) (step : PlainState → B → Outcome PlainState) where
    -- A step from a state gives that of the block of a number
    pub record IsStep (entries : List (Entry B PlainState)) (n : ℕ) (state : PlainState) : Type 0 where
      pub entry : Entry B PlainState
      pub there : slice_get entries n ≡ Some entry
      pub can_step : can state entry.block
      pub done_step : step state entry.block ≡ done entry.state.value

    -- The entry of a block behind its parent, which is one before it
    pub record IsBehind (entries : List (Entry B PlainState)) (n : ℕ) (e : Entry B PlainState) : Type 0 where
      pub parent : Entry B PlainState
      pub there : slice_get entries e.parent ≡ Some parent
      pub before : e.parent < n
      pub can_step : can parent.state.value e.block
      pub done_step : step parent.state.value e.block ≡ done e.state.value
      pub distance : e.distance ≡ parent.distance + 1
      pub near : e.distance ≤ n

    abbrev pub IsEntry : List (Entry B PlainState) → ℕ → Entry B PlainState → Type 0
    IsEntry entries zero e = e.distance ≡ 0
    IsEntry entries (suc n) e = IsBehind entries (suc n) e

    abbrev pub AreEntries : List (Entry B PlainState) → Type 0
    AreEntries entries = (n : ℕ) (e : Entry B PlainState) → slice_get entries n ≡ Some e → IsEntry entries n e

    -- What holds of a keeper's entries, its kept states and its cache
    pub record IsKeeper (entries : List (Entry B PlainState)) (states : List PlainState) (pairs : List (ℕ × PlainState)) : Type 0 where
      pub some : 0 < length entries
      pub each : AreEntries entries
      pub kept : AreKept entries states
      pub cached : IsCache entries pairs
