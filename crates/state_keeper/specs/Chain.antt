-- Blocks, each behind its parent, and the states that they stand for.
use Rattle.std.specs.Prelude.{◌≡◌, ℕ, ◌+◌, ◌<◌, List, [], ◌∷◌, ◌++◌, Option, Some, slice_get, option_map, unwrap_or}
use Rattle.bc_words.specs.Outcome.{Outcome, done, ◌>>=◌}
use Rattle.spec_state.specs.declared.plain.PlainState.{PlainState}

-- A block, the number of its parent, and the state that it stands for
pub record ChainBlock (B : Type 0) : Type 0 where
  pub block : B
  pub parent : ℕ
  pub state : PlainState

-- What a keeper holds: what takes its steps, its blocks, the first one first, and for how many more there is room
pub record Kept (P B : Type 0) : Type 0 where
  pub stepper : P
  pub blocks : List (ChainBlock B)
  pub spare : ℕ

-- every how many steps from the first block a state is kept
abbrev pub kept_every : ℕ
kept_every = 8

module _ {A B : Type 0} where
  -- A value for each block, in order, behind those that are known: it is made of what the parent has and of the block. A
  -- block whose parent isn't before it counts as one behind the first
  unfoldable pub along : (A → B → A) → A → List A → List (ChainBlock B) → List A
  along next first known [] = known
  along next first known (b ∷ bs) = along next first (known ++ next (unwrap_or (slice_get known b.parent) first) b.block ∷ []) bs

module _ {B : Type 0} where
  -- The block of a number stands for the state
  abbrev pub HasState : List (ChainBlock B) → ℕ → PlainState → Type 0
  HasState blocks number state = option_map (λ b. b.state) (slice_get blocks number) ≡ Some state

  -- the states behind blocks: of each the plain step from its parent's, and of the first the one that it came with
  unfoldable pub states_of : (PlainState → B → Outcome PlainState) → List (ChainBlock B) → List (Outcome PlainState)
  states_of step [] = []
  states_of step (first ∷ blocks) = along (λ before block. before >>= λ state. step state block) (done first.state) (done first.state ∷ []) blocks

  -- the state behind the block of a number, by the chain of plain steps from the first block to it
  unfoldable pub state_at : (PlainState → B → Outcome PlainState) → List (ChainBlock B) → ℕ → Option (Outcome PlainState)
  state_at step blocks number = slice_get (states_of step blocks) number

  -- how many steps each block is from the first block
  unfoldable pub distances_of : List (ChainBlock B) → List ℕ
  distances_of [] = []
  distances_of (first ∷ blocks) = along (λ before block. before + 1) 0 (0 ∷ []) blocks

  unfoldable pub distance_of : List (ChainBlock B) → ℕ → ℕ
  distance_of blocks number = unwrap_or (slice_get (distances_of blocks) number) 0

  -- The block of a number was added by a done step from the state of its parent, which might be asked for
  pub record WasStep (can : PlainState → B → Type 0) (step : PlainState → B → Outcome PlainState) (blocks : List (ChainBlock B)) (number : ℕ) : Type 0 where
    pub block : ChainBlock B
    pub there : slice_get blocks number ≡ Some block
    pub parent : ChainBlock B
    pub behind : slice_get blocks block.parent ≡ Some parent
    pub before : block.parent < number
    pub can_step : can parent.state block.block
    pub done_step : step parent.state block.block ≡ done block.state
