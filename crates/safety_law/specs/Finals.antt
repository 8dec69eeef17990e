-- What histories finalised, when they conflict, and when their validators stay.
use Rattle.std.specs.Prelude.{◌≡◌, ◌⊎◌, ℕ, ◌*◌, ◌<◌, ◌≤◌, Contains, List}
use Rattle.std.specs.List.{AllByRecursion}
use Rattle.beacon_types.specs.declared.checkpoint.Checkpoint.{Checkpoint}
use Rattle.spec_state.specs.declared.plain.PlainState.{PlainState}
use Rattle.spec_state.specs.Genesis.{header_root_of}
use Rattle.spec_forensics.specs.Histories.{AcceptedBlock, chain_to}
use Rattle.spec_forensics.specs.Steady.{genesis_total, IsSteadyAt}
use Rattle.spec_forensics.specs.Verdict.{roots_of, finalizing_chain, offences_of, balance_of}

-- A checkpoint is that of the state of a block of a history
pub record IsFinalizedBy (history : List AcceptedBlock) (finalized : Checkpoint) : Type 0 where
  pub by : AcceptedBlock
  pub listed : Contains history by
  pub is : by.state.finalized_checkpoint ≡ finalized

-- A checkpoint is one that a history finalised, or that of genesis
abbrev pub IsFinalOf : PlainState → List AcceptedBlock → Checkpoint → Type 0
IsFinalOf genesis history finalized = (finalized ≡ record { epoch = 0; root = header_root_of genesis }) ⊎ IsFinalizedBy history finalized

-- Two histories conflict: both finalised something above epoch 0, and neither finalised block is the other or its ancestor
pub record IsConflict (genesis : PlainState) (first second : List AcceptedBlock) (a b : Checkpoint) : Type 0 where
  pub first_above : 0 < a.epoch
  pub second_above : 0 < b.epoch
  pub first_apart : Contains (roots_of genesis (chain_to second b.root)) a.root → ⊥
  pub second_apart : Contains (roots_of genesis (chain_to first a.root)) b.root → ⊥

-- The validators stay as they were at genesis on the chain from genesis to the block that finalised a checkpoint: each state on which
-- epoch processing was entered on the way is steady
abbrev pub StaysSteady : PlainState → List AcceptedBlock → Checkpoint → Type 0
StaysSteady genesis history finalized = AllByRecursion (λ b. AllByRecursion (IsSteadyAt genesis) b.entered) (finalizing_chain history finalized)

-- The genesis total is at least two increments
abbrev pub IsLargeGenesis : PlainState → Type 0
IsLargeGenesis genesis = 2 * genesis.preset.effective_balance_increment ≤ genesis_total genesis

-- Two histories conflict, on a large genesis whose validators stay; the offenders' balance and the total are these
pub record AreInConflict (genesis : PlainState) (first second : List AcceptedBlock) (a b : Checkpoint) (balance total : ℕ) : Type 0 where
  pub conflict : IsConflict genesis first second a b
  pub large : IsLargeGenesis genesis
  pub first_stays : StaysSteady genesis first a
  pub second_stays : StaysSteady genesis second b
  pub balance_is : balance_of genesis (offences_of genesis first second) ≡ balance
  pub total_is : genesis_total genesis ≡ total
