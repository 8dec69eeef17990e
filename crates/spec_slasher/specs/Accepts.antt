-- Where a state's steps and fork choice take an operation.
use Rattle.std.specs.Prelude.{◌≡◌, ◌<◌, ◌⊎◌, ℕ, true, All, Contains, length, List, Some}
use Rattle.bc_words.specs.Outcome.{Outcome, done, refused, limited}
use Rattle.bc_words.specs.declared.refusal.Refusal.TheVariants.{Overflow}
use Rattle.bc_preset.specs.declared.configuration.ConfigValues.{ConfigValues}
use Rattle.beacon_types.specs.declared.validator.Validator.{Validator}
use Rattle.beacon_types.specs.declared.attester_slashing.AttesterSlashing.{AttesterSlashing}
use Rattle.spec_state.specs.declared.plain.PlainState.{PlainState}
use Rattle.spec_state.specs.Predicates.{is_slashable_validator}
use Rattle.spec_state.specs.Accessors.{get_current_epoch}
use Rattle.spec_state.specs.Limits.{IsState}
use Rattle.spec_state.specs.Soundness.{IsSound}
use Rattle.spec_blocks.specs.Checks.{item_at}
use Rattle.spec_blocks.specs.ProcessAttesterSlashing.{process_attester_slashing}
use Rattle.spec_fork_choice.specs.Store.{Store, KeptBlock, block_of}
use Rattle.spec_fork_choice.specs.OnAttesterSlashing.{on_attester_slashing}
use Rattle.spec_slasher.specs.Operations.{IsCommon}

-- done, or refused because a number doesn't fit
abbrev pub IsDoneOrOverflow : {A : Type 0} → Outcome A → Type 0
IsDoneOrOverflow (done x) = Unit {0}
IsDoneOrOverflow (refused why) = why ≡ Overflow
IsDoneOrOverflow (limited bound) = ⊥

-- a state's registry holds every index of an operation
pub record IsHeld (s : PlainState) (operation : AttesterSlashing) : Type 0 where
  pub first : All (λ index. index < length s.validators) operation.attestation_1.attesting_indices
  pub second : All (λ index. index < length s.validators) operation.attestation_2.attesting_indices

-- a state's validator with an index is slashable at its epoch
pub record IsSlashable (s : PlainState) (index : ℕ) : Type 0 where
  pub validator : Validator
  pub found : item_at s.validators index ≡ done validator
  pub slashable : is_slashable_validator validator (get_current_epoch s) ≡ true

-- a validator in both attestations of an operation is slashable
pub record HasSlashable (s : PlainState) (operation : AttesterSlashing) : Type 0 where
  pub index : ℕ
  pub common : IsCommon operation index
  pub slashable : IsSlashable s index

-- no validator in both attestations of an operation is slashable
abbrev pub HasNoSlashable : PlainState → AttesterSlashing → Type 0
HasNoSlashable s operation = (index : ℕ) → IsCommon operation index → IsSlashable s index → ⊥

-- A block's step takes an operation on each sound state whose registry holds its indices, where a validator in both attestations is
-- slashable. The step's own conditions: the proposer is in the registry, and the state's lists have their lengths
abbrev pub IsProcessed : AttesterSlashing → Type 0
IsProcessed operation =
    (s : PlainState) (proposer : ℕ) (config : ConfigValues) → IsState s → IsSound s → proposer < length s.validators → IsHeld s operation → HasSlashable s operation
    → IsDoneOrOverflow (process_attester_slashing s operation proposer config)

-- A store accepts an operation: behind it exactly the validators in both attestations are equivocating beside those before, and all
-- else is as it was
pub record IsAccepted (store : Store) (operation : AttesterSlashing) : Type 0 where
  pub behind : List ℕ
  pub is : on_attester_slashing store operation ≡ done (record store { equivocating_indices = behind })
  pub more : (index : ℕ) → Contains store.equivocating_indices index ⊎ IsCommon operation index → Contains behind index
  pub only : (index : ℕ) → Contains behind index → Contains store.equivocating_indices index ⊎ IsCommon operation index

-- so does each one whose justified root's own state holds its indices
abbrev pub IsTaken : AttesterSlashing → Type 0
IsTaken operation =
    (store : Store) (justified : KeptBlock) → block_of store.blocks store.justified_checkpoint.root ≡ Some justified → IsHeld justified.state operation → IsAccepted store operation
