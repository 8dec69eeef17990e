-- Each operation of a block leaves the preset and the slot of a state, and takes nobody out of the registry.
use Rattle.std.proofs.Common.{◌≡◌, ℕ, ◌≤◌, List, length, arith}
use Rattle.bc_words.specs.Outcome.{done}
use Rattle.bc_preset.specs.declared.presets.Preset.{Preset}
use Rattle.bc_preset.specs.declared.configuration.ConfigValues.{ConfigValues}
use Rattle.beacon_types.specs.declared.validator.Validator.{Validator}
use Rattle.beacon_types.specs.declared.pending_attestation.PendingAttestation.{PendingAttestation}
use Rattle.beacon_types.specs.declared.attestation.Attestation.{Attestation}
use Rattle.spec_state.specs.declared.plain.PlainState.{PlainState}
use Rattle.spec_blocks.specs.InitiateValidatorExit.{initiate_validator_exit}
use Rattle.spec_blocks.specs.ProcessAttestation.{process_attestation}
use Rattle.spec_blocks.proofs.Registry.{RegistryChange, exit_keeps}
use Rattle.spec_blocks.proofs.Pending.{attestation_keeps}

-- the preset and the slot of a state, and at least so many validators
pub record Fixed (preset : Preset) (slot known : ℕ) (s : PlainState) : Type 0 where
  pub preset_is : s.preset ≡ preset
  pub slot_is : s.slot ≡ slot
  pub registry : known ≤ length s.validators

module _ (preset : Preset) (slot known : ℕ) where
  -- what an operation makes of the registry
  pub registry_fixed : (s : PlainState) (validators : List Validator) (balances slashings : List ℕ) (deposits : ℕ) → RegistryChange s validators balances → Fixed preset slot known s
      → Fixed preset slot known (record s { validators = validators; balances = balances; slashings = slashings; eth1_deposit_index = deposits })
  registry_fixed s validators balances slashings deposits change fixed = record {
    preset_is = fixed.preset_is;
    slot_is = fixed.slot_is;
    registry = omega (arith, change.grown, fixed.registry);
  }

  pending_fixed : (s : PlainState) (previous current : List PendingAttestation) → Fixed preset slot known s
      → Fixed preset slot known (record s { previous_epoch_attestations = previous; current_epoch_attestations = current })
  pending_fixed s previous current fixed = record { preset_is = fixed.preset_is; slot_is = fixed.slot_is; registry = fixed.registry }

  -- the exit of a validator
  pub exit_fixed : (s t : PlainState) (index : ℕ) (config : ConfigValues) → initiate_validator_exit s index config ≡ done t → Fixed preset slot known s → Fixed preset slot known t
  exit_fixed s t index config is fixed = exit_keeps (Fixed preset slot known) registry_fixed s t index config is fixed

  -- an attestation
  pub attestation_fixed : (s t : PlainState) (attestation : Attestation) (proposer : ℕ) → process_attestation s attestation proposer ≡ done t → Fixed preset slot known s → Fixed preset slot known t
  attestation_fixed s t attestation proposer is fixed = attestation_keeps (Fixed preset slot known) pending_fixed proposer s t attestation is fixed
