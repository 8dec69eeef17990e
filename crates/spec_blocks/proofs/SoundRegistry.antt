-- What an operation makes of the registry keeps a state sound: who was active in the current and the previous epoch stays so.
use Rattle.std.proofs.Common.{ℕ, ◌<◌, List, refl, arith}
use Rattle.beacon_types.specs.declared.validator.Validator.{Validator}
use Rattle.spec_state.specs.declared.plain.PlainState.{PlainState}
use Rattle.spec_state.specs.Constants.{far_future_epoch}
use Rattle.spec_state.specs.Accessors.{get_current_epoch, get_previous_epoch, get_active_validator_indices, get_randao_mix}
use Rattle.spec_state.specs.Soundness.{IsSound}
use Rattle.spec_blocks.proofs.Sound.{previous_below, still_sound}
use Rattle.spec_blocks.proofs.Registry.{RegistryChange}

-- a sound state with another registry, in which the same are active in the current and the previous epoch
pub registry_sound : (s : PlainState) (validators : List Validator) (balances slashings : List ℕ) (deposits : ℕ) → RegistryChange s validators balances
    → get_current_epoch s < far_future_epoch → IsSound s → IsSound (record s { validators = validators; balances = balances; slashings = slashings; eth1_deposit_index = deposits })
unfolding get_current_epoch get_active_validator_indices get_randao_mix
registry_sound s validators balances slashings deposits change before sound =
    still_sound s (record s { validators = validators; balances = balances; slashings = slashings; eth1_deposit_index = deposits }) (record {
      epoch = refl;
      slot = omega arith;
      current = record { preset = refl; active = change.active before (get_current_epoch s) (omega arith); seed = refl };
      previous = record { preset = refl; active = change.active before (get_previous_epoch s) (previous_below s).0; seed = refl };
      validators = change.grown;
      balances = change.paired sound.balances;
      header = sound.header;
      previous_justified = refl;
      current_justified = refl;
      finalized = refl;
      previous_attestations = refl;
      current_attestations = refl;
    }) sound
