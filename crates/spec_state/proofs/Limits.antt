-- A state that a codec has within its limits is one of its preset.
use Rattle.std.proofs.Common.{◌≡◌, ◌≤◌, ℕ, List, length, Some, sym, subst}
use Rattle.bc_preset.specs.declared.presets.Preset.{Preset}
use Rattle.bc_preset.specs.Presets.{IsPreset}
use Rattle.ssz_codec.specs.Lawful.{IsBytes}
use Rattle.spec_state.specs.declared.plain.PlainState.{PlainState}
use Rattle.spec_state.specs.States.{votes_limit, attestations_limit, state_fields, state_codec}
use Rattle.spec_state.specs.Limits.{IsState, IsInRange}
use Rattle.spec_state.proofs.StateLaws.{state_lawful}

-- of its preset
pub within_preset : (p : Preset) (s : PlainState) → (state_codec p).Within s → s.preset ≡ p
unfolding state_fields state_codec
within_preset p s within = within.0.0.0.0.0.0.0.0.0.0.0.0.0.0.0.0.0.0.0.0.0.0.1

within_is_state : (p : Preset) (s : PlainState) → IsPreset p → (state_codec p).Within s → IsState s
unfolding state_fields state_codec
within_is_state p s preset within =
    let is = within.0.0.0.0.0.0.0.0.0.0.0.0.0.0.0.0.0.0.0.0.0.0.1 in
    record {
      preset_is = subst IsPreset (sym is) preset;
      block_roots_len = subst (λ q. length s.block_roots ≡ q.slots_per_historical_root) (sym is) within.0.0.0.0.0.0.0.0.0.0.0.0.0.0.0.0.1.0;
      state_roots_len = subst (λ q. length s.state_roots ≡ q.slots_per_historical_root) (sym is) within.0.0.0.0.0.0.0.0.0.0.0.0.0.0.0.1.0;
      historical_roots_len = subst (λ q. length s.historical_roots ≤ q.historical_roots_limit) (sym is) within.0.0.0.0.0.0.0.0.0.0.0.0.0.0.1.0;
      eth1_data_votes_len = subst (λ q. length s.eth1_data_votes ≤ votes_limit q) (sym is) within.0.0.0.0.0.0.0.0.0.0.0.0.1.0;
      validators_len = subst (λ q. length s.validators ≤ q.validator_registry_limit) (sym is) within.0.0.0.0.0.0.0.0.0.0.1.0;
      balances_len = subst (λ q. length s.balances ≤ q.validator_registry_limit) (sym is) within.0.0.0.0.0.0.0.0.0.1.0;
      randao_mixes_len = subst (λ q. length s.randao_mixes ≡ q.epochs_per_historical_vector) (sym is) within.0.0.0.0.0.0.0.0.1.0;
      slashings_len = subst (λ q. length s.slashings ≡ q.epochs_per_slashings_vector) (sym is) within.0.0.0.0.0.0.0.1.0;
      previous_epoch_attestations_len = subst (λ q. length s.previous_epoch_attestations ≤ attestations_limit q) (sym is) within.0.0.0.0.0.0.1.0;
      current_epoch_attestations_len = subst (λ q. length s.current_epoch_attestations ≤ attestations_limit q) (sym is) within.0.0.0.0.0.1.0;
    }

-- what is read as a state of the preset is one
pub read_is_state : (p : Preset) (bytes : List ℕ) (s : PlainState) → IsPreset p → IsBytes bytes → (state_codec p).deserialize bytes ≡ Some s → IsState s
read_is_state p bytes s preset fits e = within_is_state p s preset ((state_lawful p).sound bytes s fits e).0

within_in_range : (p : Preset) (s : PlainState) → (state_codec p).Within s → IsInRange s
unfolding state_fields state_codec
within_in_range p s within = record {
  genesis_time = within.0.0.0.0.0.0.0.0.0.0.0.0.0.0.0.0.0.0.0.0.0.1;
  genesis_validators_root = within.0.0.0.0.0.0.0.0.0.0.0.0.0.0.0.0.0.0.0.0.1;
  slot = within.0.0.0.0.0.0.0.0.0.0.0.0.0.0.0.0.0.0.0.1;
  fork = within.0.0.0.0.0.0.0.0.0.0.0.0.0.0.0.0.0.0.1;
  latest_block_header = within.0.0.0.0.0.0.0.0.0.0.0.0.0.0.0.0.0.1;
  block_roots = within.0.0.0.0.0.0.0.0.0.0.0.0.0.0.0.0.1.1;
  state_roots = within.0.0.0.0.0.0.0.0.0.0.0.0.0.0.0.1.1;
  historical_roots = within.0.0.0.0.0.0.0.0.0.0.0.0.0.0.1.1;
  eth1_data = within.0.0.0.0.0.0.0.0.0.0.0.0.0.1;
  eth1_data_votes = within.0.0.0.0.0.0.0.0.0.0.0.0.1.1;
  eth1_deposit_index = within.0.0.0.0.0.0.0.0.0.0.0.1;
  validators = within.0.0.0.0.0.0.0.0.0.0.1.1;
  balances = within.0.0.0.0.0.0.0.0.0.1.1;
  randao_mixes = within.0.0.0.0.0.0.0.0.1.1;
  slashings = within.0.0.0.0.0.0.0.1.1;
  previous_epoch_attestations = within.0.0.0.0.0.0.1.1;
  current_epoch_attestations = within.0.0.0.0.0.1.1;
  justification_bits = within.0.0.0.0.1;
  previous_justified_checkpoint = within.0.0.0.1;
  current_justified_checkpoint = within.0.0.1;
  finalized_checkpoint = within.0.1;
}

-- what is read as a state is in range
pub read_is_in_range : (p : Preset) (bytes : List ℕ) (s : PlainState) → IsBytes bytes → (state_codec p).deserialize bytes ≡ Some s → IsInRange s
read_is_in_range p bytes s fits e = within_in_range p s ((state_lawful p).sound bytes s fits e).0
