-- process_voluntary_exit (beacon-chain.md, "Voluntary exits"). Signatures are off.
use Rattle.std.specs.Prelude.{leb, ◌==◌}
use Rattle.bc_words.specs.Outcome.{Outcome, ◌>>=◌, checked_add}
use Rattle.bc_words.specs.declared.refusal.Refusal.TheVariants.{ExInactive, ExLeaving, ExEarly, ExYoung}
use Rattle.bc_preset.specs.declared.configuration.ConfigValues.{ConfigValues}
use Rattle.beacon_types.specs.declared.signed_exit.SignedVoluntaryExit.{SignedVoluntaryExit}
use Rattle.spec_state.specs.declared.plain.PlainState.{PlainState}
use Rattle.spec_state.specs.Constants.{far_future_epoch}
use Rattle.spec_state.specs.Predicates.{is_active_validator}
use Rattle.spec_state.specs.Accessors.{get_current_epoch}
use Rattle.spec_blocks.specs.Checks.{check, item_at, ◌>>◌}
use Rattle.spec_blocks.specs.InitiateValidatorExit.{initiate_validator_exit}

-- process_voluntary_exit(state, signed_voluntary_exit)
unfoldable pub process_voluntary_exit : PlainState → SignedVoluntaryExit → ConfigValues → Outcome PlainState
process_voluntary_exit state signed_voluntary_exit config = do
  let exit = signed_voluntary_exit.message
  validator ← item_at state.validators exit.validator_index
  -- the validator is active
  check (is_active_validator validator (get_current_epoch state)) ExInactive
  -- it has not begun to leave
  check (validator.exit_epoch == far_future_epoch) ExLeaving
  -- the exit is valid from its epoch on
  check (leb exit.epoch (get_current_epoch state)) ExEarly
  -- the validator was active for long enough
  from ← checked_add validator.activation_epoch config.shard_committee_period
  check (leb from (get_current_epoch state)) ExYoung
  initiate_validator_exit state exit.validator_index config
