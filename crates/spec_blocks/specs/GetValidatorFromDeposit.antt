-- get_validator_from_deposit (beacon-chain.md, "Deposits").
use Rattle.std.specs.Prelude.{◌-◌, ◌%◌, min, false}
use Rattle.beacon_types.specs.declared.deposit.Deposit.{Deposit}
use Rattle.beacon_types.specs.declared.validator.Validator.{Validator}
use Rattle.spec_state.specs.declared.plain.PlainState.{PlainState}
use Rattle.spec_state.specs.Constants.{far_future_epoch}

-- get_validator_from_deposit(state, deposit): a validator whose effective balance is the amount in whole increments, up to
-- the greatest one, and who hasn't asked for anything yet
unfoldable pub get_validator_from_deposit : PlainState → Deposit → Validator
get_validator_from_deposit state deposit =
    let amount = deposit.content.amount in
    record {
      pubkey = deposit.content.pubkey;
      withdrawal_credentials = deposit.content.withdrawal_credentials;
      effective_balance = min (amount - amount % state.preset.effective_balance_increment) state.preset.max_effective_balance;
      slashed = false;
      activation_eligibility_epoch = far_future_epoch;
      activation_epoch = far_future_epoch;
      exit_epoch = far_future_epoch;
      withdrawable_epoch = far_future_epoch;
    }
