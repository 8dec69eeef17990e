use Rattle.std.proofs.Common.{List, rules, sym, subst}
use Rattle.beacon_types.specs.declared.validator.Validator.{Validator}
use Rattle.spec_blocks.specs.GetValidatorFromDeposit.{get_validator_from_deposit}
use Rattle.block_operations.specs.Indexes.{Indexes}
use Rattle.block_operations.proofs.Registry.{registry_grows}
use Rattle.block_operations.proofs.Joining.{joined}
use Rattle.block_operations.proofs.process_deposit.join.Goals as goal

-- the new validator has the deposit's key
pub returns-clause-keys : goal.returns-clause-keys
unfolding get_validator_from_deposit
returns-clause-keys c =
    subst (λ (vs : List Validator). Indexes c.add.new.self vs) (sym (joined _ c.in_ok-next.next c.args.deposit.now c.in_ok-next.ensures))
    (registry_grows c.args.keys.now c.add.new.self c.args.state.now.validators _ c.validators_len-index.result c.validators_len-index.ensures.len c.requires.indexes c.requires.new c.in_ok-add.ensures.ok)

-- the key isn't there before the validator
pub returns-in_err-next-clause-err : goal.returns-in_err-next-clause-err
returns-in_err-next-clause-err c = search rules
