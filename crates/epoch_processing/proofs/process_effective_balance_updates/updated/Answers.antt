-- What becomes of a validator is decided by its effective balance and its balance.
use Rattle.std.proofs.Common.{rules, ◌∙◌}
use Rattle.bc_words.specs.Outcome.{StopsExactly}
use Rattle.spec_epochs.specs.ProcessEffectiveBalanceUpdates.{updated_validator}
use Rattle.epoch_processing.proofs.Updating.{no_balance, stops_by, gives_by, stays_by}
use Rattle.epoch_processing.proofs.process_effective_balance_updates.updated.Goals as goal

pub returns-in_default : goal.returns-in_default
returns-in_default c = no_balance c.args.state.now c.args.index c.args.effective c.requires.effective (c.requires.balance ∙ c.in_default.is)

pub returns-in_err-effective_balance : goal.returns-in_err-effective_balance
returns-in_err-effective_balance c =
    let stop = c.in_err-effective_balance.field-0.0 in
    let stops : StopsExactly stop (updated_validator c.args.state.now c.args.index) =
    stops_by c.args.state.now c.args.index c.args.effective c.requires.effective c.preset.result.now c.in-Some.balance c.preset.ensures.same (c.requires.balance ∙ c.in-Some.is) stop c.in_err-effective_balance.ensures in
    search (rules, stops)

pub returns-then-effective_balance-effective : goal.returns-then-effective_balance-effective
returns-then-effective_balance-effective c = stays_by c.args.state.now c.args.index c.args.effective c.requires.effective c.preset.result.now c.in-Some.balance c.preset.ensures.same (c.requires.balance ∙ c.in-Some.is) c.in_ok-effective_balance.effective_balance c.in_ok-effective_balance.ensures c.if-effective_balance-effective.true

pub returns : goal.returns
returns c = gives_by c.args.state.now c.args.index c.args.effective c.requires.effective c.preset.result.now c.in-Some.balance c.preset.ensures.same (c.requires.balance ∙ c.in-Some.is) c.in_ok-effective_balance.effective_balance c.in_ok-effective_balance.ensures
