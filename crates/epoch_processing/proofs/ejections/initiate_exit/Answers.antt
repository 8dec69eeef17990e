use Rattle.std.proofs.Common.{sym, subst}
use Rattle.spec_blocks.proofs.Done.{item_is}
use Rattle.epoch_processing.specs.inside.Exits.{IsExitQueue}
use Rattle.epoch_processing.proofs.Exits.{exited, behind}
use Rattle.epoch_processing.proofs.ejections.initiate_exit.Goals as goal

pub returns-clause-kept : goal.returns-clause-kept
returns-clause-kept c =
    let queue = c.kept_or_counted-queue.result in
    let here = item_is c.args.state.now.validators c.args.index c.in_ok-validator.validator c.in_ok-validator.ensures.exact in
    let next = exited c.args.state.now c.args.config.now queue c.args.index c.in_ok-validator.validator c.in_ok-exit_epoch.exit_epoch c.in_ok-withdrawable_epoch.withdrawable_epoch
    here c.if-validator.false c.in_ok-exit_epoch.ensures c.kept_or_counted-queue.ensures in
    subst (λ s. IsExitQueue s c.args.config.now c.with_exit.result) (sym c.in_ok-set_validators_at.ensures)
    (subst (λ q. IsExitQueue (behind c.args.state.now c.args.config.now queue c.args.index c.in_ok-validator.validator c.in_ok-exit_epoch.exit_epoch c.in_ok-withdrawable_epoch.withdrawable_epoch) c.args.config.now q) (sym c.with_exit.ensures) next)
