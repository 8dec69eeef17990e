use Rattle.std.proofs.Common.{sym, subst}
use Rattle.epoch_processing.specs.inside.Exits.{IsKept}
use Rattle.epoch_processing.proofs.Exits.{kept_waited}
use Rattle.epoch_processing.proofs.ejections.eligibility_and_ejection.Goals as goal

pub initiate_exit-requires : goal.initiate_exit-requires
initiate_exit-requires c =
    subst (λ s. IsKept s c.args.config.now c.args.kept.now) (sym c.in_ok-wait.ensures)
    (kept_waited c.args.state.now c.args.config.now c.args.kept.now c.args.index c.args.validator.now c.requires.validator c.requires.kept)

pub returns-else-ejected-clause-kept : goal.returns-else-ejected-clause-kept
returns-else-ejected-clause-kept c =
    subst (λ s. IsKept s c.args.config.now c.args.kept.now) (sym c.in_ok-wait.ensures)
    (kept_waited c.args.state.now c.args.config.now c.args.kept.now c.args.index c.args.validator.now c.requires.validator c.requires.kept)
