use Rattle.std.proofs.Common.{◌∙◌}
use Rattle.fork_store.proofs.Keepers.{keeper_same}
use Rattle.fork_store.proofs.Preparing.{given_made}
use Rattle.fork_store.proofs.on_block.prepare.Goals as goal

pub prepare_best-requires : goal.prepare_best-requires
prepare_best-requires c = record { keeper = keeper_same c.args.store.now c.args.keeper.now c.balances_of.new.keeper c.requires.keeper c.in_ok-justified.ensures.same }

pub returns-clause-given : goal.returns-clause-given
returns-clause-given c =
    given_made c.args.store.now c.in_ok-justified.justified c.in_ok-best_justified.best_justified c.args.facts.justified c.args.facts.finalized c.in_ok-justified.ensures.balances c.in_ok-best_justified.ensures.best

pub returns-clause-same : goal.returns-clause-same
returns-clause-same c = c.in_ok-best_justified.ensures.same ∙ c.in_ok-justified.ensures.same

pub returns-in_err-best_justified-clause-same : goal.returns-in_err-best_justified-clause-same
returns-in_err-best_justified-clause-same c = c.in_err-best_justified.ensures.same ∙ c.in_ok-justified.ensures.same
