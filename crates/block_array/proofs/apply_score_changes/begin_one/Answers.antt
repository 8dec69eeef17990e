use Rattle.std.proofs.Common.{false, None, set, ap}
use Rattle.block_array.specs.declared.best_descendant.BestDescendant.{BestDescendant}
use Rattle.block_array.proofs.apply_score_changes.begin_one.Goals as goal

pub returns-clause-set : goal.returns-clause-set
returns-clause-set g c =
    ap (λ w. set c.args.bests.now.items c.args.number (let fresh : BestDescendant = record { weight = w; has_child = false; child = None; descendant = 0 } in fresh)) c.own.ensures
