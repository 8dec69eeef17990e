-- The bar is the rank that stands behind as many as the churn limit.
use Rattle.std.proofs.Common.{◌∙◌, sym, ap, subst, slice_get}
use Rattle.epoch_processing.specs.inside.Ranks.{IsBar}
use Rattle.epoch_processing.proofs.Ranks.{bar_of}
use Rattle.epoch_processing.proofs.activations.bar.Goals as goal

pub returns : goal.returns
returns c =
    let state = c.args.state.now in
    let queue = c.args.queue.now in
    let read = c.rank_at.ensures ∙ ap (slice_get queue) c.churn_limit.ensures in
    subst (IsBar state c.args.config.now) (sym read) (bar_of state c.args.config.now queue c.requires)
