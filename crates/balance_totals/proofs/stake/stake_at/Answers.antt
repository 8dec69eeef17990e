-- As many were read as there are validators, in their order.
use Rattle.std.proofs.Common.{ap, sym, ◌∙◌, slice_get, arith}
use Rattle.std.proofs.lemmas.Option.{slice_get-get_or}
use Rattle.balance_totals.proofs.Gathered.{within_stakes}
use Rattle.balance_totals.proofs.stake.stake_at.Goals as goal

pub bounds-stakes-index : goal.bounds-stakes-index
bounds-stakes-index c = within_stakes c.args.state.now c.args.stakes.now c.args.index c.requires.stakes c.requires.inside

pub offset_bounds-stakes-index : goal.offset_bounds-stakes-index
offset_bounds-stakes-index c = let less = within_stakes c.args.state.now c.args.stakes.now c.args.index c.requires.stakes c.requires.inside in omega arith

pub returns : goal.returns
returns c =
    ap (λ all. slice_get all c.args.index) (sym c.requires.stakes)
    ∙ slice_get-get_or c.args.stakes.now c.args.index _ (within_stakes c.args.state.now c.args.stakes.now c.args.index c.requires.stakes c.requires.inside)
