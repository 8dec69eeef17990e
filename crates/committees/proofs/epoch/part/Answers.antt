use Rattle.std.proofs.Common.{◌+◌, length, arith}
use Rattle.committees.proofs.Parts.{first_monotone}
use Rattle.committees.proofs.epoch.part.Goals as goal

pub slice_bounds-result-count : goal.slice_bounds-result-count
slice_bounds-result-count c =
    omega (arith, first_monotone (length c.args.members.now) c.args.count (omega arith) c.args.k (c.args.k + 1) (omega arith))

pub slice_bounds-result-start : goal.slice_bounds-result-start
slice_bounds-result-start c =
    omega (arith, first_monotone (length c.args.members.now) c.args.count (omega arith) c.args.k (c.args.k + 1) (omega arith))
