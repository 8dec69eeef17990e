use Rattle.std.proofs.Common.{◌≡◌, ◌+◌, ◌-◌, ◌%◌, ap, ◌∙◌, arith}
use Rattle.committees.specs.Shuffling.{pivot_of}
use Rattle.committees.proofs.eights.turn_pivots.Goals as goal

pub returns-then-round-rounds : goal.returns-then-round-rounds
returns-then-round-rounds c k same =
    let round : c.args.round - c.args.round % 8 + k % 8 ≡ k = omega arith in
    c.pivots_from.ensures.pivots (k % 8) (omega arith) ∙ ap (λ n. pivot_of c.args.seed.now n c.args.count) round
