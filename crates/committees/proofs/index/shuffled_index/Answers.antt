use Rattle.std.proofs.Common.{ℕ, List, sym, ap, ◌∙◌, arith}
use Rattle.committees.specs.Shuffling.{compute_shuffled_index}
use Rattle.committees.proofs.index.shuffled_index.Goals as goal

pub loop-round-preserved : goal.loop-round-preserved
loop-round-preserved c =
    let loop = c.loop-round in
    let place = λ (round : ℕ) (seed : List ℕ). compute_shuffled_index round c.args.index c.args.count seed in
    let seed = c.new-prepared.ensures in
    record {
      fits = omega arith;
      eights = λ more. omega (arith, loop.invariant.eights (omega arith));
      place = c.after_rounds-place.ensures.after c.args.index (loop.invariant.place ∙ ap (place loop.round) (sym seed)) ∙ ap (place _) seed;
      below = c.after_rounds-place.ensures.in_range;
    }
