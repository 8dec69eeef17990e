use Rattle.std.proofs.Common.{◌-◌, ◌<◌, length, slice_index, refl, sym, ap, ◌∙◌, arith}
use Rattle.std.proofs.lemmas.List.FromFn.{fill_by_all}
use Rattle.committees.specs.Shuffling.{after_round, compute_shuffled_index, pivot_of, shuffled_list}
use Rattle.committees.proofs.Rounds.{pivot_below, place_below, place_next, place_first}
use Rattle.committees.proofs.list.shuffle_rounds.Goals as goal

pub loop-round-preserved : goal.loop-round-preserved
loop-round-preserved c =
    let seed = c.args.seed.now in
    let count = length c.args.list.now in
    let round = c.loop-round.round in
    record {
      long = c.shuffle_round.ensures.length ∙ c.loop-round.invariant.long;
      fits = omega arith;
      pivots = λ less more k same. c.turn_pivots.ensures k (omega arith);
      shuffled = λ index below.
          let place = compute_shuffled_index (round - 1) index count seed in
          let inside : place < length c.loop-round.list = omega (arith, c.loop-round.invariant.long, place_below seed count (round - 1) index below) in
          c.shuffle_round.ensures.shuffled place inside
          ∙ ap (λ n. slice_index c.loop-round.list (after_round seed (round - 1) n place)) c.loop-round.invariant.long
          ∙ ap (slice_index c.loop-round.list) (place_next seed count round index (omega arith))
          ∙ c.loop-round.invariant.shuffled index below;
    }

pub shuffle_round-requires-clause-pivot : goal.shuffle_round-requires-clause-pivot
shuffle_round-requires-clause-pivot c =
    c.turn_pivots.ensures (c.loop-round.round - 1) (omega arith)
    ∙ ap (pivot_of c.args.seed.now (c.loop-round.round - 1)) (c.len-count.ensures ∙ sym c.loop-round.invariant.long)

pub shuffle_round-requires-clause-below : goal.shuffle_round-requires-clause-below
shuffle_round-requires-clause-below c =
    omega (arith, c.turn_pivots.ensures (c.loop-round.round - 1) (omega arith), pivot_below c.args.seed.now (c.loop-round.round - 1) c.len-count.result (omega arith), c.len-count.ensures, c.loop-round.invariant.long)

-- no round moves anything where there is nothing
pub returns-then-count-eq0 : goal.returns-then-count-eq0
unfolding shuffled_list
returns-then-count-eq0 c =
    let old = c.args.list.now in
    fill_by_all (λ index. slice_index old (compute_shuffled_index c.args.rounds index (length old) c.args.seed.now)) old (length old) 0
    refl (λ index below. absurd (omega arith))

pub returns : goal.returns
unfolding shuffled_list
returns c =
    let seed = c.args.seed.now in
    let old = c.args.list.now in
    fill_by_all (λ index. slice_index old (compute_shuffled_index c.args.rounds index (length old) seed)) c.loop-round.list (length old) 0
    c.loop-round.invariant.long
    (λ index below. ap (slice_index c.loop-round.list) (sym (place_first seed (length old) c.loop-round.round index (omega arith))) ∙ c.loop-round.invariant.shuffled index below)
