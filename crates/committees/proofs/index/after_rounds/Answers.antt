-- One round more.
use Rattle.std.proofs.Common.{◌≡◌, ℕ, ◌+◌, List, ap, ◌∙◌, arith}
use Rattle.committees.specs.Shuffling.{after_round, compute_shuffled_index}
use Rattle.committees.proofs.Rounds.{pivot_below, place_after}
use Rattle.committees.proofs.index.after_rounds.Goals as goal

pub rounds-init : goal.rounds-init
rounds-init c = record {
  below = c.requires.in_range;
  place = λ start is.
      let none : c.args.first ≡ c.args.first + 0 = omega arith in
      is ∙ ap (λ (n : ℕ). compute_shuffled_index n start c.args.count c.args.seed.now) none;
}

pub after_round-place-requires-clause-below : goal.after_round-place-requires-clause-below
after_round-place-requires-clause-below c =
    let round = c.args.first + c.rounds.j in
    omega (arith, c.pivots_from-pivots.ensures.pivots c.rounds.j (omega arith), pivot_below c.args.seed.now round c.args.count (omega arith))

pub rounds-preserved : goal.rounds-preserved
rounds-preserved c =
    let seed = c.args.seed.now in
    let count = c.args.count in
    let round = c.args.first + c.rounds.j in
    record {
      below = c.after_round-place.ensures.in_range;
      place = λ start is.
          let next : round + 1 ≡ c.args.first + (c.rounds.j + 1) = omega arith in
          c.after_round-place.ensures.after
          ∙ ap (λ (s : List ℕ). after_round s round count c.rounds.place) c.bytes.ensures
          ∙ place_after seed count round start c.rounds.place (c.rounds.invariant.place start is)
          ∙ ap (λ (n : ℕ). compute_shuffled_index n start count seed) next;
    }
