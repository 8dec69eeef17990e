use Rattle.std.proofs.Common.{◌+◌, length, slice_index, inl, inr, ap, ◌∙◌, arith}
use Rattle.std.proofs.lemmas.Bool.{cases_lt}
use Rattle.committees.specs.Shuffling.{after_round}
use Rattle.committees.proofs.Rounds.{after_above}
use Rattle.committees.proofs.list.shuffle_round.Goals as goal

pub returns-clause-shuffled : goal.returns-clause-shuffled
returns-clause-shuffled c = λ place below.
    let count = length c.args.list.now in
    let low = c.swap_mirror_images in
    let high = c.swap_mirror_images-2 in
    elim (cases_lt place (c.args.pivot + 1)) [
      | inl less ↦ high.ensures.before place less ∙ low.ensures.inside place (omega arith) less
      | inr more ↦
          let after = after_round c.args.seed.now c.args.round count place in
          let above = after_above c.args.seed.now c.args.round count place (omega arith) below in
          high.ensures.inside place more (omega arith)
          ∙ ap (λ count. slice_index low.new.list (after_round c.args.seed.now c.args.round count place)) low.ensures.length
          ∙ low.ensures.behind after (omega arith)
    ]
