-- One pivot more.
use Rattle.std.proofs.Common.{◌≡◌, ◌≢◌, ◌+◌, ◌<◌, length, ◌∙◌, arith, inl, inr}
use Rattle.std.proofs.lemmas.Bool.{cases_lt}
use Rattle.std.proofs.lemmas.List.{get_or-set_same, get_or-set_other, length-set}
use Rattle.hash_tree.specs.Merkle.{hash}
use Rattle.committees.specs.Shuffling.{pivot_of}
use Rattle.committees.proofs.eights.pivots_from.Goals as goal

pub pivots-preserved : goal.pivots-preserved
unfolding hash
pivots-preserved c =
    let j = c.pivots.j in
    let less : j < 8 = c.pivots-test.true in
    let here : c.pivot_in.result ≡ pivot_of c.args.seed.now (c.args.first + j) c.args.count =
    c.pivot_in.ensures.pivot c.args.seed.now (c.args.first + j) (c.hash_rounds.ensures j less) in
    record {
      room = length-set c.pivots.pivots j c.pivot_in.result ∙ c.pivots.invariant.room;
      so_far = λ i below. elim (cases_lt i j) [
        | inl before ↦
            let other : i ≢ j = omega arith in
            get_or-set_other c.pivots.pivots j i c.pivot_in.result 0 other ∙ c.pivots.invariant.so_far i before
        | inr last ↦
            let same : i ≡ j = omega arith in
            let room : j < length c.pivots.pivots = omega (arith, c.pivots.invariant.room) in
            rw same (get_or-set_same c.pivots.pivots j c.pivot_in.result 0 room ∙ here)
      ];
    }
