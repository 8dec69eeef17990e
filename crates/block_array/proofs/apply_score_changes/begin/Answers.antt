use Rattle.std.proofs.Common.{◌+◌, List, length, sym, subst, ap, ◌∙◌, arith}
use Rattle.std.proofs.Math.ListN.{length-set}
use Rattle.block_array.specs.declared.best_descendant.BestDescendant.{BestDescendant}
use Rattle.block_array.specs.inside.BestDescendants.{AreFresh}
use Rattle.block_array.proofs.BestDescendants.{fresh_more}
use Rattle.block_array.proofs.apply_score_changes.begin.Goals as goal

pub loop-number-preserved : goal.loop-number-preserved
loop-number-preserved g c = record {
  length_is = ap length c.begin_one.ensures.set ∙ length-set c.loop-number.bests.items c.loop-number.number _ ∙ c.loop-number.invariant.length_is;
  fresh = subst (λ (rs : List BestDescendant). AreFresh c.args.tally.now c.args.first rs (c.loop-number.number + 1)) (sym c.begin_one.ensures.set) (fresh_more c.args.tally.now c.args.first c.loop-number.bests.items c.loop-number.number (let l = c.loop-number.invariant.length_is in let t = c.loop-number-test.true in omega (arith, c.len-number-end.ensures)) c.loop-number.invariant.fresh);
  room = c.begin_one.ensures.room ∙ c.loop-number.invariant.room;
  steps = (let s = c.begin_one.ensures.steps in let i = c.loop-number.invariant.steps in omega arith);
}
