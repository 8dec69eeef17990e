use Rattle.std.proofs.Common.{◌≡◌, suc, ◌+◌, ◌-◌, length, subst, ap, ◌∙◌, refl, arith}
use Rattle.std.specs.List.{All}
use Rattle.block_array.specs.inside.Counts.{all_of, IsBelow}
use Rattle.block_array.specs.inside.BestDescendants.{AreFresh, AreBest}
use Rattle.block_array.proofs.BestDescendants.{fresh_all, are_best_none, are_best_all}
use Rattle.block_array.proofs.apply_score_changes.apply_score_changes.Goals as goal

pub loop-done-init : goal.loop-done-init
unfolding AreFresh
loop-done-init g c =
    let same : length c.nodes-count.result.now ≡ length c.args.inputs.now.array.nodes = ap length c.nodes-count.ensures.same in
    let len : length c.begin.new.bests.items ≡ length c.args.inputs.now.array.nodes = c.begin.ensures.length_is ∙ c.requires.counted.nodes in
    let from : c.justified_node-first.result ≡ c.args.inputs.now.array.justified_node = c.justified_node-first.ensures in
    let fresh = fresh_all c.args.tally.now c.justified_node-first.result c.begin.new.bests.items (length c.begin.new.bests.items) (length c.args.inputs.now.array.nodes) (omega arith) c.begin.ensures.fresh in
    record {
      are_best = subst (λ n. AreBest c.args.inputs.now.array c.args.tally.now c.begin.new.bests.items n) (let e : length c.args.inputs.now.array.nodes ≡ length c.nodes-count.result.now - 0 = omega arith in e)
          (are_best_none c.args.inputs.now.array c.args.tally.now c.nodes-count.ensures.plain.tree (subst (λ n. All (IsBelow n) (all_of c.args.tally.now)) c.requires.counted.nodes c.bounds.ensures.below) c.begin.new.bests.items len (λ j f h. fresh j (omega arith) h));
      room = refl;
      steps = omega arith;
    }

pub apply_score_change-requires-clause-are_best : goal.apply_score_change-requires-clause-are_best
apply_score_change-requires-clause-are_best g c =
    let more = c.loop-done-test.true in
    let one : length c.nodes-count.result.now - c.loop-done.done ≡ suc (length c.nodes-count.result.now - 1 - c.loop-done.done) = omega arith in
    subst (λ n. AreBest c.args.inputs.now.array c.args.tally.now c.loop-done.bests.items n) one c.loop-done.invariant.are_best

pub loop-done-preserved : goal.loop-done-preserved
loop-done-preserved g c =
    let one : length c.nodes-count.result.now - 1 - c.loop-done.done ≡ length c.nodes-count.result.now - (c.loop-done.done + 1) = omega arith in
    let so_far = c.loop-done.invariant.steps in
    let visit = c.apply_score_change.ensures.steps in
    record {
      are_best = subst (λ n. AreBest c.args.inputs.now.array c.args.tally.now c.apply_score_change.new.bests.items n) one c.apply_score_change.ensures.are_best;
      room = c.apply_score_change.ensures.room ∙ c.loop-done.invariant.room;
      steps = omega arith;
    }

pub returns-clause-made : goal.returns-clause-made
returns-clause-made g c =
    let same : length c.nodes-count.result.now ≡ length c.args.inputs.now.array.nodes = ap length c.nodes-count.ensures.same in
    let from : c.justified_node-first.result ≡ c.args.inputs.now.array.justified_node = c.justified_node-first.ensures in
    let inside = c.nodes-count.ensures.plain.justified in
    let past = c.loop-done-test.false in
    let end = c.loop-done.auto.done-end in
    let low : length c.nodes-count.result.now - c.loop-done.done ≡ c.args.inputs.now.array.justified_node = omega arith in
    are_best_all c.args.inputs.now.array c.args.tally.now c.nodes-count.ensures.plain.tree (subst (λ n. All (IsBelow n) (all_of c.args.tally.now)) c.requires.counted.nodes c.bounds.ensures.below) c.loop-done.bests.items (length c.nodes-count.result.now - c.loop-done.done) low c.requires.counted c.loop-done.invariant.are_best
