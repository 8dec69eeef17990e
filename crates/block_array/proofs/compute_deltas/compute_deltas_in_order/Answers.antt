use Rattle.std.proofs.Common.{◌≡◌, ◌+◌, ◌<◌, List, length, set, sym, subst, ap, ◌∙◌, arith}
use Rattle.std.proofs.Math.ListN.{length-set}
use Rattle.block_array.specs.declared.tally.Counted.{Counted}
use Rattle.block_array.specs.inside.Counts.{counted_of}
use Rattle.block_array.specs.inside.Held.{due}
use Rattle.block_array.specs.inside.Noted.{AreDue}
use Rattle.block_array.proofs.Noting.{same_step, validators_are, idle_due, delta_same, deltas_more, due_more, counted_other}
use Rattle.block_array.proofs.compute_deltas.compute_deltas_in_order.Goals as goal

pub compute_delta_if_due-requires-clause-current : goal.compute_delta_if_due-requires-clause-current
compute_delta_if_due-requires-clause-current g c = λ idle.
    let here : counted_of c.loop-validator.tally.validators c.loop-validator.validator ≡ counted_of c.args.tally.now.validators c.loop-validator.validator = c.loop-validator.invariant.rest c.loop-validator.validator (omega arith) in
    here ∙ idle_due c.args.inputs.now.array c.args.tally.now c.requires.noted c.loop-validator.validator (sym (delta_same c.args.inputs.now.array _ _ c.loop-validator.validator here) ∙ idle)

pub loop-validator-preserved : goal.loop-validator-preserved
loop-validator-preserved g c =
    let len : length c.loop-validator.tally.validators ≡ length c.args.tally.now.validators = c.loop-validator.invariant.length_is in
    let inside : c.loop-validator.validator < length c.loop-validator.tally.validators = (let t = c.loop-validator-test.true in let e = c.validators-validator-end.ensures.same in omega arith) in
    let here : counted_of c.loop-validator.tally.validators c.loop-validator.validator ≡ counted_of c.args.tally.now.validators c.loop-validator.validator = c.loop-validator.invariant.rest c.loop-validator.validator (omega arith) in
    let vs : c.compute_delta_if_due.new.tally.validators ≡ set c.loop-validator.tally.validators c.loop-validator.validator (due c.args.inputs.now.array c.loop-validator.validator) = validators_are c.loop-validator.tally c.compute_delta_if_due.new.tally _ c.compute_delta_if_due.ensures.counted in
    record {
      same = same_step c.args.tally.now c.loop-validator.tally c.compute_delta_if_due.new.tally _ c.loop-validator.invariant.same c.compute_delta_if_due.ensures.counted;
      length_is = ap length vs ∙ length-set c.loop-validator.tally.validators _ _ ∙ c.loop-validator.invariant.length_is;
      made = subst (λ (ws : List Counted). AreDue c.args.inputs.now.array ws (c.loop-validator.validator + 1)) (sym vs) (due_more c.args.inputs.now.array c.loop-validator.tally.validators c.loop-validator.validator inside c.loop-validator.invariant.made);
      rest = λ v h. subst (λ (ws : List Counted). counted_of ws v ≡ counted_of c.args.tally.now.validators v) (sym vs) (counted_other c.loop-validator.tally.validators c.loop-validator.validator v _ (λ e. omega arith) ∙ c.loop-validator.invariant.rest v (omega arith));
      steps =
          let s = c.compute_delta_if_due.ensures.steps in
          let i = c.loop-validator.invariant.steps in
          let m = deltas_more c.args.inputs.now.array c.loop-validator.tally.validators c.args.tally.now.validators c.loop-validator.validator here in
          omega arith;
    }
