use Rattle.std.proofs.Common.{◌≡◌, ℕ, ◌+◌, ◌<◌, List, length, take, get_or, set, sym, subst, ap, ◌∙◌, refl, arith}
use Rattle.std.proofs.Math.ListN.{length-set}
use Rattle.std.proofs.lemmas.List.{take_all}
use Rattle.block_array.specs.declared.tally.Counted.{Counted}
use Rattle.block_array.specs.inside.Held.{due}
use Rattle.block_array.specs.inside.Noted.{AreMade}
use Rattle.block_array.proofs.Noting.{same_step, validators_are, made_none, made_more, changed_below, due_changed, changed_deltas}
use Rattle.block_array.proofs.compute_deltas.compute_changed_deltas.Goals as goal

pub loop-i-init : goal.loop-i-init
loop-i-init g c = record {
  same = refl;
  length_is = refl;
  made = made_none c.args.inputs.now.array c.args.tally.now.validators c.changed-changed.result.now 0 refl;
  steps = omega arith;
}

pub loop-i-preserved : goal.loop-i-preserved
loop-i-preserved g c =
    let array = c.args.inputs.now.array in
    let changed : c.changed-changed.result.now ≡ c.args.inputs.now.array.changed_validators = c.changed-changed.ensures in
    let v : ℕ = get_or c.changed-changed.result.now c.loop-i.i 0 in
    let inside : c.loop-i.i < length c.args.inputs.now.array.changed_validators = (let t = c.loop-i-test.true in let l : length c.changed-changed.result.now ≡ length c.args.inputs.now.array.changed_validators = ap length changed in omega arith) in
    let below : get_or c.changed-changed.result.now c.loop-i.i 0 < length c.loop-i.tally.validators = (let b : get_or c.changed-changed.result.now c.loop-i.i 0 < length c.args.tally.now.validators = subst (λ xs. get_or xs c.loop-i.i 0 < length c.args.tally.now.validators) (sym changed) (changed_below c.args.inputs.now.array c.args.tally.now c.requires.noted c.loop-i.i inside) in let l = c.loop-i.invariant.length_is in omega arith) in
    let vs : c.compute_delta.new.tally.validators ≡ set c.loop-i.tally.validators (get_or c.changed-changed.result.now c.loop-i.i 0) (due c.args.inputs.now.array (get_or c.changed-changed.result.now c.loop-i.i 0)) = validators_are c.loop-i.tally c.compute_delta.new.tally _ c.compute_delta.ensures.counted in
    record {
      same = same_step c.args.tally.now c.loop-i.tally c.compute_delta.new.tally _ c.loop-i.invariant.same c.compute_delta.ensures.counted;
      length_is = ap length vs ∙ length-set c.loop-i.tally.validators _ _ ∙ c.loop-i.invariant.length_is;
      made = subst (λ (ws : List Counted). AreMade c.args.inputs.now.array c.args.tally.now.validators ws (take (c.loop-i.i + 1) c.changed-changed.result.now)) (sym vs) (made_more c.args.inputs.now.array c.args.tally.now.validators c.loop-i.tally.validators c.changed-changed.result.now c.loop-i.i c.loop-i-test.true below c.loop-i.invariant.made);
      steps = (let s = c.compute_delta.ensures.steps in let i = c.loop-i.invariant.steps in omega arith);
    }

pub returns-clause-made : goal.returns-clause-made
returns-clause-made g c =
    let all : take c.loop-i.i c.changed-changed.result.now ≡ c.args.inputs.now.array.changed_validators = take_all c.loop-i.i c.changed-changed.result.now (let t = c.loop-i-test.false in omega arith) ∙ c.changed-changed.ensures in
    due_changed c.args.inputs.now.array c.args.tally.now c.loop-i.tally.validators c.requires.noted c.requires.kept
    (subst (λ (changed : List ℕ). AreMade c.args.inputs.now.array c.args.tally.now.validators c.loop-i.tally.validators changed) all c.loop-i.invariant.made)

pub returns-clause-steps : goal.returns-clause-steps
returns-clause-steps g c =
    let d = changed_deltas c.args.inputs.now.array c.requires.kept in
    let s = c.loop-i.invariant.steps in
    let l : length c.changed-changed.result.now ≡ length c.args.inputs.now.array.changed_validators = ap length c.changed-changed.ensures in
    let t = c.loop-i-test.false in
    let a = c.loop-i.auto in
    omega arith
