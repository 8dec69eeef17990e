use Rattle.std.proofs.Common.{◌≡◌, ◌+◌, ◌≤◌, vec_capacity, subst, ap, arith}
use Rattle.block_array.specs.PlainArray.{PlainArray}
use Rattle.block_array.specs.Work.{steps_of}
use Rattle.block_array.specs.inside.Held.{Held}
use Rattle.block_array.proofs.Whole.{kept_made}
use Rattle.block_array.proofs.block_array.BlockArray.apply.Goals as goal

pub invariant_of-self : goal.invariant_of-self
invariant_of-self g c = kept_made c.self.inside.inputs.array c.self.inside.tally c.compute_deltas.new.tally c.self.inside.bests.items c.apply_score_changes.new.bests.items (vec_capacity c.self.inside.bests) _ _ c.set_made.new.self.changed_room c.set_made.new.self.array c.self.invariant (ap (λ (h : Held). h.array) c.set_made.ensures) c.compute_deltas.ensures.counted c.compute_deltas.ensures.room c.compute_deltas.ensures.length_is c.apply_score_changes.ensures.length_is c.apply_score_changes.ensures.made (let r = c.apply_score_changes.ensures.room in omega arith) (let e : c.set_made.new.self.changed_room ≡ c.self.inside.inputs.changed_room = ap (λ (h : Held). h.changed_room) c.set_made.ensures in omega arith)

pub returns-clause-steps : goal.returns-clause-steps
unfolding steps_of
returns-clause-steps g c = subst (λ (a : PlainArray). c.apply_score_changes.new.steps ≤ c.args.steps.now + steps_of a) c.self.view_is (let r = c.compute_deltas.ensures.steps in let s = c.apply_score_changes.ensures.steps in omega arith)
