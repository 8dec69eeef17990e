-- What is read is the entry of the block to which the step goes.
use Rattle.std.proofs.Common.{arith, rules}
use Rattle.std.proofs.lemmas.Option.{slice_get_within}
use Rattle.state_keeper.proofs.Ancestors.{can_read, step_read, step_stands}
use Rattle.state_keeper.proofs.Made.{not_refused, not_limited}
use Rattle.state_keeper.proofs.remade.step_to.Goals as goal

pub bounds-entries-n : goal.bounds-entries-n
bounds-entries-n g c = slice_get_within c.args.entries.now c.args.n c.requires.entry c.requires.there

pub step-requires : goal.step-requires
step-requires g c = can_read (g.P.Stepper.can_step c.args.stepper.now) (g.P.Stepper.plain_step c.args.stepper.now) c.args.entries.now c.args.n c.args.state.now c.requires c.index-entries-n.result

pub returns-in-Ok-clause-state : goal.returns-in-Ok-clause-state
returns-in-Ok-clause-state g c = step_stands (g.P.Stepper.can_step c.args.stepper.now) (g.P.Stepper.plain_step c.args.stepper.now) c.args.entries.now c.args.n c.args.state.now c.requires c.index-entries-n.result c.in-Ok.next c.in-Ok.ensures

pub unreachable-requires : goal.unreachable-requires
unreachable-requires g c = not_refused c.in-Err-Refused.field-0 _ c.requires.entry.state.value (step_read (g.P.Stepper.can_step c.args.stepper.now) (g.P.Stepper.plain_step c.args.stepper.now) c.args.entries.now c.args.n c.args.state.now c.requires c.index-entries-n.result) c.in-Err-Refused.ensures c.in-Err-Refused.field-0-is

pub unreachable-requires-in-Err-Limit : goal.unreachable-requires-in-Err-Limit
unreachable-requires-in-Err-Limit g c = not_limited c.in-Err-Limit.field-0 _ c.requires.entry.state.value (step_read (g.P.Stepper.can_step c.args.stepper.now) (g.P.Stepper.plain_step c.args.stepper.now) c.args.entries.now c.args.n c.args.state.now c.requires c.index-entries-n.result) c.in-Err-Limit.ensures c.in-Err-Limit.field-0-is

pub offset_bounds-entries-n : goal.offset_bounds-entries-n
offset_bounds-entries-n g c = let less = slice_get_within c.args.entries.now c.args.n c.requires.entry c.requires.there in omega arith

pub returns-in-Ok-clause-steps : goal.returns-in-Ok-clause-steps
returns-in-Ok-clause-steps g c = search rules

pub returns-in-Err-NoMemory-clause-steps : goal.returns-in-Err-NoMemory-clause-steps
returns-in-Err-NoMemory-clause-steps g c = search rules
