use Rattle.std.proofs.Common.{◌≤◌, subst}
use Rattle.beacon_state.proofs.FirstFault.{fault_found, fault_later, fault_nowhere}
use Rattle.beacon_state.proofs.genesis.validators_fault.Goals as goal

pub returns-in-Some : goal.returns-in-Some
returns-in-Some c = fault_found c.args.most c.loop-i.i c.args.validators.now c.in-Some.wrong _ c.in-Some.ensures c.loop-i.invariant

pub loop-i-preserved : goal.loop-i-preserved
loop-i-preserved c = fault_later c.args.most c.loop-i.i c.args.validators.now _ c.in_default.ensures c.loop-i.invariant

pub returns : goal.returns
returns c = fault_nowhere c.args.most c.loop-i.i c.args.validators.now _ (subst (λ n. n ≤ c.loop-i.i) c.len-i-end.ensures.len c.loop-i-test.false) c.loop-i.invariant
