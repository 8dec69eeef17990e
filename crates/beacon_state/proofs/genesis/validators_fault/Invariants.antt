use Rattle.std.proofs.Common.{◌≡◌, drop}
use Rattle.spec_state.specs.Genesis.{validators_fault}
use Rattle.beacon_state.proofs.genesis.validators_fault.Given as goal

-- no validator before this one is wrong
abbrev pub invariant-loop-i : goal.invariant-loop-i
invariant-loop-i l = validators_fault l.most l.i (drop l.i l.validators) ≡ validators_fault l.most 0 l.validators
