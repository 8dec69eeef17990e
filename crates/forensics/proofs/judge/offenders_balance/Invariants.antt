use Rattle.std.proofs.Common.{◌≡◌, ◌+◌, drop}
use Rattle.ffg_law.specs.Weights.{weight_from, weight_of}
use Rattle.spec_forensics.specs.Steady.{genesis_weights}
use Rattle.forensics.specs.Carried.{has_offence}
use Rattle.forensics.proofs.Offenders.{weights_left}
use Rattle.forensics.proofs.judge.offenders_balance.Given as goal

abbrev pub invariant-loop-index : goal.invariant-loop-index
invariant-loop-index l = record {
  at : l.index-iterator.iter ≡ drop l.index-iterator.count l.genesis.validators;
  sum : l.balance + weight_from (has_offence l.votes) l.index-iterator.count (weights_left l.index-iterator.iter) ≡ weight_of (genesis_weights l.genesis) (has_offence l.votes);
}
