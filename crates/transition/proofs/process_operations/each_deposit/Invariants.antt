use Rattle.std.proofs.Common.{◌≡◌, drop}
use Rattle.spec_blocks.specs.Checks.{each_of}
use Rattle.spec_blocks.specs.ProcessDeposit.{process_deposit}
use Rattle.block_operations.specs.Indexes.{Indexes}
use Rattle.transition.proofs.process_operations.each_deposit.Given as goal

abbrev pub invariant-loop-brought : goal.invariant-loop-brought
invariant-loop-brought l = record {
  indexes : Indexes l.keys l.state.validators;
  left : each_of process_deposit l.state (drop l.brought-index l.deposits) ≡ each_of process_deposit l.fn.state l.deposits;
}
