-- No more than the tree has room for.
use Rattle.std.proofs.Common.{arith}
use Rattle.validator_registry.proofs.RegistryTrees.{few_validators}
use Rattle.validator_registry.proofs.registry.Registry.len.Goals as goal

pub returns-clause-fits : goal.returns-clause-fits
returns-clause-fits c = omega (arith, few_validators _ _ _ c.self.invariant.tree_is, c.self.invariant.len_is)
