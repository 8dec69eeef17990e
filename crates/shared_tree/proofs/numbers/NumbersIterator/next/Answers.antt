-- The number that is given is the first of those that are left.
use Rattle.std.proofs.Common.{rules}
use Rattle.shared_tree.proofs.numbers.NumbersIterator.next.Goals as goal

pub returns-clause-steps : goal.returns-clause-steps
returns-clause-steps c = search rules
