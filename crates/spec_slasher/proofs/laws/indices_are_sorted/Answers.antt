use Rattle.spec_slasher.proofs.Lists.{in_order_ascends}
use Rattle.spec_slasher.proofs.Sorted.{keeps, adds_none, only_one}
use Rattle.spec_slasher.proofs.laws.indices_are_sorted.Goals as goal

pub returns-clause-ascends : goal.returns-clause-ascends
returns-clause-ascends c = λ indices. in_order_ascends indices

pub returns-clause-keeps : goal.returns-clause-keeps
returns-clause-keeps c = λ indices index h. keeps indices index h

pub returns-clause-adds_none : goal.returns-clause-adds_none
returns-clause-adds_none c = λ indices index h. adds_none indices index h

pub returns-clause-only : goal.returns-clause-only
returns-clause-only c = λ indices sorted ascends all none. only_one indices sorted ascends all none
