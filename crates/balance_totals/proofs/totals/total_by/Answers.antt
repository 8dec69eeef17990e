-- The total is the greater one of the increment and the sum.
use Rattle.std.proofs.Common.{rules}
use Rattle.balance_totals.proofs.totals.total_by.Goals as goal

pub returns : goal.returns
returns c = search rules
