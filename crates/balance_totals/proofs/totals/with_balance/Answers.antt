-- The balance is added where the sum fits.
use Rattle.std.proofs.Common.{rules}
use Rattle.balance_totals.proofs.totals.with_balance.Goals as goal

pub returns : goal.returns
returns c = search rules
