-- A history promises it.
use Rattle.ffg_law.proofs.Histories.{history_promises}
use Rattle.ffg_law.proofs.laws.finals_are_linked.Goals as goal

pub returns : goal.returns
returns c increment weights history large is = (history_promises increment weights large history is).final
