-- A history keeps its promises.
use Rattle.ffg_law.proofs.Histories.{history_promises}
use Rattle.ffg_law.proofs.laws.chain_links.Goals as goal

pub returns-clause-chain : goal.returns-clause-chain
returns-clause-chain c increment weights history large is = (history_promises increment weights large history is).chain

pub returns-clause-thirds : goal.returns-clause-thirds
returns-clause-thirds c increment weights history large is = (history_promises increment weights large history is).thirds

pub returns-clause-linked : goal.returns-clause-linked
returns-clause-linked c increment weights history large is = (history_promises increment weights large history is).linked
