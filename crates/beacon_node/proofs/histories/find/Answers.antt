-- Both histories are closed with what their stores finalised, and the book is asked.
use Rattle.beacon_node.proofs.Found.{found_of, second_final}
use Rattle.beacon_node.proofs.histories.find.Goals as goal

pub close-requires-2-clause-is_final : goal.close-requires-2-clause-is_final
close-requires-2-clause-is_final c = rw c.finalized-2.ensures (second_final c.args.book.now _ _ _ c.close.ensures c.requires.second.finalized)

pub returns : goal.returns
returns c = found_of c.args.book.now _ _ _ _ _ _ _ c.finalized.ensures c.finalized-2.ensures c.close.ensures c.close-2.ensures c.in_ok-offences.ensures.exact c.in_ok-offences.ensures.carried c.judge.ensures.exact c.judge.ensures.convicts
