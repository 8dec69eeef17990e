use Rattle.forensics.proofs.Histories.{are_kept_first}
use Rattle.forensics.proofs.book.Book.new.Goals as goal

pub invariant_of-result : goal.invariant_of-result
invariant_of-result c = are_kept_first c.args.config.now c.args.genesis.now _ _ _ c.in_ok-new.ensures c.in_ok-at_genesis.ensures c.in_ok-at_genesis-2.ensures
