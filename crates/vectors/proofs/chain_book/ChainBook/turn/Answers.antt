use Rattle.vectors.proofs.Ends.{turns}
use Rattle.vectors.proofs.chain_book.ChainBook.turn.Goals as goal

pub invariant_of-self : goal.invariant_of-self
invariant_of-self c = (
  turns c.self.inside.book c.self.inside.genesis _ _ c.self.invariant.1 (c.self.invariant.0.order c.if-self-ne0.false) c.self.invariant.0.genesis_sound c.header_root-self-inside.ensures c.in_ok-state.ensures,
  c.self.invariant.1,
  c.self.invariant.2,
  c.self.invariant.3,
)
