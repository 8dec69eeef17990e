-- Both stores and the book are at genesis.
use Rattle.std.proofs.Common.{refl}
use Rattle.beacon_node.proofs.Beginnings.{begins}
use Rattle.beacon_node.proofs.histories.open_histories.Goals as goal

pub returns-clause-opened : goal.returns-clause-opened
returns-clause-opened c = record {
  genesis_is = refl;
  none = c.in_ok-first.ensures.opened.none;
  first = c.in_ok-first.ensures.opened.is;
  second = c.in_ok-second.ensures.opened.is;
  book = c.in_ok-book.ensures.book;
  begins = begins c.args.config.now c.args.genesis c.requires c.in_ok-first.ensures.opened.none;
}
