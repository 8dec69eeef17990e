use Rattle.std.proofs.Common.{◌∙◌, sym, ap, rules}
use Rattle.forensics.specs.Books.{PlainBook, begun}
use Rattle.vectors.proofs.Ends.{begins, none_counted}
use Rattle.vectors.proofs.chain_book.ChainBook.new.Goals as goal

pub invariant_of-result : goal.invariant_of-result
unfolding begun
invariant_of-result c = (
  begins _ c.args.genesis.now _ _ _ (c.genesis_is_sound.ensures c.args.genesis.now (c.is_beginning.ensures (search rules)).checked) c.in_ok-book.ensures c.header_root.ensures c.in_ok-share-2.ensures,
  c.in_ok-share.ensures ∙ ap (λ (b : PlainBook). b.genesis) (sym c.in_ok-book.ensures),
  ap (λ (b : PlainBook). b.config) (sym c.in_ok-book.ensures),
  none_counted _ _ _ c.in_ok-book.ensures,
)
