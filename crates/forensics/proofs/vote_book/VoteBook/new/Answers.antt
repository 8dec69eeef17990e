use Rattle.std.proofs.Common.{◌∙◌}
use Rattle.forensics.proofs.Books.{opens, seen_begun}
use Rattle.forensics.proofs.vote_book.VoteBook.new.Goals as goal

pub invariant_of-result : goal.invariant_of-result
invariant_of-result c = opens _ c.args.genesis.now _ _ _ _ c.requires c.begins.ensures c.in_ok-share.ensures c.new.ensures c.new-2.ensures c.in_ok-new.ensures.none (c.in_ok-new.ensures.count ∙ c.validators_len.ensures.len)

pub returns : goal.returns
returns c = seen_begun c.args.config.now c.args.genesis.now _ _ _ c.in_ok-share.ensures c.new.ensures c.new-2.ensures
