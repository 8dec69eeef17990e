use Rattle.forensics.proofs.Histories.{few_first, few_second, clash_kept}
use Rattle.forensics.proofs.book.Book.clash.Goals as goal

pub clash_with-requires-clause-first : goal.clash_with-requires-clause-first
clash_with-requires-clause-first c = few_first c.self.inside.votes c.args.self.now c.self.inside.first c.self.inside.second c.self.view_is c.self.invariant c.requires

pub clash_with-requires-clause-second : goal.clash_with-requires-clause-second
clash_with-requires-clause-second c = few_second c.self.inside.votes c.args.self.now c.self.inside.first c.self.inside.second c.self.view_is c.self.invariant c.requires

pub returns : goal.returns
returns c = clash_kept c.self.inside.votes c.args.self.now c.self.inside.first c.self.inside.second c.args.root c.args.block.now _ c.self.view_is c.self.invariant c.clash_with.ensures
