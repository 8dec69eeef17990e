-- The square of the root fits, and the next square does not.
use Rattle.std.proofs.Common.{subst, sym}
use Rattle.bc_words.specs.SquareRoot.{IsSquareRoot}
use Rattle.bc_words.proofs.Roots.{root_between, root_is_root}
use Rattle.bc_words.proofs.square_root.isqrt.Goals as goal

pub returns-clause-exact : goal.returns-clause-exact
returns-clause-exact c = root_between c.args.n _ c.isqrt.ensures.square_le c.isqrt.ensures.next_square_gt

pub returns-clause-greatest : goal.returns-clause-greatest
returns-clause-greatest c = subst (IsSquareRoot c.args.n) (sym (returns-clause-exact c)) (root_is_root c.args.n)
