use Rattle.std.proofs.Common.{arith, refl}
use Rattle.std.proofs.lemmas.Grind.{one_shifted}
use Rattle.hash_tree.proofs.depth.leaves_of.Goals as goal

pub returns : goal.returns
returns c = (one_shifted c.args.depth 18446744073709551615 refl (omega arith)).0
