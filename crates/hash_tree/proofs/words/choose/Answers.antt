use Rattle.std.proofs.Common.{refl}
use Rattle.hash_tree.proofs.words.choose.Goals as goal

pub returns : goal.returns
returns g c j h = rw (c.xor.ensures j h, c.and.ensures j h, c.without.ensures j h) refl
