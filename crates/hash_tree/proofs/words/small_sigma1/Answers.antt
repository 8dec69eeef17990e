use Rattle.std.proofs.Common.{refl}
use Rattle.hash_tree.proofs.words.small_sigma1.Goals as goal

pub returns : goal.returns
returns g c j h = rw (c.xor-2.ensures j h, c.xor.ensures j h, c.turn.ensures j h, c.turn-2.ensures j h, c.shift.ensures j h) refl
