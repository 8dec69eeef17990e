use Rattle.std.proofs.Common.{arith, w32, Fits, slice_index}
use Rattle.std.proofs.Math.Facts.{Fits-lt-pow}
use Rattle.std.proofs.lemmas.Simd.{Each1-get_or}
use Rattle.hash_tree.proofs.Rotations.{rotated_three}
use Rattle.hash_tree.proofs.words.big_sigma1.Goals as goal

pub returns : goal.returns
returns g c j h =
    rw (c.turn-3.ensures j h, c.xor-2.ensures j h, c.turn-2.ensures j h, c.xor.ensures j h, c.turn.ensures j h)
    (rotated_three 32 (slice_index c.args.x j) 6 5 14 (omega arith) (Fits-lt-pow (Each1-get_or (Fits w32) c.args.x j 0 (omega arith) c.fits-x.1)))
