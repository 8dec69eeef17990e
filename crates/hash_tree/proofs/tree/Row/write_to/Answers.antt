-- All chunks are written.
use Rattle.std.proofs.Common.{arith}
use Rattle.hash_tree.proofs.Layers.{same_items}
use Rattle.hash_tree.proofs.tree.Row.write_to.Goals as goal

pub returns : goal.returns
returns g c = same_items c.chunks.out (g.Self.Row.chunks c.args.self.now) c.chunks.invariant.room (λ k less. c.chunks.invariant.so_far k (omega (arith, c.chunks.invariant.room)))
