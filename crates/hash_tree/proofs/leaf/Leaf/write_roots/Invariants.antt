-- The roots written so far are the values'.
use Rattle.std.proofs.Common.{◌≡◌, length, take, map}
use Rattle.hash_tree.proofs.leaf.Leaf.write_roots.Given as goal

abbrev pub invariant-each : goal.invariant-each
invariant-each g l = record { room : length l.out ≡ length l.values; so_far : take l.i l.out ≡ map g.Self.Leaf.root_of (take l.i l.values) }
