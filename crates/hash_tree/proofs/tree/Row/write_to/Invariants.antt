-- The chunks written so far are the row's.
use Rattle.std.proofs.Common.{◌≡◌, ℕ, ◌<◌, [], length, get_or}
use Rattle.hash_tree.proofs.tree.Row.write_to.Given as goal

abbrev pub invariant-chunks : goal.invariant-chunks
invariant-chunks g l = record { room : length l.out ≡ length (g.Self.Row.chunks l.self); so_far : (k : ℕ) → k < l.i → get_or l.out k [] ≡ get_or (g.Self.Row.chunks l.self) k [] }
