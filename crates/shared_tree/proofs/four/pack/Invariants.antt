-- What is left to pack stands behind what is packed.
use Rattle.std.proofs.Common.{◌≡◌, ◌*◌, ◌++◌, drop}
use Rattle.shared_tree.specs.inside.Fours.{packed}
use Rattle.shared_tree.proofs.four.pack.Given as goal

abbrev pub invariant-fours : goal.invariant-fours
invariant-fours l = l.fours.items ++ packed (drop (4 * l.k) l.numbers) ≡ packed l.numbers
