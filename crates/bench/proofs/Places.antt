-- A change of each place of a list.
use Rattle.std.proofs.Common.{◌≡◌, ℕ, ◌+◌, List, [], ◌∷◌, ◌++◌, arith}
use Rattle.tree_nodes.specs.Changes.{AreChanges}
use Rattle.tree_nodes.proofs.Many.{more_places}

pub every_place : {A : Type 0} (i : ℕ) (changes : List (ℕ × A)) (v : A) → AreChanges 0 i changes → AreChanges 0 (i + 1) (changes ++ (i, v) ∷ [])
every_place i changes v are = more_places 0 i changes v (omega arith) are
