-- The ledger is that of the blank.
use Rattle.tree_nodes.proofs.layers.build.Given as goal

abbrev pub ghosts-built_apart : goal.ghosts-built_apart
ghosts-built_apart g a = record { name = a.blank.name; parts = a.blank.parts }
