-- The ledger is that of the blank.
use Rattle.validator_registry.proofs.registry.Registry.from_vec.Given as goal

abbrev pub ghosts-made : goal.ghosts-made
ghosts-made a = record { name = a.blank.name; parts = a.blank.parts }
