-- The ledger is that of the blank.
use Rattle.layer_tests.proofs.registries.registries_have_the_roots_of_their_validators.Given as goal

abbrev pub ghosts-registries_change : goal.ghosts-registries_change
ghosts-registries_change g a = record { name = a.blank.name; parts = a.blank.parts }
