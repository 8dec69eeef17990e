-- The ledger is that of the blank.
use Rattle.bench.proofs.tree_many.measure_setting_numbers.Given as goal

abbrev pub ghosts-time_set_numbers : goal.ghosts-time_set_numbers
ghosts-time_set_numbers g a = record { name = a.blank.name; parts = a.blank.parts }
