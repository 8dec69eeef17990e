-- The ledger is that of the blank.
use Rattle.bench.proofs.tree_many.measure_setting.Given as goal

abbrev pub ghosts-time_set : goal.ghosts-time_set
ghosts-time_set g a = record { name = a.blank.name; parts = a.blank.parts }
