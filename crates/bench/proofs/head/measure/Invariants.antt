-- The ledger of the steps is the one of the blank.
use Rattle.bench.proofs.head.measure.Given as goal

abbrev pub ghosts-measure_with : goal.ghosts-measure_with
ghosts-measure_with g a = record { name = a.blank.name; parts = a.blank.parts }
