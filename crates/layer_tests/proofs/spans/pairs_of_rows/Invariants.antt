use Rattle.layer_tests.proofs.spans.pairs_of_rows.Given as goal

abbrev pub ghosts-rows_hold : goal.ghosts-rows_hold
ghosts-rows_hold g a = record { name = a.blank.name; parts = a.blank.parts }
