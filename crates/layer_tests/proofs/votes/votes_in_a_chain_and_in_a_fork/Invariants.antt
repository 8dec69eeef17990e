use Rattle.layer_tests.proofs.votes.votes_in_a_chain_and_in_a_fork.Given as goal

abbrev pub ghosts-rows_hold : goal.ghosts-rows_hold
ghosts-rows_hold g a = record { name = a.blank.name; parts = a.blank.parts }
