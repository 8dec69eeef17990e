use Rattle.layer_tests.proofs.trees.lists_have_the_roots_of_their_items.Given as goal

abbrev pub ghosts-lists_change : goal.ghosts-lists_change
ghosts-lists_change g a = record { name = a.blank.name; parts = a.blank.parts }
