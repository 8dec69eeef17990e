use Rattle.forensics.proofs.spans.carried.CarriedVotes.add.Given as goal

abbrev pub ghosts-take_votes : goal.ghosts-take_votes
ghosts-take_votes a = record { name = a.blank.name; parts = a.blank.parts }
