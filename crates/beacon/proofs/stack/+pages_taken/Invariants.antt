use Rattle.beacon.proofs.stack.+pages_taken.Given as goal

abbrev pub decreases-pages_taken : goal.decreases-pages_taken
decreases-pages_taken l = l.pages
