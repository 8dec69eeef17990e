use Rattle.state_parts.proofs.values.Values.set.Given as goal

-- the ledger is the one of the blank
abbrev pub ghosts-set_item : goal.ghosts-set_item
ghosts-set_item g a = record { name = a.blank.name; parts = a.blank.parts }
