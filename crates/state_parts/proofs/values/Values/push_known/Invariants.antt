use Rattle.state_parts.proofs.values.Values.push_known.Given as goal

-- the ledger is the one of the blank
abbrev pub ghosts-push_item : goal.ghosts-push_item
ghosts-push_item g a = record { name = a.blank.name; parts = a.blank.parts }
