use Rattle.state_parts.proofs.values.replace_items.Given as goal

-- the ledger is the one of the blank
abbrev pub ghosts-set_items : goal.ghosts-set_items
ghosts-set_items g a = record { name = a.blank.name; parts = a.blank.parts }
