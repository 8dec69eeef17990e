use Rattle.state_parts.proofs.numbers.Numbers.set.Given as goal

-- the ledger is the one of the blank
abbrev pub ghosts-set_number : goal.ghosts-set_number
ghosts-set_number a = record { name = a.blank.name; parts = a.blank.parts }
