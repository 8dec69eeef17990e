use Rattle.state_parts.proofs.numbers.Numbers.set_many.Given as goal

-- the ledger is the one of the blank
abbrev pub ghosts-set_numbers : goal.ghosts-set_numbers
ghosts-set_numbers a = record { name = a.blank.name; parts = a.blank.parts }
