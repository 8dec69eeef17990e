use Rattle.state_parts.proofs.numbers.Numbers.push.Given as goal

-- the ledger is the one of the blank
abbrev pub ghosts-push_number : goal.ghosts-push_number
ghosts-push_number a = record { name = a.blank.name; parts = a.blank.parts }
