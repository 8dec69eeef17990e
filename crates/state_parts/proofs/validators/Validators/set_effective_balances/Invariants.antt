use Rattle.state_parts.proofs.validators.Validators.set_effective_balances.Given as goal

-- the ledger is the one of the blank
abbrev pub ghosts-set_balances : goal.ghosts-set_balances
ghosts-set_balances a = record { name = a.blank.name; parts = a.blank.parts }
