use Rattle.state_parts.proofs.validators.Validators.set.Given as goal

-- the ledger is the one of the blank
abbrev pub ghosts-set_validator : goal.ghosts-set_validator
ghosts-set_validator a = record { name = a.blank.name; parts = a.blank.parts }
