use Rattle.state_parts.proofs.validators.Validators.push.Given as goal

-- the ledger is the one of the blank
abbrev pub ghosts-push_validator : goal.ghosts-push_validator
ghosts-push_validator a = record { name = a.blank.name; parts = a.blank.parts }
