-- The ledger of the steps is the one of the blank.
use Rattle.fork_store.proofs.kept_state.state_of.Given as goal

abbrev pub ghosts-counted : goal.ghosts-counted
ghosts-counted a = record { name = a.blank.name; parts = a.blank.parts }
