-- The ledger of the steps is the one of the blank.
use Rattle.layer_tests.proofs.keeper.states.read_chain_holds.Given as goal

abbrev pub ghosts-chain_holds : goal.ghosts-chain_holds
ghosts-chain_holds a = record { name = a.blank.name; parts = a.blank.parts }
