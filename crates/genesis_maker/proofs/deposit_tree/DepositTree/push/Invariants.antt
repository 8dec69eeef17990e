use Rattle.genesis_maker.proofs.deposit_tree.DepositTree.push.Given as goal

-- the ledger is the one of the blank
abbrev pub ghosts-push_leaf : goal.ghosts-push_leaf
ghosts-push_leaf a = record { name = a.blank.name; parts = a.blank.parts }
