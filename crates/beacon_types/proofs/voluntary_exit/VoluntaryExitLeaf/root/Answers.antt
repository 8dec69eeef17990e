use Rattle.beacon_types.proofs.voluntary_exit.VoluntaryExitLeaf.root.Goals as goal

-- an epoch and a validator
pub returns : goal.returns
returns c = cc
