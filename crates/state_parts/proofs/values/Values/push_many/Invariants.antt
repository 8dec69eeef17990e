use Rattle.std.proofs.Common.{take}
use Rattle.std.specs.List.{AllByRecursion}
use Rattle.state_parts.proofs.values.Values.push_many.Given as goal

abbrev pub invariant-loop-leaf : goal.invariant-loop-leaf
invariant-loop-leaf g l = AllByRecursion g.T.Ssz.codec.Within (take l.leaf-index l.leaf-items)

-- the ledger is the one of the blank
abbrev pub ghosts-push_items : goal.ghosts-push_items
ghosts-push_items g a = record { name = a.blank.name; parts = a.blank.parts }
