use Rattle.std.proofs.Common.{ℕ, take}
use Rattle.std.specs.List.{AllByRecursion}
use Rattle.state_parts.proofs.values.Values.set_many.Given as goal

abbrev pub invariant-loop-change : goal.invariant-loop-change
invariant-loop-change g l = AllByRecursion (λ (change : ℕ × _). g.T.Ssz.codec.Within change.1) (take l.change-index l.change-items)

-- the ledger is the one of the blank
abbrev pub ghosts-set_items : goal.ghosts-set_items
ghosts-set_items g a = record { name = a.blank.name; parts = a.blank.parts }
