use Rattle.std.proofs.Common.{ℕ, List, ◌*◌}
use Rattle.sha2.specs.Sha256.{IsRoundsAt, IsWindow, schedule}
use Rattle.hash_tree.proofs.single.compress.Given as goal

-- the rounds so far, of any block whose words these were
abbrev pub invariant-turns : goal.invariant-turns
invariant-turns l = (b : List ℕ) → IsWindow l.fn.w (schedule b 48) 16 → IsRoundsAt b l.h l.w l.v (16 * l.turn)
