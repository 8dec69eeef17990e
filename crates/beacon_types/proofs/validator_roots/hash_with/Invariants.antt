-- The pairs written so far are the nodes, each with the other behind it.
use Rattle.std.proofs.Common.{◌≡◌, [], ◌∷◌, length, take, map}
use Rattle.beacon_types.proofs.validator_roots.hash_with.Given as goal

abbrev pub invariant-pairs : goal.invariant-pairs
invariant-pairs l = record { room : length l.pairs ≡ 8; so_far : take l.i l.pairs ≡ map (λ node. node ∷ l.behind ∷ []) (take l.i l.nodes) }
