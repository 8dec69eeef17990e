use Rattle.std.proofs.Common.{◌≡◌, map, take}
use Rattle.forensics.proofs.attesters.list_attesters.Given as goal

abbrev pub invariant-loop-kept : goal.invariant-loop-kept
invariant-loop-kept l = map (λ x. x.items) l.lists.items ≡ map (λ k. k.attesters) (take l.kept-index l.attestations)
