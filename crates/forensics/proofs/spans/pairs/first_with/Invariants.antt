use Rattle.std.proofs.Common.{◌≡◌, drop}
use Rattle.std.specs.List.{find}
use Rattle.forensics.specs.Pairs.{are_slashable_at}
use Rattle.forensics.proofs.spans.pairs.first_with.Given as goal

abbrev pub invariant-loop-e : goal.invariant-loop-e
invariant-loop-e l = find (λ e. are_slashable_at l.contents e l.vote) (drop l.e-index l.earlier) ≡ find (λ e. are_slashable_at l.contents e l.vote) l.earlier
