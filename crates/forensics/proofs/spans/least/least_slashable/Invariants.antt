use Rattle.std.proofs.Common.{◌≡◌, ◌+◌, None, drop}
use Rattle.forensics.specs.Pairs.{are_slashable_at}
use Rattle.forensics.specs.Spans.{least_of}
use Rattle.forensics.proofs.spans.least.least_slashable.Given as goal

abbrev pub invariant-loop-earlier : goal.invariant-loop-earlier
invariant-loop-earlier g l = record {
  least : least_of (λ e. are_slashable_at l.contents e l.vote) l.least (drop l.earlier-index l.votes) ≡ least_of (λ e. are_slashable_at l.contents e l.vote) None l.votes;
  steps : l.steps ≡ l.fn.steps + l.earlier-index;
}
