use Rattle.std.proofs.Common.{ℕ, ◌++◌, List, take}
use Rattle.forensics.specs.AllSpans.{AreSorted, AllStand, AreLow, votes_in}
use Rattle.forensics.specs.Room.{all_of, Grows}
use Rattle.forensics.proofs.spans.all.take_all.Given as goal

abbrev pub invariant-loop-validator : goal.invariant-loop-validator
invariant-loop-validator g l = record {
  sorted_all : AreSorted l.contents l.spans.items;
  grows : Grows l.fn.spans.items l.spans.items (all_of (take l.validator-index l.attesters));
  stand : (votes : ℕ → List ℕ) → AreLow l.vote votes → AllStand l.contents l.fn.spans.items votes → AllStand l.contents l.spans.items (λ w. votes w ++ votes_in w l.vote (take l.validator-index l.attesters));
}
