use Rattle.std.proofs.Common.{◌≡◌, ℕ, ◌≤◌, length, max}
use Rattle.block_array.specs.inside.Counts.{counted_of}
use Rattle.block_array.specs.inside.Noted.{count_changed}
use Rattle.block_array.proofs.note.pad.Given as goal

abbrev pub invariant-loop-place : goal.invariant-loop-place
invariant-loop-place l = record {
  same : l.tally ≡ record l.fn.tally { validators = l.tally.validators; validator_room = l.tally.validator_room };
  length_is : length l.tally.validators ≡ l.place;
  short : l.place ≤ max (length l.fn.tally.validators) l.places;
  counted : (v : ℕ) → counted_of l.tally.validators v ≡ counted_of l.fn.tally.validators v;
  many : count_changed l.tally.validators ≡ count_changed l.fn.tally.validators;
  room : l.fn.tally.validator_room ≤ l.tally.validator_room;
}
