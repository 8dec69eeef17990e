use Rattle.std.proofs.Common.{◌≡◌, ◌≤◌, length, vec_capacity}
use Rattle.block_array.specs.inside.Silenced.{indices_in}
use Rattle.block_array.proofs.validator_set.pad_words.Given as goal

abbrev pub invariant-loop-next : goal.invariant-loop-next
invariant-loop-next l = record {
  same : indices_in l.words.items ≡ indices_in l.fn.words.items;
  places : length l.words.items ≡ l.next;
  room : vec_capacity l.fn.words ≤ vec_capacity l.words;
}
