-- The changes so far are made in the chunks, and those that are left are behind them.
use Rattle.std.proofs.Common.{◌≡◌, ◌+◌, ◌/◌, ◌≤◌, length, take, drop}
use Rattle.std.specs.List.{AllByRecursion}
use Rattle.std.specs.Vec.Iter.{into_iter_items}
use Rattle.ssz_codec.specs.Basic.{uint64}
use Rattle.tree_nodes.specs.Changes.{AreChanges, changed}
use Rattle.shared_tree.specs.inside.Fours.{packed, numbers_in}
use Rattle.shared_tree.proofs.chunked.chunk_changes.Given as goal

abbrev pub invariant-numbers : goal.invariant-numbers
invariant-numbers l = record {
  rest : into_iter_items l.rest ≡ drop l.k l.fn.changes.items;
  made : changed l.tree.1 l.chunks.items ≡ packed (changed (numbers_in l.len l.tree.1) (take l.k l.fn.changes.items));
  places : AreChanges 0 ((l.low + 3) / 4) l.chunks.items;
  before : AreChanges 0 l.low (take l.k l.fn.changes.items);
  behind : AreChanges l.low l.len (drop l.k l.fn.changes.items);
  upto : l.low ≤ l.len;
  few : length l.chunks.items ≤ l.k;
  within : AllByRecursion uint64.Within (changed (numbers_in l.len l.tree.1) (take l.k l.fn.changes.items));
}
