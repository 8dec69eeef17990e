-- The nodes so far are a layer over all items, and the steps those of the layers below.
use Rattle.std.proofs.Common.{◌≡◌, ◌+◌, ◌-◌, ◌*◌, ◌<◌, ◌≤◌, ◌^◌, length}
use Rattle.tree_nodes.specs.inside.Layers.{held, IsLayer}
use Rattle.tree_nodes.proofs.layers.layered.Given as goal

abbrev pub invariant-layers : goal.invariant-layers
invariant-layers g l = record {
  upto : l.level ≤ l.depth;
  layer : IsLayer l.level l.nodes.items;
  all : held l.nodes.items ≡ l.fn.items.items;
  some : 0 < length l.nodes.items;
  few : length l.nodes.items ≤ length l.fn.items.items;
  narrow : length l.nodes.items ≤ 2 ^ (l.depth - l.level);
  work : l.steps ≤ l.fn.steps + length l.fn.items.items * l.level;
  left : l.steps + 2 ^ (l.depth - l.level) ≤ l.fn.steps + 2 ^ l.depth;
}
