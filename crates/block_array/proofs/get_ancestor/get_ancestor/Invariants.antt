use Rattle.std.proofs.Common.{◌≡◌, ◌-◌, ◌<◌, length}
use Rattle.block_array.specs.GetAncestor.{ancestor_within, get_ancestor}
use Rattle.block_array.proofs.get_ancestor.get_ancestor.Given as goal

abbrev pub invariant-loop-step : goal.invariant-loop-step
invariant-loop-step l = record {
  walk : ancestor_within (length l.nodes - l.step) l.nodes l.number l.slot ≡ get_ancestor l.nodes l.fn.number l.slot;
  inside : l.number < length l.nodes;
}
