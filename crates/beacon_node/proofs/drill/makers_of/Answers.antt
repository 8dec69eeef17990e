-- The maker of a number's own chain, and those of its split.
use Rattle.beacon_node.proofs.Drilled.{split_of}
use Rattle.beacon_node.proofs.drill.makers_of.Goals as goal

pub returns : goal.returns
returns c = record {
  own = c.in_ok-own.ensures;
  first = split_of _ 0 _ _ c.in_ok-own.ensures c.in_ok-first.ensures;
  second = split_of _ 1 _ _ c.in_ok-own.ensures c.in_ok-second.ensures;
}
