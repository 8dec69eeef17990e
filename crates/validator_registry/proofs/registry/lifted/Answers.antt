-- One level more.
use Rattle.std.proofs.Common.{ℕ, ◌+◌, List, ◌++◌, refl, ap, ◌∙◌, arith}
use Rattle.hash_tree.specs.Merkle.{hash}
use Rattle.tree_nodes.proofs.Many.{lift_one}
use Rattle.validator_registry.proofs.registry.lifted.Goals as goal

pub levels-preserved : goal.levels-preserved
levels-preserved g c = record {
  from = omega (arith, c.levels.invariant.from);
  lifts = lift_one c.args.low c.levels.level (c.levels.level + 1) c.args.root c.levels.top c.hash_pair-top.result c.levels.invariant.from refl c.levels.invariant.lifts (c.hash_pair-top.ensures ∙ ap (λ (z : List ℕ). hash (c.levels.top ++ z)) c.zero_hash.ensures);
  steps = omega (arith, c.levels.invariant.steps, c.tick.ensures);
}
