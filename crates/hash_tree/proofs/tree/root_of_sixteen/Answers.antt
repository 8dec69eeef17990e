use Rattle.std.proofs.Common.{sym, ap, ◌∙◌}
use Rattle.hash_tree.specs.Merkle.{merkle_root}
use Rattle.hash_tree.proofs.Layers.{one_layer}
use Rattle.hash_tree.proofs.tree.root_of_sixteen.Goals as goal

pub returns : goal.returns
returns c = c.root_of_eight.ensures ∙ (ap (merkle_root 3) c.hash_layer.ensures ∙ sym (one_layer 3 c.args.nodes.now c.told-nodes))
