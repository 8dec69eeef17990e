use Rattle.std.proofs.Common.{sym, ap, ◌∙◌}
use Rattle.hash_tree.specs.Merkle.{merkle_root}
use Rattle.hash_tree.proofs.Layers.{one_layer}
use Rattle.hash_tree.proofs.tree.root_of_sixty_four.Goals as goal

pub returns : goal.returns
returns c = c.root_of_thirty_two.ensures ∙ (ap (merkle_root 5) c.hash_layer.ensures ∙ sym (one_layer 5 c.args.nodes.now c.told-nodes))
