-- Layer by layer up to the two nodes below the root.
use Rattle.std.proofs.Common.{sym, ap, ◌∙◌}
use Rattle.hash_tree.specs.Merkle.{merkle_root}
use Rattle.hash_tree.proofs.Layers.{one_layer, two_nodes}
use Rattle.validator_registry.proofs.roots.root_of_sixteen.Goals as goal

pub returns : goal.returns
returns c =
    let four = one_layer 3 c.args.nodes.now c.told-nodes ∙ ap (merkle_root 3) (sym c.hash_layer.ensures) in
    let three = one_layer 2 c.hash_layer.new.out c.hash_layer.auto.out ∙ ap (merkle_root 2) (sym c.hash_layer-2.ensures) in
    let two = one_layer 1 c.hash_layer-2.new.out c.hash_layer-2.auto.out ∙ ap (merkle_root 1) (sym c.hash_layer-3.ensures) in
    let one = two_nodes c.hash_layer-3.new.out c.hash_layer-3.auto.out in
    sym (four ∙ (three ∙ (two ∙ (one ∙ sym c.hash_pair.ensures))))
