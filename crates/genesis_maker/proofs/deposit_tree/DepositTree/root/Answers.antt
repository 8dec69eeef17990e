use Rattle.std.proofs.Common.{◌∙◌, ap, ap₂, arith}
use Rattle.hash_tree.specs.Merkle.{mix_in_length, merkle_root}
use Rattle.genesis_maker.specs.inside.Layers.{node_in}
use Rattle.genesis_maker.proofs.Trees.{tree_root, layer_nodes}
use Rattle.genesis_maker.proofs.deposit_tree.DepositTree.root.Goals as goal

pub returns : goal.returns
returns c = c.mix_in_length.ensures ∙ ap₂ mix_in_length
    (c.node.ensures ∙ ap (λ nodes. node_in 32 nodes 0) (layer_nodes c.self.inside.layers 32 c.index-self-32.result (omega (arith, c.self.invariant.long))) ∙ tree_root c.self.inside.layers c.self.invariant ∙ ap (merkle_root 32) c.self.view_is) c.len.ensures.len
