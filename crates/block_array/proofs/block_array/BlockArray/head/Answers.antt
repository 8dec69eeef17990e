use Rattle.std.proofs.Common.{◌≡◌, ◌<◌, length, ap, ◌∙◌, arith}
use Rattle.block_array.specs.declared.best_descendant.BestDescendant.{BestDescendant}
use Rattle.block_array.specs.PlainArray.{PlainArray}
use Rattle.block_array.specs.GetHead.{get_head}
use Rattle.block_array.specs.inside.BestDescendants.{best_descendant_at}
use Rattle.block_array.proofs.Whole.{head_made}
use Rattle.block_array.proofs.block_array.BlockArray.head.Goals as goal

pub best_descendant_at-requires : goal.best_descendant_at-requires
best_descendant_at-requires c =
    let j : c.self.inside.inputs.array.justified_node < length c.self.inside.inputs.array.nodes = c.nodes-nodes.ensures.plain.justified in
    let e = c.justified_node-node.ensures in
    let d : length c.deref.result.now ≡ length c.self.inside.inputs.array.nodes = ap length c.deref.ensures.value ∙ c.self.invariant.length_is in
    omega arith

pub returns : goal.returns
returns c =
    ap (λ (r : BestDescendant). r.descendant) c.best_descendant_at.ensures
    ∙ ap (λ rs. (best_descendant_at rs c.justified_node-node.result).descendant) c.deref.ensures.value
    ∙ ap (λ n. (best_descendant_at c.self.inside.bests.items n).descendant) c.justified_node-node.ensures
    ∙ head_made c.self.inside.inputs.array c.self.inside.bests.items (c.self.invariant.unchanged (ap (λ (a : PlainArray). a.anything_changed) c.self.view_is ∙ c.requires)).made c.nodes-nodes.ensures.plain.justified
    ∙ ap get_head c.self.view_is
