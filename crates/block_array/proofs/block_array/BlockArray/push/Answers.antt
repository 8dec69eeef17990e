use Rattle.std.proofs.Common.{◌≡◌, ◌+◌, ◌++◌, ◌∷◌, [], None, false, List, length, vec_capacity, ap, ◌∙◌, arith}
use Rattle.block_array.specs.declared.best_descendant.BestDescendant.{BestDescendant}
use Rattle.block_array.specs.Calls.{with_node}
use Rattle.block_array.specs.inside.Held.{Held}
use Rattle.block_array.specs.inside.Counts.{Counts}
use Rattle.block_array.proofs.Whole.{kept_node}
use Rattle.block_array.proofs.block_array.BlockArray.push.Goals as goal

pub invariant_of-self-2 : goal.invariant_of-self-2
invariant_of-self-2 c =
    let o = c.in_ok-room_for_node.ensures in
    let n : c.self.inside.tally.nodes ≡ length c.self.inside.inputs.array.nodes = c.self.invariant.noted.nodes in
    let r : length c.self.inside.bests.items ≡ length c.self.inside.inputs.array.nodes = c.self.invariant.length_is in
    let same : c.room_for_node.new.bests.items ≡ c.self.inside.bests.items = c.in_ok-room_for_node.ensures.bests in
    let sl : length c.room_for_node.new.bests.items ≡ length c.self.inside.bests.items = ap length same in
    let rr = c.in_ok-room_for_node.ensures.bests_room in let tr = c.in_ok-room_for_node.ensures.tally_room in let rm = c.in_ok-room_for_node.ensures.bests_more in let tm = c.in_ok-room_for_node.ensures.tally_more in
    let pm = c.push_node.ensures.more in let cm = c.push_item.ensures.room in
    kept_node c.self.inside.inputs.array c.self.inside.tally c.push_node.new.self c.self.inside.bests.items c.push_item.new.items.items (vec_capacity c.self.inside.bests) _ c.self.inside.inputs.changed_room c.push.new.self.changed_room c.push.new.self.array c.args.parent c.args.slot c.args.root c.args.facts (record { weight = 0; has_child = false; child = None; descendant = 0 }) c.self.invariant
    (ap (λ (h : Held). h.array) c.push.ensures.pushed ∙ ap (λ (h : Held). with_node h.array c.args.parent c.args.slot c.args.root c.args.facts) c.in_ok-room_for_node.ensures.inputs)
    (c.push_node.ensures.pushed ∙ ap (λ (x : Counts). record x { nodes = x.nodes + 1; node_room = c.push_node.new.self.node_room }) c.in_ok-room_for_node.ensures.tally)
    (c.push_item.ensures.pushed ∙ ap (λ (rs : List BestDescendant). rs ++ record { weight = 0; has_child = false; child = None; descendant = 0 } ∷ []) same)
    (omega arith) (omega arith) (omega arith) (omega arith)
    (let e : c.push.new.self.changed_room ≡ c.self.inside.inputs.changed_room = ap (λ (h : Held). h.changed_room) c.push.ensures.pushed ∙ ap (λ (h : Held). h.changed_room) c.in_ok-room_for_node.ensures.inputs in omega arith)
