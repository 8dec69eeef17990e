use Rattle.std.proofs.Common.{◌≡◌, length, max, vec_capacity, sym, subst, ap, ◌∙◌, arith}
use Rattle.block_array.specs.PlainArray.{PlainArray}
use Rattle.block_array.specs.inside.Held.{Held}
use Rattle.block_array.specs.inside.Counts.{Counts}
use Rattle.block_array.specs.inside.Noted.{IsArray}
use Rattle.block_array.proofs.Whole.{kept_rooms, kept_spare}
use Rattle.block_array.proofs.block_array.BlockArray.reserve.Goals as goal

pub invariant_of-self-2 : goal.invariant_of-self-2
invariant_of-self-2 c =
    let told : c.grow_validators.new.inputs.array ≡ c.self.inside.inputs.array = ap (λ (h : Held). h.array) c.in_ok-grow_validators.ensures.inputs ∙ ap (λ (h : Held). h.array) c.in_ok-grow_nodes.ensures.inputs in
    let tally : c.grow_validators.new.tally ≡ record c.self.inside.tally { node_room = c.grow_nodes.new.tally.node_room; validator_room = c.grow_validators.new.tally.validator_room } = c.in_ok-grow_validators.ensures.tally ∙ ap (λ (x : Counts). record x { validator_room = c.grow_validators.new.tally.validator_room }) c.in_ok-grow_nodes.ensures.tally in
    let nr : c.grow_validators.new.tally.node_room ≡ c.grow_nodes.new.tally.node_room = ap (λ (x : Counts). x.node_room) tally in
    let old : c.grow_nodes.new.tally.validator_room ≡ c.self.inside.tally.validator_room = ap (λ (x : Counts). x.validator_room) c.in_ok-grow_nodes.ensures.tally in
    let n : c.self.inside.tally.nodes ≡ length c.self.inside.inputs.array.nodes = c.self.invariant.noted.nodes in
    let l : length c.self.inside.bests.items ≡ length c.self.inside.inputs.array.nodes = c.self.invariant.length_is in
    let tn = c.self.invariant.tally_nodes in let rn = c.self.invariant.best_nodes in let tv = c.self.invariant.tally_validators in
    let a = c.in_ok-grow_nodes.ensures.tally_more in let b = c.in_ok-grow_nodes.ensures.bests_more in let d = c.in_ok-grow_nodes.ensures.tally_room in let e = c.in_ok-grow_nodes.ensures.bests_room in
    let f = c.in_ok-grow_validators.ensures.tally_more in let h = c.in_ok-grow_validators.ensures.tally_room in
    let sn : c.spare_nodes.result ≡ c.self.inside.inputs.array.spare_nodes = c.spare_nodes.ensures.same ∙ ap (λ (a : PlainArray). a.spare_nodes) told in
    let sv : c.spare_validators.result ≡ c.self.inside.inputs.array.spare_validators = c.spare_validators.ensures.same ∙ ap (λ (a : PlainArray). a.spare_validators) told in
    let mn : c.max-nodes.result ≡ max c.spare_nodes.result 1 = c.max-nodes.ensures in
    let mv : c.max-voters.result ≡ max c.spare_validators.result c.args.validators = c.max-voters.ensures in
    let spared : c.set_spare.new.self.changed_room ≡ c.grow_validators.new.inputs.changed_room = ap (λ (h : Held). h.changed_room) c.set_spare.ensures in
    let grown : c.grow_nodes.new.inputs.changed_room ≡ c.self.inside.inputs.changed_room = ap (λ (h : Held). h.changed_room) c.in_ok-grow_nodes.ensures.inputs in
    let wider = c.in_ok-grow_validators.ensures.changed_more in
    subst (λ (t : PlainArray). IsArray t c.grow_validators.new.tally c.grow_nodes.new.bests.items (vec_capacity c.grow_nodes.new.bests) c.set_spare.new.self.changed_room)
    (sym (ap (λ (h : Held). h.array) c.set_spare.ensures ∙ ap (λ (t : PlainArray). record t { spare_nodes = c.max-nodes.result; spare_validators = c.max-voters.result }) told))
    (kept_spare c.self.inside.inputs.array c.grow_validators.new.tally c.grow_nodes.new.bests.items (vec_capacity c.grow_nodes.new.bests) c.set_spare.new.self.changed_room c.max-nodes.result c.max-voters.result
    (kept_rooms c.self.inside.inputs.array c.self.inside.tally c.grow_validators.new.tally c.self.inside.bests.items c.grow_nodes.new.bests.items (vec_capacity c.self.inside.bests) (vec_capacity c.grow_nodes.new.bests) c.self.inside.inputs.changed_room c.set_spare.new.self.changed_room c.self.invariant c.in_ok-grow_nodes.ensures.bests (ap (λ (x : Counts). x.validators) tally) (ap (λ (x : Counts). x.nodes) tally) (ap (λ (x : Counts). x.boost) tally) (omega arith) (omega arith) c.in_ok-grow_nodes.ensures.bests_more (omega arith))
    (omega arith) (omega arith) (omega arith))
