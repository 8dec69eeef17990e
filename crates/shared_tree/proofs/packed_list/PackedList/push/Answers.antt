-- The list with one number more, where there is room.
use Rattle.std.proofs.Common.{refl, arith, ◌+◌}
use Rattle.shared_tree.specs.inside.Fours.{numbers_in}
use Rattle.shared_tree.proofs.Keeps.{push_value, push_full}
use Rattle.shared_tree.proofs.Packs.{packed_put, numbers_put}
use Rattle.shared_tree.proofs.packed_list.PackedList.push.Goals as goal

pub returns-then-self-clause-pushes : goal.returns-then-self-clause-pushes
returns-then-self-clause-pushes g c =
    (refl, push_full c.args.self.now c.self.inside.limit c.self.inside.len c.args.value (numbers_in c.self.inside.len c.self.inside.tree.1) c.self.view_is c.self.invariant.len_is c.if-self.true)

pub invariant_of-self-2 : goal.invariant_of-self-2
invariant_of-self-2 g c =
    let room = c.if-self.false in
    packed_put c.self.inside.tree c.put_number.new.tree c.self.inside.len (c.self.inside.len + 1) c.self.inside.len c.self.inside.limit c.args.value c.self.inside.root c.mix_step-self-inside.result c.top.result c.self.invariant c.in_ok-put_number.ensures.put (omega arith) (omega arith) (omega arith) c.in_ok-put_number.ensures.number c.top.ensures c.mix_step-self-inside.ensures.mixed

pub returns-clause-pushes : goal.returns-clause-pushes
returns-clause-pushes g c =
    push_value c.args.self.now c.self.inside.limit c.self.inside.len c.args.value (numbers_in c.self.inside.len c.self.inside.tree.1) (numbers_in (c.self.inside.len + 1) c.put_number.new.tree.1) c.self.view_is c.self.invariant.len_is c.if-self.false
    (numbers_put c.self.inside.tree c.put_number.new.tree c.self.inside.len (c.self.inside.len + 1) c.self.inside.len c.args.value c.self.invariant.len_is c.in_ok-put_number.ensures.put (omega arith) (omega arith))
