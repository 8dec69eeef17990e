-- The list with the number set.
use Rattle.std.proofs.Common.{ℕ, ap, ◌∙◌, arith, length, ◌<◌}
use Rattle.std.specs.Prelude.{slice_set}
use Rattle.shared_tree.specs.Lists.{Limited}
use Rattle.shared_tree.specs.inside.Fours.{numbers_in}
use Rattle.tree_nodes.specs.inside.Puts.{put_at}
use Rattle.tree_nodes.proofs.Puts.{put_set}
use Rattle.shared_tree.proofs.Keeps.{seen_after}
use Rattle.shared_tree.proofs.Packs.{packed_put, numbers_put}
use Rattle.shared_tree.proofs.packed_list.PackedList.set.Goals as goal

pub invariant_of-self-2 : goal.invariant_of-self-2
invariant_of-self-2 g c =
    let view = ap (λ (l : Limited ℕ). length l.items) c.self.view_is in
    let within : c.args.i < c.self.inside.len = omega (arith, c.requires, c.self.invariant.len_is) in
    packed_put c.self.inside.tree c.put_number.new.tree c.self.inside.len c.self.inside.len c.args.i c.self.inside.limit c.args.value c.self.inside.root c.mix_step-self-inside.result c.top.result c.self.invariant c.in_ok-put_number.ensures.put (omega arith) (omega arith) c.self.invariant.fits c.in_ok-put_number.ensures.number c.top.ensures c.mix_step-self-inside.ensures.mixed

pub returns-clause-set : goal.returns-clause-set
returns-clause-set g c =
    let view = ap (λ (l : Limited ℕ). length l.items) c.self.view_is in
    let within : c.args.i < c.self.inside.len = omega (arith, c.requires, c.self.invariant.len_is) in
    seen_after c.args.self.now c.self.inside.limit (numbers_in c.self.inside.len c.self.inside.tree.1) (numbers_in c.self.inside.len c.put_number.new.tree.1) (slice_set c.args.self.now.items c.args.i c.args.value) c.self.view_is
    (numbers_put c.self.inside.tree c.put_number.new.tree c.self.inside.len c.self.inside.len c.args.i c.args.value c.self.invariant.len_is c.in_ok-put_number.ensures.put (omega arith) (omega arith)
    ∙ (ap (λ (l : Limited ℕ). put_at l.items c.args.i c.args.value) c.self.view_is ∙ put_set c.args.self.now.items c.args.i c.args.value c.requires))
