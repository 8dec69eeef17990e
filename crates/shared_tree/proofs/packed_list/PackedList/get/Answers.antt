-- The number stands in its chunk.
use Rattle.std.proofs.Common.{◌/◌, sym, ap, ◌∙◌, arith}
use Rattle.std.specs.Prelude.{slice_get}
use Rattle.shared_tree.specs.Lists.{Limited}
use Rattle.shared_tree.specs.inside.Fours.{numbers_in}
use Rattle.shared_tree.proofs.Packing.{packed_get, chunk_within}
use Rattle.shared_tree.proofs.packed_list.PackedList.get.Goals as goal

pub chunk_at-requires : goal.chunk_at-requires
chunk_at-requires c =
    let within = c.if-i-self.false in
    chunk_within (numbers_in c.self.inside.len c.self.inside.tree.1) c.self.inside.tree.1 c.args.i c.self.invariant.packs (omega (arith, c.self.invariant.len_is))

pub returns : goal.returns
returns c =
    let within = c.if-i-self.false in
    let found = packed_get (numbers_in c.self.inside.len c.self.inside.tree.1) c.args.i c.chunk_at.result (omega (arith, c.self.invariant.len_is)) (sym (ap (λ fs. slice_get fs (c.args.i / 4)) c.self.invariant.packs) ∙ c.chunk_at.ensures) in
    sym c.get.ensures ∙ (found ∙ ap (λ (l : Limited _). slice_get l.items c.args.i) c.self.view_is)
