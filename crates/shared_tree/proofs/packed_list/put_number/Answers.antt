-- A number goes into its chunk, or begins one.
use Rattle.std.proofs.Common.{◌<◌, ◌≤◌, ◌/◌, List, length, sym, ap, subst, ◌∙◌, arith}
use Rattle.std.specs.Prelude.{slice_get}
use Rattle.bc_words.specs.Outcome.{Becomes}
use Rattle.shared_tree.specs.declared.four.Four.{Four}
use Rattle.shared_tree.specs.inside.Fours.{packed, numbers_in}
use Rattle.tree_nodes.specs.inside.Puts.{put_at}
use Rattle.shared_tree.proofs.Packing.{chunk_behind, put_among, put_behind}
use Rattle.shared_tree.proofs.packed_list.put_number.Goals as goal

pub put-requires-clause-place : goal.put-requires-clause-place
put-requires-clause-place g c =
    chunk_behind (numbers_in c.args.len c.args.tree.now.1) c.args.tree.now.1 c.args.at c.requires.packs (omega (arith, c.requires.len_is, c.requires.place))

pub returns-then-chunk-len-clause-put : goal.returns-then-chunk-len-clause-put
returns-then-chunk-len-clause-put g c =
    let full : length (packed (numbers_in c.args.len c.args.tree.now.1)) ≤ c.args.at / 4 = omega (arith, ap length c.requires.packs, c.if-chunk-len.true, c.len.ensures.len) in
    let put = ap (λ (fs : List Four). put_at fs (c.args.at / 4) c.first.result) c.requires.packs
    ∙ (ap (λ (f : Four). put_at (packed (numbers_in c.args.len c.args.tree.now.1)) (c.args.at / 4) f) c.first.ensures
    ∙ put_behind (numbers_in c.args.len c.args.tree.now.1) c.args.at c.args.number (omega (arith, c.requires.len_is, c.requires.place)) full) in
    subst (λ (fs : List Four). Becomes c.put.result c.args.tree.now c.put.new.self (c.args.tree.now.0, fs)) put c.put.ensures.put

pub returns-clause-put : goal.returns-clause-put
returns-clause-put g c =
    let room : c.args.at / 4 < length (packed (numbers_in c.args.len c.args.tree.now.1)) = omega (arith, ap length c.requires.packs, c.if-chunk-len.false, c.len.ensures.len) in
    let put = ap (λ (fs : List Four). put_at fs (c.args.at / 4) c.with-four.result) c.requires.packs
    ∙ put_among (numbers_in c.args.len c.args.tree.now.1) c.args.at c.args.number c.chunk_at.result c.with-four.result (omega (arith, c.requires.len_is, c.requires.place)) room (sym (ap (λ (fs : List Four). slice_get fs (c.args.at / 4)) c.requires.packs) ∙ c.chunk_at.ensures) c.with-four.ensures in
    subst (λ (fs : List Four). Becomes c.put-2.result c.args.tree.now c.put-2.new.self (c.args.tree.now.0, fs)) put c.put-2.ensures.put
