-- What is put into a half is put into the whole.
use Rattle.std.proofs.Common.{◌≡◌, ℕ, suc, ◌-◌, ◌^◌, List, length, ap, subst, ◌∙◌, arith, length-append}
use Rattle.std.specs.Prelude.{IfOk}
use Rattle.tree_nodes.specs.inside.Puts.{put_at}
use Rattle.tree_nodes.proofs.Pairs.{place_left, put_into_left, put_into_right, put_into_bare, both_made, pair_made, pair_counted, pair_counted_right}
use Rattle.tree_nodes.proofs.Many.{half_facts}
use Rattle.tree_nodes.proofs.put.+put.Goals as goal

pub returns-in_default-clause-put : goal.returns-in_default-clause-put
returns-in_default-clause-put g t c =
    let bare = c.in_default.ensures in
    subst (λ (v : ℕ × List _). IfOk c.sprout.result (λ new. new ≡ v)) (put_into_bare c.args.node.now c.args.depth c.args.at c.args.leaf c.requires.same bare.0 bare.1 c.requires.room) c.sprout.ensures.one

pub put-left-requires : goal.put-left-requires
put-left-requires g t c κs within =
    let facts = half_facts c.args.node.now c.in-Some.left.now c.in-Some.right.now c.args.depth c.half_width-half.result c.in-Some.ensures c.requires.same c.half_width-half.ensures.lower in
    let deep : c.args.depth ≡ suc c.in-Some.left.now.0 = c.requires.same ∙ ap (λ (v : ℕ × List _). v.0) c.in-Some.ensures.whole in
    let long = ap (λ (v : ℕ × List _). length v.1) c.in-Some.ensures.whole ∙ length-append c.in-Some.left.now.1 c.in-Some.right.now.1 in
    let width = facts.2 in
    let left_fits = facts.3 in
    let right_fits = facts.4 in
    let place = c.requires.place in
    let room = c.requires.room in
    let low = c.requires.low in
    let less = c.decreases in
    let in_left = c.if-at-half.true in
    let wide : 2 ^ (c.args.depth - 1) ≡ 2 ^ c.in-Some.left.now.0 = ap (λ (d : ℕ). 2 ^ d) facts.0 in
    let placed = place_left c.in-Some.left.now c.in-Some.right.now c.args.at c.in-Some.ensures.halves (omega arith) (omega (arith, ap (λ (v : ℕ × List _). length v.1) c.in-Some.ensures.whole)) in
    (omega arith, (within.0, (within.1, (facts.0, (omega arith, (omega arith, (omega arith, placed)))))))

pub put-right-requires : goal.put-right-requires
put-right-requires g t c κs within =
    let facts = half_facts c.args.node.now c.in-Some.left.now c.in-Some.right.now c.args.depth c.half_width-half.result c.in-Some.ensures c.requires.same c.half_width-half.ensures.lower in
    let deep : c.args.depth ≡ suc c.in-Some.left.now.0 = c.requires.same ∙ ap (λ (v : ℕ × List _). v.0) c.in-Some.ensures.whole in
    let long = ap (λ (v : ℕ × List _). length v.1) c.in-Some.ensures.whole ∙ length-append c.in-Some.left.now.1 c.in-Some.right.now.1 in
    let width = facts.2 in
    let left_fits = facts.3 in
    let right_fits = facts.4 in
    let place = c.requires.place in
    let room = c.requires.room in
    let low = c.requires.low in
    let less = c.decreases in
    let in_right = c.if-at-half.false in
    let whole = c.half_width-half.ensures.half in
    (omega arith, (within.0, (within.1, (facts.1, (omega arith, (omega arith, (omega arith, omega arith)))))))

pub pair_step-requires : goal.pair_step-requires
pair_step-requires g t c =
    both_made c.put-left.result c.share.result c.put-left.ensures.put c.share.ensures (λ new other is same. (put_into_left c.args.node.now c.in-Some.left.now c.in-Some.right.now new other c.args.depth c.half_width-half.result c.args.at c.args.leaf c.in-Some.ensures.halves c.in-Some.ensures.whole c.requires.same c.half_width-half.ensures.lower c.if-at-half.true c.requires.place is same).0)

pub returns-then-at-half-clause-put : goal.returns-then-at-half-clause-put
returns-then-at-half-clause-put g t c =
    pair_made c.put-left.result c.share.result c.pair_step.result (c.args.depth, put_at c.args.node.now.1 c.args.at c.args.leaf) c.put-left.ensures.put c.share.ensures c.pair_step.ensures.pair (λ new other is same. (put_into_left c.args.node.now c.in-Some.left.now c.in-Some.right.now new other c.args.depth c.half_width-half.result c.args.at c.args.leaf c.in-Some.ensures.halves c.in-Some.ensures.whole c.requires.same c.half_width-half.ensures.lower c.if-at-half.true c.requires.place is same).1)

pub pair_step-requires-2 : goal.pair_step-requires-2
pair_step-requires-2 g t c =
    both_made c.share-2.result c.put-right.result c.share-2.ensures c.put-right.ensures.put (λ other new same is. (put_into_right c.args.node.now c.in-Some.left.now c.in-Some.right.now new other c.args.depth c.half_width-half.result c.args.at c.args.leaf c.in-Some.ensures.halves c.in-Some.ensures.whole c.requires.same c.half_width-half.ensures.lower c.half_width-half.ensures.half c.if-at-half.false c.requires.room c.requires.place is same).0)

pub returns-clause-put : goal.returns-clause-put
returns-clause-put g t c =
    pair_made c.share-2.result c.put-right.result c.pair_step-2.result (c.args.depth, put_at c.args.node.now.1 c.args.at c.args.leaf) c.share-2.ensures c.put-right.ensures.put c.pair_step-2.ensures.pair (λ other new same is. (put_into_right c.args.node.now c.in-Some.left.now c.in-Some.right.now new other c.args.depth c.half_width-half.result c.args.at c.args.leaf c.in-Some.ensures.halves c.in-Some.ensures.whole c.requires.same c.half_width-half.ensures.lower c.half_width-half.ensures.half c.if-at-half.false c.requires.room c.requires.place is same).1)

pub returns-then-at-half-clause-steps : goal.returns-then-at-half-clause-steps
returns-then-at-half-clause-steps g t c =
    let deep : c.args.depth ≡ suc c.in-Some.left.now.0 = c.requires.same ∙ ap (λ (v : ℕ × List _). v.0) c.in-Some.ensures.whole in
    pair_counted c.put-left.result c.share.result c.pair_step.result c.put-left.ensures.steps c.pair_step.ensures.pair c.pair_step.ensures.steps (λ below above. omega arith)

pub returns-then-at-half-clause-at_most : goal.returns-then-at-half-clause-at_most
returns-then-at-half-clause-at_most g t c =
    let deep : c.args.depth ≡ suc c.in-Some.left.now.0 = c.requires.same ∙ ap (λ (v : ℕ × List _). v.0) c.in-Some.ensures.whole in
    omega (arith, c.put-left.ensures.at_most, c.pair_step.ensures.at_most)

pub returns-clause-steps : goal.returns-clause-steps
returns-clause-steps g t c =
    let deep : c.args.depth ≡ suc c.in-Some.left.now.0 = c.requires.same ∙ ap (λ (v : ℕ × List _). v.0) c.in-Some.ensures.whole in
    pair_counted_right c.share-2.result c.put-right.result c.pair_step-2.result c.put-right.ensures.steps c.pair_step-2.ensures.pair c.pair_step-2.ensures.steps (λ below above. omega arith)

pub returns-clause-at_most : goal.returns-clause-at_most
returns-clause-at_most g t c =
    let deep : c.args.depth ≡ suc c.in-Some.left.now.0 = c.requires.same ∙ ap (λ (v : ℕ × List _). v.0) c.in-Some.ensures.whole in
    omega (arith, c.put-right.ensures.at_most, c.pair_step-2.ensures.at_most)
