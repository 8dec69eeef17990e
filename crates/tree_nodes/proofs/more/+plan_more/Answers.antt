-- A tree with more items is its halves with more.
use Rattle.std.proofs.Common.{◌≡◌, ℕ, suc, ◌+◌, ◌-◌, ◌^◌, List, length, ap, ◌∙◌, arith, length-drop}
use Rattle.std.specs.Vec.Iter.{into_iter_items}
use Rattle.tree_nodes.proofs.Many.{always}
use Rattle.tree_nodes.proofs.Grown.{shares, left_least, more_halves, more_work, rest_after}
use Rattle.tree_nodes.proofs.Plans.{if_ok}
use Rattle.tree_nodes.proofs.more.+plan_more.Goals as goal

pub plan_more-requires : goal.plan_more-requires
plan_more-requires g t c κs within =
    let parts = shares c.args.node.now c.in_ok-left.left c.in_ok-left.right c.args.low c.args.depth c.args.len c.args.count c.half_width-half.result c.min-len_left.result c.min-first.result c.in_ok-left.ensures (omega (arith, c.if-depth-eq0.false)) c.half_width-half.ensures.half c.half_width-half.ensures.lower c.requires.len_is c.requires.room c.min-len_left.ensures c.min-first.ensures in
    let left_depth = c.in_ok-left.ensures.left_depth in
    let left_fits = c.in_ok-left.ensures.left_fits in
    let low = c.min.ensures in
    let same : c.min.result ≡ c.in_ok-left.left.0 = omega (arith, c.requires.same) in
    let wide : 2 ^ c.min.result ≡ 2 ^ c.in_ok-left.left.0 = ap (λ (d : ℕ). 2 ^ d) same in
    let width = parts.0 in
    let left_long = parts.1 in
    let room = parts.3 in
    let few = parts.5 in
    let deep = c.requires.deep in
    let some = c.requires.some in (
      omega arith,
      (
        within,
        (
          same,
          (
            omega arith,
            (
              omega arith,
              (
                left_long,
                (
                  omega arith,
                  (
                    omega arith,
                    (
                      omega arith,
                      (λ less. left_least c.args.low c.args.depth c.args.len c.args.count c.half_width-half.result c.min-len_left.result c.min-first.result (omega (arith, c.if-depth-eq0.false)) c.half_width-half.ensures.half width c.requires.fits c.min-len_left.ensures c.min-first.ensures c.requires.least (omega arith)),
                    ),
                  ),
                ),
              ),
            ),
          ),
        ),
      ),
    )

pub plan_more-requires-2 : goal.plan_more-requires-2
plan_more-requires-2 g t c κs within =
    let parts = shares c.args.node.now c.in_ok-left.left c.in_ok-left.right c.args.low c.args.depth c.args.len c.args.count c.half_width-half.result c.min-len_left.result c.min-first.result c.in_ok-left.ensures (omega (arith, c.if-depth-eq0.false)) c.half_width-half.ensures.half c.half_width-half.ensures.lower c.requires.len_is c.requires.room c.min-len_left.ensures c.min-first.ensures in
    let width = parts.0 in
    let right_long = parts.2 in
    let room = parts.4 in
    let few = parts.5 in
    let deep = c.requires.deep in
    let some = c.requires.some in
    let deep_right : c.args.depth - 1 ≡ c.in_ok-left.right.0 = omega (arith, c.in_ok-left.ensures.right_depth) in
    let left : length (into_iter_items c.plan_more.new.leaves) ≡ length (into_iter_items c.args.leaves.now) - c.min-first.result = ap length c.in_ok-front.ensures.rest ∙ length-drop c.min-first.result (into_iter_items c.args.leaves.now) in (
      omega arith,
      (
        within,
        (
          deep_right,
          (
            omega arith,
            (
              omega arith,
              (
                right_long,
                (
                  omega arith,
                  (
                    omega arith,
                    (
                      omega arith,
                      (λ less. absurd (omega arith)),
                    ),
                  ),
                ),
              ),
            ),
          ),
        ),
      ),
    )

pub pair-requires : goal.pair-requires
pair-requires g t c =
    let both = more_halves c.args.node.now c.in_ok-left.left c.in_ok-left.right c.in_ok-front.front.0 c.in_ok-back.back.0 (into_iter_items c.args.leaves.now) (into_iter_items c.plan_more.new.leaves) c.args.low c.args.depth c.args.len c.args.count c.half_width-half.result c.min-len_left.result c.min-first.result c.in_ok-left.ensures (omega (arith, c.if-depth-eq0.false)) c.half_width-half.ensures.half c.half_width-half.ensures.lower c.requires.len_is c.requires.room c.min-len_left.ensures c.min-first.ensures c.requires.some c.in_ok-front.ensures.rest c.in_ok-front.ensures.more c.in_ok-back.ensures.more in
    both.0

pub returns-clause-more : goal.returns-clause-more
returns-clause-more g t c =
    let both = more_halves c.args.node.now c.in_ok-left.left c.in_ok-left.right c.in_ok-front.front.0 c.in_ok-back.back.0 (into_iter_items c.args.leaves.now) (into_iter_items c.plan_more.new.leaves) c.args.low c.args.depth c.args.len c.args.count c.half_width-half.result c.min-len_left.result c.min-first.result c.in_ok-left.ensures (omega (arith, c.if-depth-eq0.false)) c.half_width-half.ensures.half c.half_width-half.ensures.lower c.requires.len_is c.requires.room c.min-len_left.ensures c.min-first.ensures c.requires.some c.in_ok-front.ensures.rest c.in_ok-front.ensures.more c.in_ok-back.ensures.more in
    if_ok c.pair.result (λ p is. ap (λ (q : (ℕ × List _) × ℕ). q.0) is ∙ both.1) c.pair.ensures

pub returns-clause-rest : goal.returns-clause-rest
returns-clause-rest g t c =
    always c.pair.result (rest_after (into_iter_items c.args.leaves.now) (into_iter_items c.plan_more.new.leaves) (into_iter_items c.plan_more-2.new.leaves) c.args.count c.min-first.result (omega (arith, c.min-first.ensures)) c.in_ok-front.ensures.rest c.in_ok-back.ensures.rest)

pub returns-clause-work : goal.returns-clause-work
returns-clause-work g t c =
    let work = more_work c.in_ok-front.front.1 c.in_ok-back.back.1 c.min-first.result c.args.count c.args.depth (omega (arith, c.if-depth-eq0.false)) (omega (arith, c.if-count-eq0.false)) (omega (arith, c.min-first.ensures)) c.in_ok-front.ensures.work c.in_ok-back.ensures.work in
    if_ok c.pair.result (λ p is. let one : p.1 ≡ suc (c.in_ok-front.front.1 + c.in_ok-back.back.1) = ap (λ (q : (ℕ × List _) × ℕ). q.1) is in omega arith) c.pair.ensures
