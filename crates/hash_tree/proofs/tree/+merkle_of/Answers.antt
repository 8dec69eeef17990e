use Rattle.std.proofs.Common.{◌≡◌, ◌-◌, ◌++◌, length, take, drop, arith, ap, sym, ◌∙◌}
use Rattle.std.proofs.lemmas.List.{length-drop, length-take-le}
use Rattle.hash_tree.specs.Merkle.{hash, merkle_root}
use Rattle.hash_tree.proofs.Halves.{merkle_root-halves, merkle_root-short, merkle_root-at_zero, width_halves}
use Rattle.hash_tree.proofs.tree.+merkle_of.Goals as goal

pub returns-then-depth-eq0 : goal.returns-then-depth-eq0
returns-then-depth-eq0 g t c =
    c.first.ensures ∙ sym (merkle_root-at_zero c.args.depth (g.R.Row.chunks c.args.row.now) c.first.result c.if-depth-eq0.true (omega arith))

pub returns-then-count-half : goal.returns-then-count-half
returns-then-count-half g t c =
    let e = merkle_root-short c.args.depth (c.args.depth - 1) (g.R.Row.chunks c.args.row.now) (omega arith) (omega arith) in
    cc

pub merkle_of-requires-2 : goal.merkle_of-requires-2
merkle_of-requires-2 g t c κs within =
    let l : length (g.R.Row.chunks c.split-left.result.0) ≡ c.half_width-half.result = ap length {y = take c.half_width-half.result (g.R.Row.chunks c.args.row.now)} c.split-left.ensures.front ∙ length-take-le c.half_width-half.result (g.R.Row.chunks c.args.row.now) (omega arith) in
    (omega arith, (within, (omega arith, omega arith)))

pub merkle_of-requires-3 : goal.merkle_of-requires-3
merkle_of-requires-3 g t c κs within =
    let w = width_halves c.args.depth (c.args.depth - 1) (omega arith) in
    let l : length (g.R.Row.chunks c.split-left.result.1) ≡ length (g.R.Row.chunks c.args.row.now) - c.half_width-half.result = ap length {y = drop c.half_width-half.result (g.R.Row.chunks c.args.row.now)} c.split-left.ensures.back ∙ length-drop c.half_width-half.result (g.R.Row.chunks c.args.row.now) in
    (omega arith, (within, (omega arith, omega arith)))

pub returns : goal.returns
returns g t c =
    let lower = c.args.depth - 1 in
    let chunks = g.R.Row.chunks c.args.row.now in
    let left = g.R.Row.chunks c.split-left.result.0 in
    let right = g.R.Row.chunks c.split-left.result.1 in
    let front = c.split-left.ensures.front ∙ ap (λ half. take half chunks) c.half_width-half.ensures in
    let back = c.split-left.ensures.back ∙ ap (λ half. drop half chunks) c.half_width-half.ensures in
    c.hash_pair-2.ensures
    ∙ (ap (λ root. hash (root ++ c.merkle_of-3.result)) c.merkle_of-2.ensures
    ∙ (ap (λ root. hash (merkle_root lower left ++ root)) c.merkle_of-3.ensures
    ∙ sym (merkle_root-halves c.args.depth lower chunks left right (omega arith) front back)))
