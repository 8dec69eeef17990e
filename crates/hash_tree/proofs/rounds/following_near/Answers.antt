use Rattle.std.proofs.Common.{◌≡◌, ℕ, ◌+◌, ◌-◌, slice_index, ap₂, ◌∙◌, arith}
use Rattle.sha2.specs.Sha256.{add32, schedule, small_sigma0}
use Rattle.hash_tree.specs.inside.Lanes.{source_block}
use Rattle.hash_tree.proofs.Expansion.{next_is, next_by_halves}
use Rattle.hash_tree.proofs.rounds.following_near.Goals as goal

pub returns-then-t-lt25 : goal.returns-then-t-lt25
returns-then-t-lt25 c j round page seed less near ahead before =
    c.following.ensures j less ∙ next_is c.args.w.now j c.args.t (source_block seed round page) (omega arith) (omega arith) before

pub returns : goal.returns
returns c j round page seed less near ahead before =
    let t = c.args.t in
    let w = schedule (source_block seed round page) 48 in
    let one : t - 25 + 10 ≡ t - 15 = omega arith in
    let two : t - 25 + 9 ≡ t - 16 = omega arith in
    c.following_sum.ensures j less
    ∙ next_by_halves (source_block seed round page) t _ _ _ (omega arith) (omega arith)
    (before (t - 2) (omega arith)) (before (t - 7) (omega arith))
    (ahead round page (t - 25) near (omega arith)
    ∙ ap₂ (λ (x y : ℕ). add32 (small_sigma0 (slice_index w x)) (slice_index w y)) one two)
