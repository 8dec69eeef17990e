-- What eight lanes have behind the first rounds is what each block of the seed has there.
use Rattle.std.proofs.Common.{◌≢◌, ℕ, ◌+◌, ◌^◌, ◌<◌, List, ap, ap₂, ◌∙◌, arith}
use Rattle.sha2.specs.Sha256.{add32, initial_hash_256, rounds, schedule, small_sigma0}
use Rattle.hash_tree.specs.inside.Lanes.{source_block, source_tail}
use Rattle.hash_tree.proofs.SourceBlocks.{begun_alike, common_alike}
use Rattle.hash_tree.proofs.sources.Seed.new.Goals as goal

pub invariant_of-result : goal.invariant_of-result
invariant_of-result c =
    let seed = c.args.bytes.now in
    let less : 0 < 8 = omega arith in
    let filled = c.fill.ensures 0 (source_tail 0 0) less (λ i low. c.source_tails.ensures i low 0 less) in
    let same = λ (round page k : ℕ) (near : page < 2 ^ 24) (below : k < 23) (other : k ≢ 8).
    filled k (omega arith) ∙ common_alike seed 0 0 round page c.told-bytes (omega arith) near k below other in (
      λ tail.
          c.turned-begun.ensures
          ∙ c.eight_steps.ensures 0 (source_block seed 0 0) less filled
          ∙ ap (λ (h : List ℕ). rounds h (schedule (source_block seed 0 0) 48) 8) (c.initial.ensures 0 less)
          ∙ begun_alike seed (source_tail 0 0) tail initial_hash_256 c.told-bytes,
      (
        λ round page k near below other.
            c.first_words-common.ensures k below ∙ same round page k near below other,
        λ round page k near below.
            c.far_sums-sums.ensures k below
            ∙ ap₂ (λ (x y : ℕ). add32 (small_sigma0 x) y) (same round page (k + 10) near (omega arith) (omega arith)) (same round page (k + 9) near (omega arith) (omega arith)),
      ),
    )
