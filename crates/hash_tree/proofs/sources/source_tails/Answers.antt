-- Two words of the message, zeros and the length, by computing them.
use Rattle.std.proofs.Common.{◌≡◌, ℕ, ◌<◌, replicate, slice_index}
use Rattle.std.proofs.lemmas.Simd.{get_or-replicate}
use Rattle.hash_tree.specs.inside.Lanes.{source_tail}
use Rattle.hash_tree.proofs.Lanes.{below_eight}
use Rattle.hash_tree.proofs.sources.source_tails.Goals as goal

pub returns : goal.returns
unfolding source_tail
returns c =
    let zero : (j : ℕ) → j < 8 → slice_index (replicate 8 0) j ≡ 0 = λ j less. get_or-replicate 8 j 0 0 less in
    below_eight _ c.source_heads.ensures c.page_ends.ensures zero zero zero zero zero (λ j less. get_or-replicate 8 j 296 0 less)
