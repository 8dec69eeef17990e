-- A word of the message, zeros and the length, by computing them.
use Rattle.std.proofs.Common.{◌≡◌, ℕ, ◌<◌, replicate, slice_index}
use Rattle.std.proofs.lemmas.Simd.{get_or-replicate}
use Rattle.hash_tree.specs.inside.Lanes.{round_tail}
use Rattle.hash_tree.proofs.Lanes.{below_eight}
use Rattle.hash_tree.proofs.sources.round_tails.Goals as goal

pub returns : goal.returns
unfolding round_tail
returns c =
    let zero : (j : ℕ) → j < 8 → slice_index (replicate 8 0) j ≡ 0 = λ j less. get_or-replicate 8 j 0 0 less in
    below_eight _ c.round_heads.ensures zero zero zero zero zero zero (λ j less. get_or-replicate 8 j 264 0 less)
