-- A seed, a round and a page's number have 37 bytes.
use Rattle.std.proofs.Common.{◌∷◌, slice_index, refl}
use Rattle.std.specs.Int.{w32, to_le_bytes}
use Rattle.hash_tree.specs.inside.Lanes.{source_tail}
use Rattle.hash_tree.proofs.sources.Seed.hash_eight.Goals as goal

pub returns : goal.returns
unfolding source_tail
returns c j less =
    let bytes = slice_index c.args.rounds.now j ∷ to_le_bytes w32 (slice_index c.args.pages.now j) in
    c.hash_scheduled.ensures j bytes less refl (λ k below. c.fill_sources.ensures j k less below)
