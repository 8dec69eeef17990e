-- A seed and a round have 33 bytes.
use Rattle.std.proofs.Common.{◌≡◌, ℕ, List, ◌∙◌, ◌∷◌, ◌++◌, [], slice_index, ap, refl}
use Rattle.sha2.specs.Sha256.{schedule, sha256}
use Rattle.hash_tree.specs.inside.Lanes.{round_tail}
use Rattle.hash_tree.proofs.sources.Seed.hash_rounds.Goals as goal

pub returns : goal.returns
unfolding round_tail
returns c j less =
    let seed = c.args.self.now in
    let view : c.self.inside.bytes ≡ seed = cc in
    let round = slice_index c.eight_rounds.result j in
    c.hash_scheduled.ensures j (round ∷ []) less refl
    (λ k below.
    c.fill.ensures j (round_tail round) less (λ i low. c.round_tails.ensures i low j less) k below
    ∙ ap (λ (s : List ℕ). slice_index (schedule (s ++ round_tail round) 48) k) view)
    ∙ ap (λ (round : ℕ). sha256 (seed ++ round ∷ [])) (c.eight_rounds.ensures j less)
