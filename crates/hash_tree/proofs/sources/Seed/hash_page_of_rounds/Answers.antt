use Rattle.std.proofs.Common.{ℕ, ◌∙◌, ◌∷◌, ◌++◌, ap₂}
use Rattle.std.proofs.lemmas.List.{get_or-replicate}
use Rattle.std.specs.Int.{w32, to_le_bytes}
use Rattle.sha2.specs.Sha256.{sha256}
use Rattle.hash_tree.proofs.sources.Seed.hash_page_of_rounds.Goals as goal

pub returns : goal.returns
returns c j less =
    c.hash_eight.ensures j less
    ∙ ap₂ (λ (round page : ℕ). sha256 (c.args.self.now ++ round ∷ to_le_bytes w32 page)) (c.eight_rounds-rounds.ensures j less) (get_or-replicate 8 j c.args.page 0 less)
