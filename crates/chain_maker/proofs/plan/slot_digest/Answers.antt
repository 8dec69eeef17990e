-- The bytes were taken one after another.
use Rattle.std.proofs.Common.{ℕ, List, [], ◌++◌, ◌∙◌, ap₂}
use Rattle.sha2.specs.Sha256.{sha256}
use Rattle.hash_tree.specs.Merkle.{hash, uint_to_bytes}
use Rattle.spec_drill.specs.Plan.{slot_digest}
use Rattle.chain_maker.proofs.plan.slot_digest.Goals as goal

pub returns : goal.returns
unfolding slot_digest hash uint_to_bytes
returns c =
    let number : List ℕ = c.to_le_bytes.result in
    let slot : List ℕ = c.to_le_bytes-2.result in
    c.finalize.ensures (number ++ slot) (c.update-2.ensures number (c.update.ensures [] c.new-hasher.ensures))
    ∙ ap₂ (λ (number slot : List ℕ). sha256 (number ++ slot)) c.to_le_bytes.ensures c.to_le_bytes-2.ensures
