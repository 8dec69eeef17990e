-- The nodes below the root.
use Rattle.std.proofs.Common.{◌∙◌, ℕ, List, ◌++◌, ap, ap₂}
use Rattle.hash_tree.specs.Merkle.{hash, zero_root}
use Rattle.beacon_types.specs.inside.AttestationChunks.{vote_root, bits_root, content_root, signature_root}
use Rattle.beacon_types.proofs.AttestationLanes.{root_by_halves}
use Rattle.beacon_types.proofs.rooted_attestation.RootedAttestation.of.Goals as goal

pub with_roots-requires-clause-vote : goal.with_roots-requires-clause-vote
unfolding vote_root bits_root content_root
with_roots-requires-clause-vote c = c.hash_pair-vote.ensures ∙ ap₂ (λ (x y : List ℕ). hash (x ++ y)) c.root.ensures c.root-2.ensures

pub with_roots-requires-clause-root : goal.with_roots-requires-clause-root
unfolding vote_root bits_root content_root signature_root
with_roots-requires-clause-root c =
    c.hash_pair-root.ensures
    ∙ (ap₂ (λ (x y : List ℕ). hash (x ++ y)) (c.hash_pair-vote.ensures ∙ ap₂ (λ (x y : List ℕ). hash (x ++ y)) c.root.ensures c.root-2.ensures)
    (c.hash_pair.ensures ∙ ap (λ (x : List ℕ). hash (x ++ zero_root)) c.root-3.ensures)
    ∙ root_by_halves c.args.attestation.now)
