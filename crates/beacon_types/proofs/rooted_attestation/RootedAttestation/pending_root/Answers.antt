-- The node over the bits and the data is held.
use Rattle.std.proofs.Common.{◌∙◌, ℕ, List, ◌++◌, ap, ap₂}
use Rattle.hash_tree.specs.Merkle.{hash}
use Rattle.beacon_types.specs.inside.AttestationChunks.{vote_root}
use Rattle.beacon_types.proofs.AttestationLanes.{pending_by_vote}
use Rattle.beacon_types.proofs.rooted_attestation.RootedAttestation.pending_root.Goals as goal

pub returns : goal.returns
returns c =
    c.hash_pair-2.ensures
    ∙ (ap₂ (λ (x y : List ℕ). hash (x ++ y)) (c.self.invariant.vote_is ∙ ap vote_root c.self.view_is) (c.hash_pair.ensures ∙ ap₂ (λ (x y : List ℕ). hash (x ++ y)) c.root.ensures c.root-2.ensures)
    ∙ pending_by_vote c.args.self.now c.args.inclusion_delay c.args.proposer_index)
