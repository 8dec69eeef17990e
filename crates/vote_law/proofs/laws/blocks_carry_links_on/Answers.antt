-- The slots up to a block, and the block.
use Rattle.std.proofs.Common.{◌++◌, sym}
use Rattle.beacon_types.specs.Blocks.{block_codec}
use Rattle.vote_law.specs.Backed.{Adding, AreAmong, votes_of}
use Rattle.vote_law.specs.Runs.{AreAt}
use Rattle.vote_law.proofs.ListedVotes.{added_are_among, goes_more}
use Rattle.vote_law.proofs.RunsSlots.{transition_goes}
use Rattle.vote_law.proofs.laws.blocks_carry_links_on.Goals as goal

pub returns : goal.returns
returns c genesis state votes roots parent_root config signed_block step is bounds low some here goes =
    let attestations = signed_block.message.body.attestations in
    goes_more genesis (Adding (AreAmong votes) attestations step.state) (AreAmong (votes_of attestations step.state ++ votes)) (AreAt roots) (block_codec.hash_tree_root signed_block.message) step
    (added_are_among votes attestations step.state)
    (transition_goes genesis (AreAmong votes) (AreAt roots) (AreAt roots) parent_root config state signed_block step is bounds low some
    (λ slot from to. sym (here slot from to)) (λ slot root less stands. stands) goes).0
