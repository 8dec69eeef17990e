-- There are at most 2,048 indices of 8 bytes each.
use Rattle.beacon_node.proofs.SlashingRecords.{vote_size}
use Rattle.beacon_node.proofs.slashings.vote_len.Goals as goal

pub returns : goal.returns
returns c = vote_size c.args.vote.now c.len-few.ensures.limit c.content_len.ensures c.bytes_len.ensures
