-- Its numbers have 8 bytes each, and its roots 32.
use Rattle.beacon_node.proofs.SlashingRecords.{content_size}
use Rattle.beacon_node.proofs.slashings.content_len.Goals as goal

pub returns : goal.returns
returns c = content_size c.args.content.now c.bytes_len.ensures c.bytes_len-2.ensures c.bytes_len-3.ensures
