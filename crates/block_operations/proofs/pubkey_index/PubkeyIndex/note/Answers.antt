-- A key that has no index gets it.
use Rattle.std.proofs.Common.{rules}
use Rattle.block_operations.proofs.pubkey_index.PubkeyIndex.note.Goals as goal

pub returns : goal.returns
returns c = search rules
