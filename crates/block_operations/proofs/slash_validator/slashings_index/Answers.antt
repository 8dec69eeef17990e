-- Slashed balances of an epoch stand at the epoch's own place.
use Rattle.std.proofs.Common.{rules}
use Rattle.block_operations.proofs.slash_validator.slashings_index.Goals as goal

pub returns : goal.returns
returns c = search rules
