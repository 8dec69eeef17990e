-- The header is the block's where its proposer is the slot's and isn't slashed; otherwise the state stays.
use Rattle.std.proofs.Common.{rules, refl}
use Rattle.spec_blocks.specs.ProcessBlockHeader.{process_block_header}
use Rattle.block_operations.proofs.process_block_header.process_rooted_header.Goals as goal

pub returns : goal.returns
unfolding process_block_header
returns c = search rules

pub returns-then-block-proposer : goal.returns-then-block-proposer
unfolding process_block_header
returns-then-block-proposer c = (refl, search rules)

pub returns-in_err-validator : goal.returns-in_err-validator
unfolding process_block_header
returns-in_err-validator c = search rules

pub returns-then-validator : goal.returns-then-validator
unfolding process_block_header
returns-then-validator c = (refl, search rules)
