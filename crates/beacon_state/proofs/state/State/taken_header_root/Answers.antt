-- A zero state root gives way to the state's root.
use Rattle.std.proofs.Common.{rules}
use Rattle.spec_state.specs.Genesis.{header_root_of, block_header_of}
use Rattle.beacon_state.proofs.state.State.taken_header_root.Goals as goal

pub returns : goal.returns
unfolding header_root_of block_header_of
returns c = search rules
