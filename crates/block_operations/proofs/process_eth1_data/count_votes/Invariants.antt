use Rattle.std.proofs.Common.{◌≡◌, ◌+◌}
use Rattle.spec_blocks.specs.ProcessEth1Data.{count_votes}
use Rattle.block_operations.proofs.process_eth1_data.count_votes.Given as goal

abbrev pub invariant-loop-vote : goal.invariant-loop-vote
invariant-loop-vote l = l.count + count_votes l.vote-iterator l.eth1_data ≡ count_votes l.state.eth1_data_votes l.eth1_data
