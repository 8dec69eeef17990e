use Rattle.std.proofs.Common.{◌≡◌, map}
use Rattle.std.specs.List.{range_with_len}
use Rattle.spec_drill.specs.MakeVotes.{vote_of}
use Rattle.chain_maker.proofs.attestations.votes_of.Given as goal

abbrev pub invariant-loop-index : goal.invariant-loop-index
invariant-loop-index l = l.votes ≡ map (vote_of l.state l.root l.slot) (range_with_len 0 l.index)
