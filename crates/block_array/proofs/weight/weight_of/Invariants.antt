use Rattle.std.proofs.Common.{◌≡◌, ◌+◌, drop}
use Rattle.block_array.specs.GetLatestAttestingBalance.{is_on_chain_of}
use Rattle.block_array.specs.inside.Counts.{all_of, counted_at}
use Rattle.block_array.proofs.weight.weight_of.Given as goal

abbrev pub invariant-loop-validator : goal.invariant-loop-validator
invariant-loop-validator l =
    let test = is_on_chain_of l.nodes l.number in
    l.weight + counted_at test (drop l.validator l.tally.validators) ≡ counted_at test (all_of l.tally)
