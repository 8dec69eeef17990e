use Rattle.std.proofs.Common.{◌≡◌, map}
use Rattle.std.specs.List.{range_with_len}
use Rattle.spec_drill.specs.MakeGenesis.{made_validator}
use Rattle.chain_maker.proofs.genesis.made_validators.Given as goal

abbrev pub invariant-loop-index : goal.invariant-loop-index
invariant-loop-index l = l.validators ≡ map (made_validator l.number) (range_with_len 0 l.index)
