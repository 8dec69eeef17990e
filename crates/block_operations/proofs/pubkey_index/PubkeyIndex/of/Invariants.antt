use Rattle.std.proofs.Common.{take}
use Rattle.block_operations.specs.Indexes.{Indexes}
use Rattle.block_operations.proofs.pubkey_index.PubkeyIndex.of.Given as goal

-- the keys of the registry's front are noted
abbrev pub invariant-loop-index : goal.invariant-loop-index
invariant-loop-index l = Indexes l.keys (take l.index l.state.validators)
