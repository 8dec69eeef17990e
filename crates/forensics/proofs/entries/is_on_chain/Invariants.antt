use Rattle.std.proofs.Common.{◌≡◌, reverse}
use Rattle.forensics.specs.inside.Entries.{reaches}
use Rattle.forensics.proofs.Chained.{back}
use Rattle.forensics.proofs.entries.is_on_chain.Given as goal

abbrev pub invariant-loop-i : goal.invariant-loop-i
invariant-loop-i l = reaches l.genesis_root l.ancestor (back l.i l.entries) l.root ≡ reaches l.genesis_root l.ancestor (reverse l.entries) l.fn.block
