use Rattle.std.proofs.Common.{◌==◌, rules}
use Rattle.beacon_state.proofs.FirstFault.{one_fails, one_passes}
use Rattle.beacon_state.proofs.genesis.nothing_slashed.Goals as goal

pub returns-then-not-not_slashed_at : goal.returns-then-not-not_slashed_at
returns-then-not-not_slashed_at c = one_fails (λ n. n == 0) c.args.slashings.now.items c.loop-i.i c.not_slashed_at.result _ (search rules) c.not_slashed_at.ensures c.loop-i.invariant

pub loop-i-preserved : goal.loop-i-preserved
loop-i-preserved c = one_passes (λ n. n == 0) c.args.slashings.now.items c.loop-i.i c.not_slashed_at.result _ (search rules) c.not_slashed_at.ensures c.loop-i.invariant
