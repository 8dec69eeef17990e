use Rattle.std.proofs.Common.{◌≡◌}
use Rattle.bc_words.specs.Outcome.{checked_sum_from, checked_sum_by}
use Rattle.spec_state.specs.Misc.{effective_balance}
use Rattle.epoch_rewards.specs.inside.Marks.{flagged, flagged_from}
use Rattle.epoch_rewards.proofs.balance.sum_flagged.Given as goal

abbrev pub invariant-loop-index : goal.invariant-loop-index
invariant-loop-index g l =
    let balance = effective_balance l.state.validators in
    let flags = g.F.Flagged.flags l.by in
    checked_sum_from balance l.sum (flagged_from l.state flags l.index) ≡ checked_sum_by balance (flagged l.state flags)
