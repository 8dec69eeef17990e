use Rattle.std.proofs.Common.{ap, arith}
use Rattle.spec_state.proofs.ActiveIndices.{active_few, active_below, active_without_repeats}
use Rattle.balance_totals.proofs.totals.active_are_indices.Goals as goal

pub returns : goal.returns
returns c =
    let state = c.args.state.now in
    let epoch = c.args.epoch in
    record {
      fits = omega (arith, active_few state epoch, ap (λ p. p.validator_registry_limit) c.preset.ensures.exact, c.bounds.ensures.validator_registry_limit, c.validators_len-count.ensures.limit, c.validators_len-count.ensures.len);
      in_registry = active_below state epoch;
      without_repeats = active_without_repeats state epoch;
    }
