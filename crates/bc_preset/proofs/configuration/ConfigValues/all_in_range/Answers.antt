use Rattle.std.proofs.Common.{sym, ◌∙◌}
use Rattle.bc_preset.proofs.Ranges.{seconds_range, delay_range, period_range, churn_range, quotient_range, boost_range}
use Rattle.bc_preset.proofs.configuration.ConfigValues.all_in_range.Goals as goal

pub invariant_of-result : goal.invariant_of-result
invariant_of-result c =
    let seconds = seconds_range _ (sym c.allows.ensures ∙ c.if-not-allows.false) in
    let quotient = quotient_range _ (sym c.allows-6.ensures ∙ c.if-not-allows-6.false) in
    record {
      preset = c.requires;
      least_seconds_per_slot = seconds.0;
      seconds_per_slot = seconds.1;
      min_validator_withdrawability_delay = delay_range _ (sym c.allows-2.ensures ∙ c.if-not-allows-2.false);
      shard_committee_period = period_range _ (sym c.allows-3.ensures ∙ c.if-not-allows-3.false);
      min_per_epoch_churn_limit = churn_range _ (sym c.allows-5.ensures ∙ c.if-not-allows-5.false);
      least_churn_limit_quotient = quotient.0;
      churn_limit_quotient = quotient.1;
      proposer_score_boost = boost_range _ (sym c.allows-7.ensures ∙ c.if-not-allows-7.false);
    }
