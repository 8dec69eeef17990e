use Rattle.std.proofs.Common.{◌≡◌, length, replicate}
use Rattle.epoch_rewards.specs.declared.matching.Vote.TheVariants.{Source}
use Rattle.epoch_rewards.specs.inside.Marks.{flagged, flagged_from}
use Rattle.epoch_rewards.specs.inside.Statuses.{flags_of, entries_of}
use Rattle.epoch_rewards.specs.inside.Rates.{AreRates}
use Rattle.epoch_rewards.specs.inside.InclusionRewards.{all_included}
use Rattle.epoch_rewards.proofs.get_inclusion_delay_deltas.proposer_gains.Given as goal

abbrev pub invariant-loop-index : goal.invariant-loop-index
invariant-loop-index l =
    let flags = flags_of Source l.statuses in
    let entries = entries_of l.statuses in
    record {
      rates : AreRates l.state l.rates;
      included : all_included l.state entries l.gains.items (flagged_from l.state flags l.index) ≡ all_included l.state entries (replicate (length l.state.validators) 0) (flagged l.state flags);
    }
