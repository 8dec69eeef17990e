-- One attester more is included, or all of them are.
use Rattle.std.proofs.Common.{sym, subst, ◌∙◌, arith}
use Rattle.bc_words.specs.Outcome.{Stops}
use Rattle.epoch_rewards.specs.declared.matching.Vote.TheVariants.{Source}
use Rattle.epoch_rewards.specs.inside.Statuses.{flags_of, entries_of}
use Rattle.epoch_rewards.proofs.Rated.{proposer_rated}
use Rattle.epoch_rewards.proofs.Included.{included_more, included_stops, included_left, included_ends}
use Rattle.epoch_rewards.proofs.get_inclusion_delay_deltas.proposer_gains.Goals as goal
use Rattle.epoch_rewards.proofs.get_inclusion_delay_deltas.proposer_gains.Goals.{in-Some+in-Ok, in-None}

pub include-requires : goal.include-requires
include-requires c =
    proposer_rated c.args.state.now c.loop-index.index c.stake_at-stake.result c.follow.new.rates c.stake_at-stake.ensures c.follow.ensures.are c.follow.ensures.of

pub returns-in-Err : goal.returns-in-Err
returns-in-Err c =
    subst (Stops c.in-Err.stop) c.loop-index.invariant.included
    (included_stops c.args.state.now (flags_of Source c.args.statuses.now) (entries_of c.args.statuses.now) c.loop-index.gains.items c.loop-index.index c.in-Err.stop c.in-Some.ensures.1 c.in-Err.ensures)

pub loop-index-preserved : goal.loop-index-preserved
loop-index-preserved c =
    let more = included_more c.args.state.now (flags_of Source c.args.statuses.now) (entries_of c.args.statuses.now) c.loop-index.gains.items in
    let left = included_left c.args.state.now (flags_of Source c.args.statuses.now) (entries_of c.args.statuses.now) c.loop-index.gains.items c.loop-index.index in
    record {
      rates = c.follow.ensures.are;
      included = elim c.match-counted.branch [
        | in-Some+in-Ok w ↦ rw w.gains-is (sym (more w.include.new.gains.items c.loop-index.index w.in-Some.ensures.1 w.in-Ok.ensures) ∙ c.loop-index.invariant.included)
        | in-None w ↦ rw w.gains-is (sym (left w.in-None.ensures) ∙ c.loop-index.invariant.included)
      ];
    }

pub returns : goal.returns
returns c = sym c.loop-index.invariant.included ∙ included_ends c.args.state.now (flags_of Source c.args.statuses.now) (entries_of c.args.statuses.now) c.loop-index.gains.items c.loop-index.index (omega arith)
