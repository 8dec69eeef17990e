-- All balances are those by what was reckoned before.
use Rattle.std.proofs.Common.{◌≡◌, ℕ, List, subst}
use Rattle.bc_words.specs.Outcome.{GivesBy, done}
use Rattle.spec_state.specs.Accessors.{get_active_validator_indices, get_total_balance}
use Rattle.epoch_rewards.specs.declared.matching.Vote.{Vote}
use Rattle.epoch_rewards.specs.declared.matching.Vote.TheVariants.{Source, Target, Head}
use Rattle.epoch_rewards.specs.inside.Marks.{flagged}
use Rattle.epoch_rewards.specs.inside.Statuses.{flags_of, entries_of}
use Rattle.epoch_rewards.proofs.AllPaid.{paid_by}
use Rattle.epoch_rewards.proofs.process_rewards_and_penalties.all_paid.Goals as goal

pub returns-clause-exact : goal.returns-clause-exact
returns-clause-exact c =
    let voters : Vote → List ℕ = λ vote. flagged c.args.state.now (flags_of vote c.args.statuses.now) in
    subst (GivesBy (λ balances. balances.items) c.paid_by_weights.result)
    (paid_by c.args.state.now (voters Source) (voters Target) (voters Head) (entries_of c.args.statuses.now)
    c.in_ok-total.total c.in_ok-leak.leak c.in_ok-source.source c.in_ok-target.target c.in_ok-head.head
    (subst (λ (epoch : ℕ). get_total_balance c.args.state.now (get_active_validator_indices c.args.state.now epoch) ≡ done c.in_ok-total.total) c.current_epoch.ensures.exact c.in_ok-total.ensures)
    c.in_ok-leak.ensures c.in_ok-source.ensures c.in_ok-target.ensures c.in_ok-head.ensures
    c.weights_of-by_source.result c.weights_of-by_target.result c.weights_of-by_head.result c.weights_of-by_source.ensures.by c.weights_of-by_target.ensures.by c.weights_of-by_head.ensures.by)
    c.paid_by_weights.ensures.exact
