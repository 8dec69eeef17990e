-- The gain is that of the proposer who included the attester.
use Rattle.std.proofs.Common.{sym, subst, ◌∙◌}
use Rattle.bc_words.specs.Outcome.{Moves}
use Rattle.epoch_rewards.proofs.Included.{includes}
use Rattle.epoch_rewards.proofs.get_inclusion_delay_deltas.include.Goals as goal

pub returns-in_ok-reward-in-Some : goal.returns-in_ok-reward-in-Some
returns-in_ok-reward-in-Some c =
    subst (Moves c.add_gain.result c.add_gain.new.gains.items)
    (includes c.args.state.now c.args.attester c.in-Some.inclusion _ c.args.gains.now.items c.in_ok-reward-in-Some.reward (sym c.in-Some.is ∙ c.inclusion_at.ensures) (rw c.in_ok-reward-in-Some.was at c.requires))
    c.add_gain.ensures
