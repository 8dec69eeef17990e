-- The target is looked at where the vote is for it.
use Rattle.std.proofs.Common.{sym, ap, ◌∙◌}
use Rattle.epoch_rewards.specs.inside.Votes.{counts_for}
use Rattle.epoch_rewards.proofs.matching.counts_for.Goals as goal

pub returns-in-Target : goal.returns-in-Target
unfolding counts_for
returns-in-Target c = c.eq.ensures ∙ sym (ap (λ vote. counts_for c.args.state.now vote c.args.root.now c.args.attestation.now) c.in-Target.is)
