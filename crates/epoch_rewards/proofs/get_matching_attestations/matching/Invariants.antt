use Rattle.std.proofs.Common.{◌≡◌, ◌++◌, drop}
use Rattle.std.specs.Prelude.{filter}
use Rattle.spec_epochs.specs.Helpers.{get_matching_source_attestations}
use Rattle.epoch_rewards.specs.inside.Votes.{counts_for}
use Rattle.epoch_rewards.proofs.get_matching_attestations.matching.Given as goal

abbrev pub invariant-loop-i : goal.invariant-loop-i
invariant-loop-i l =
    let source = get_matching_source_attestations l.state l.epoch in
    let is_right = counts_for l.state l.vote l.root in
    l.found.items ++ filter is_right (drop l.i source) ≡ filter is_right source
