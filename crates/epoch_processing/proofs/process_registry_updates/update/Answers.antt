-- Ejections come first, and activations after them.
use Rattle.std.proofs.Common.{rules}
use Rattle.bc_words.proofs.Outcomes.{stops_bound}
use Rattle.spec_epochs.specs.ProcessRegistryUpdates.{process_registry_updates}
use Rattle.epoch_processing.specs.inside.Exits.{earliest_exit}
use Rattle.epoch_processing.proofs.Updates.{then_activations, updates_are}
use Rattle.epoch_processing.proofs.process_registry_updates.update.Goals as goal

pub returns-in_err-eligibility_and_ejections : goal.returns-in_err-eligibility_and_ejections
unfolding process_registry_updates
returns-in_err-eligibility_and_ejections c =
    let stops = stops_bound _ _ (then_activations c.args.config.now) c.in_err-eligibility_and_ejections.ensures in
    search (rules, stops)

pub returns : goal.returns
returns c =
    let ejected = c.eligibility_and_ejections.new.state in
    updates_are c.args.config.now c.args.state.now ejected c.activate.new.state (earliest_exit ejected) c.in_ok-eligibility_and_ejections.ensures c.earliest_exit-epoch.ensures.published c.in_ok-activate.ensures
