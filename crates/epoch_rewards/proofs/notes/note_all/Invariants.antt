use Rattle.std.proofs.Common.{◌≡◌, drop}
use Rattle.spec_epochs.specs.Helpers.{get_matching_source_attestations}
use Rattle.epoch_rewards.specs.inside.Notes.{all_noted}
use Rattle.epoch_rewards.proofs.notes.note_all.Given as goal

abbrev pub invariant-loop-i : goal.invariant-loop-i
invariant-loop-i g l =
    let attestations = get_matching_source_attestations l.state l.epoch in
    let noted = all_noted g.P.Place.blank g.P.Place.noting l.state l.root in
    noted l.places.items (drop l.i attestations) ≡ noted l.fn.places.items attestations
