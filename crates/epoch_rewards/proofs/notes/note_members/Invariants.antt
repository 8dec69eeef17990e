use Rattle.std.proofs.Common.{◌≡◌}
use Rattle.spec_state.specs.Accessors.{members_with_bits}
use Rattle.epoch_rewards.specs.inside.Notes.{noted_each}
use Rattle.epoch_rewards.proofs.Members.{members_from}
use Rattle.epoch_rewards.proofs.notes.note_members.Given as goal

abbrev pub invariant-loop-position : goal.invariant-loop-position
invariant-loop-position g l =
    let noted = noted_each g.P.Place.blank g.P.Place.noting in
    noted l.places.items (members_from l.members l.bits l.position) l.shown ≡ noted l.fn.places.items (members_with_bits l.members l.bits) l.shown
