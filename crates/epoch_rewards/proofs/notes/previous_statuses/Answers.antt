use Rattle.std.proofs.Common.{ℕ, sym, subst}
use Rattle.std.specs.List.{AllByRecursion}
use Rattle.spec_state.specs.Accessors.{get_current_epoch}
use Rattle.spec_state.specs.Soundness.{IsSoundPending}
use Rattle.spec_epochs.specs.Helpers.{get_matching_source_attestations}
use Rattle.epoch_rewards.proofs.Sound.{sound_previous}
use Rattle.epoch_rewards.proofs.notes.previous_statuses.Goals as goal

pub note_all-requires-clause-sound : goal.note_all-requires-clause-sound
note_all-requires-clause-sound c =
    let state = c.args.state.now in
    let P = λ (epoch : ℕ). AllByRecursion (IsSoundPending state epoch) (get_matching_source_attestations state epoch) in
    subst P (sym c.previous_epoch-epoch.ensures.exact) (sound_previous (get_current_epoch state) state c.requires.sound)
