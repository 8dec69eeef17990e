-- The committees of an epoch, one slot and index at a time.
use Rattle.std.specs.Prelude.{◌≡◌, ℕ, ◌<◌, Some}
use Rattle.committees.specs.Committees.{Committees, committee_at}
use Rattle.spec_state.specs.declared.plain.PlainState.{PlainState}
use Rattle.spec_state.specs.Misc.{compute_epoch_at_slot}
use Rattle.spec_state.specs.Accessors.{get_beacon_committee, get_committee_count_per_slot}

-- for each slot of the epoch and each index below the count, the committee is the published one
abbrev pub ArePublished : PlainState → ℕ → Committees → Type 0
ArePublished state epoch committees = (slot index : ℕ) → compute_epoch_at_slot state.preset slot ≡ epoch → index < get_committee_count_per_slot state epoch
    → committee_at committees slot index ≡ Some (get_beacon_committee state slot index)
