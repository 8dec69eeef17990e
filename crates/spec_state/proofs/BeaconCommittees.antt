-- The committees of an epoch, by slot and index, are the published ones.
use Rattle.std.proofs.Common.{◌≡◌, ℕ, suc, ◌+◌, ◌*◌, ◌%◌, ◌<◌, ◌≤◌, [], length, map, slice_get, Some, refl, ap, ◌∙◌, subst, arith}
use Rattle.std.specs.List.{range_with_len}
use Rattle.std.proofs.lemmas.Option.{slice_get-get_or}
use Rattle.std.proofs.lemmas.List.FromFn.{length-map-range_with_len, get_or-map-range_with_len}
use Rattle.std.proofs.Math.Nat.{mul-le-mul_right}
use Rattle.bc_preset.specs.Presets.{IsPreset}
use Rattle.bc_preset.proofs.Bounds.{preset_bounds}
use Rattle.committees.specs.Committees.{committees_of, committee_at}
use Rattle.spec_state.specs.declared.plain.PlainState.{PlainState}
use Rattle.spec_state.specs.Misc.{compute_epoch_at_slot}
use Rattle.spec_state.specs.Accessors.{get_committee_count_per_slot, get_beacon_committee}
use Rattle.spec_state.specs.inside.EpochCommittees.{epoch_committees}

at : {A : Type 0} (f : ℕ → A) (count k : ℕ) (d : A) → k < count → slice_get (map f (range_with_len 0 count)) k ≡ Some (f k)
at f count k d less =
    let fits : k < length (map f (range_with_len 0 count)) = omega (arith, length-map-range_with_len f 0 count) in
    slice_get-get_or (map f (range_with_len 0 count)) k d fits ∙ ap Some (get_or-map-range_with_len f 0 count k k d less (omega arith))

-- an index below the committees of a slot is one of the epoch
within : (position slots per_slot index : ℕ) → position < slots → index < per_slot → position * per_slot + index < per_slot * slots
within position slots per_slot index low less =
    let h : suc position * per_slot ≤ slots * per_slot = mul-le-mul_right per_slot low in
    omega (arith, h)

pub count_is_published : (state : PlainState) (epoch : ℕ) → (epoch_committees state epoch).per_slot ≡ get_committee_count_per_slot state epoch
unfolding committees_of get_committee_count_per_slot
count_is_published state epoch = refl

here : (state : PlainState) (slot index : ℕ) → IsPreset state.preset → index < get_committee_count_per_slot state (compute_epoch_at_slot state.preset slot) → committee_at (epoch_committees state (compute_epoch_at_slot state.preset slot)) slot index ≡ Some (get_beacon_committee state slot index)
unfolding committees_of committee_at get_committee_count_per_slot get_beacon_committee
here state slot index preset less =
    let slots : 8 ≤ state.preset.slots_per_epoch = (preset_bounds state.preset preset).least_slots_per_epoch in
    at _ _ _ [] (within (slot % state.preset.slots_per_epoch) state.preset.slots_per_epoch _ index (omega arith) less)

pub committee_is_published : (state : PlainState) (epoch slot index : ℕ) → IsPreset state.preset → compute_epoch_at_slot state.preset slot ≡ epoch → index < get_committee_count_per_slot state epoch → committee_at (epoch_committees state epoch) slot index ≡ Some (get_beacon_committee state slot index)
committee_is_published state epoch slot index preset e less =
    subst (λ n. index < get_committee_count_per_slot state n → committee_at (epoch_committees state n) slot index ≡ Some (get_beacon_committee state slot index)) e (here state slot index preset) less
