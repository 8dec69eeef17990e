-- The committees that vote on a made chain are few and small.
use Rattle.std.proofs.Common.{◌≡◌, ℕ, ◌+◌, ◌*◌, ◌/◌, ◌%◌, ◌<◌, ◌≤◌, length, arith}
use Rattle.std.proofs.Math.Nat.{div-le_self, div-mul-le_self}
use Rattle.std.proofs.lemmas.Nat.{le-div}
use Rattle.bc_preset.proofs.Bounds.{preset_bounds}
use Rattle.committees.specs.Committees.{committee_count_per_slot}
use Rattle.spec_state.specs.declared.plain.PlainState.{PlainState}
use Rattle.spec_state.specs.Constants.{far_future_epoch}
use Rattle.spec_state.specs.Misc.{compute_epoch_at_slot}
use Rattle.spec_state.specs.Accessors.{get_current_epoch, get_beacon_committee, get_committee_count_per_slot}
use Rattle.spec_drill.specs.inside.Calm.{IsCalm}
use Rattle.spec_drill.proofs.Committees.{committees_small, count_is, size_is}

-- the epoch of a slot below the state's is near
epoch_low : (s : PlainState) (slot : ℕ) → IsCalm 0 s → s.slot ≡ slot + 1 → compute_epoch_at_slot s.preset slot < far_future_epoch
epoch_low s slot calm next =
    let early = calm.early in
    let bounds = preset_bounds s.preset calm.preset in
    let n = bounds.slots_per_epoch in
    omega (arith, div-le_self slot s.preset.slots_per_epoch)

pub committee_few : (s : PlainState) (slot index : ℕ) → IsCalm 0 s → s.slot ≡ slot + 1 → length (get_beacon_committee s slot index) ≤ 4
committee_few s slot index calm next =
    let is = size_is s slot index calm.registry (epoch_low s slot calm next) in
    let small = committees_small s.preset calm.preset in
    let few = small.few (slot % s.preset.slots_per_epoch * committee_count_per_slot s.preset 64 + index) in
    omega (arith, is)

pub few_of : (s : PlainState) (slot index size : ℕ) → IsCalm 0 s → s.slot ≡ slot + 1 → size ≡ length (get_beacon_committee s slot index) → size ≤ 4
few_of s slot index size calm next is = let few = committee_few s slot index calm next in omega (arith, is, few)

pub committees_few : (s : PlainState) (slot : ℕ) → IsCalm 0 s → s.slot ≡ slot + 1 → get_committee_count_per_slot s (compute_epoch_at_slot s.preset slot) ≤ 2
committees_few s slot calm next =
    let is = count_is s (compute_epoch_at_slot s.preset slot) calm.registry (epoch_low s slot calm next) in
    let most = (committees_small s.preset calm.preset).most in
    omega (arith, is)

-- the slot before the state's isn't in a later epoch
pub epoch_before : (s : PlainState) (slot : ℕ) → IsCalm 0 s → s.slot ≡ slot + 1 → slot / s.preset.slots_per_epoch ≤ get_current_epoch s
unfolding get_current_epoch
epoch_before s slot calm next =
    let bounds = preset_bounds s.preset calm.preset in
    let least = bounds.least_slots_per_epoch in
    let whole = div-mul-le_self slot s.preset.slots_per_epoch in
    le-div (slot / s.preset.slots_per_epoch) s.slot s.preset.slots_per_epoch (omega arith) (omega arith)
