-- Numbers of slots fit.
use Rattle.std.proofs.Common.{◌≡◌, ℕ, ◌*◌, ◌/◌, ◌<◌, ◌≤◌, ◌^◌, arith, subst}
use Rattle.std.proofs.Math.Nat.{mul-div-le, mul-le-mul_left, mul_comm}
use Rattle.bc_preset.specs.declared.presets.Preset.{Preset}
use Rattle.spec_state.specs.declared.plain.PlainState.{PlainState}
use Rattle.spec_state.specs.Accessors.{get_current_epoch, get_previous_epoch}
use Rattle.spec_state.specs.Soundness.{IsSound}

-- the first slot of any epoch of 64 bits fits in 128
pub start_fits : (epoch n : ℕ) → epoch < 2 ^ 64 → n ≤ 32 → epoch * n < 2 ^ 128
start_fits epoch n low few = omega (arith, mul-le-mul_left {m = n} {n = 32} epoch few)

previous_first : (s : PlainState) → get_previous_epoch s ≤ s.slot / s.preset.slots_per_epoch
unfolding get_previous_epoch get_current_epoch
previous_first s = omega arith

-- that of a sound state's justified epoch isn't behind the state's slot
pub justified_is_low : (s : PlainState) (preset : Preset) → IsSound s → s.preset ≡ preset → s.slot < 2 ^ 64 → s.current_justified_checkpoint.epoch * preset.slots_per_epoch < 2 ^ 64
justified_is_low s preset sound is low = subst (λ (p : Preset). s.current_justified_checkpoint.epoch * p.slots_per_epoch < 2 ^ 64) is
    (let n : ℕ = s.preset.slots_per_epoch in
    let e : ℕ = s.current_justified_checkpoint.epoch in
    let q : ℕ = s.slot / n in
    omega (arith, low, sound.current_justified, previous_first s, mul-div-le s.slot n, mul-le-mul_left {m = e} {n = q} n (omega (arith, sound.current_justified, previous_first s)), mul_comm n e))

-- the seconds of a slot fit in 128 bits, and so does the time behind any number of them
pub seconds_fit : (seconds slot : ℕ) → seconds < 2 ^ 32 → slot < 2 ^ 64 → seconds * slot < 2 ^ 96
seconds_fit seconds slot few low = omega (arith, mul-le-mul_left {m = slot} {n = 2 ^ 64} seconds (omega (arith, low)), few)

pub ruleset timing = (seconds_fit)
