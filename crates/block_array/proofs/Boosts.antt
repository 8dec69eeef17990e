-- The boost, and that it fits.
use Rattle.std.proofs.Common.{◌≡◌, ℕ, ◌*◌, ◌/◌, ◌≤◌, ◌^◌, sym, ap, ◌∙◌, arith}
use Rattle.std.proofs.Math.Nat.{div-le_self, mul-div-le, mul-le-mul_right, mul-le-mul, zero-mul}

pub average_fits : (active slots total : ℕ) → active / slots * (total / active) ≤ total
average_fits active slots total =
    let few : active / slots * (total / active) ≤ active * (total / active) = mul-le-mul_right (total / active) (div-le_self active slots) in
    let whole : active * (total / active) ≤ total = mul-div-le total active in
    omega arith

pub no_average : (active slots total : ℕ) → active ≡ 0 → 0 ≡ active / slots * (total / active)
no_average active slots total none =
    let few : active / slots ≤ active = div-le_self active slots in
    let zero_each : active / slots ≡ 0 = omega (arith, few) in
    sym (ap (λ n. n * (total / active)) zero_each ∙ zero-mul (total / active))

pub ruleset averaging = (average_fits, no_average)

pub boost_low : (weight percent : ℕ) → weight ≤ 2 ^ 104 → percent ≤ 10000 → weight * percent ≤ 2 ^ 118
boost_low weight percent w p = let m : weight * percent ≤ 2 ^ 104 * 10000 = mul-le-mul w p in omega arith

pub ruleset boosting = (boost_low)
