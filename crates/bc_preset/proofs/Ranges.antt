-- What the ranges of the keys say of their values.
use Rattle.std.proofs.Common.{◌≡◌, ℕ, ◌^◌, ◌<◌, ◌≤◌, ◌&&◌, nat_lt, nat_le, true, arith}
use Rattle.std.proofs.lemmas.Bool.Decides.{nat_tests}
use Rattle.bc_preset.specs.declared.keys.Key.TheVariants.{SecondsPerSlot, MinValidatorWithdrawabilityDelay, ShardCommitteePeriod, MinPerEpochChurnLimit, ChurnLimitQuotient, ProposerScoreBoost}
use Rattle.bc_preset.specs.Keys.{allows}

from_one : (n : ℕ) → (nat_le 1 n && nat_lt n (2 ^ 32)) ≡ true → (1 ≤ n) × (n < 2 ^ 32)
from_one n h = (grind (arith, nat_tests), grind (arith, nat_tests))

below : (n : ℕ) → nat_lt n (2 ^ 32) ≡ true → n < 2 ^ 32
below n h = grind (arith, nat_tests)

at_most : (n : ℕ) → nat_le n 10000 ≡ true → n ≤ 10000
at_most n h = grind (arith, nat_tests)

pub seconds_range : (n : ℕ) → allows SecondsPerSlot n ≡ true → (1 ≤ n) × (n < 2 ^ 32)
unfolding allows
seconds_range n h = from_one n h

pub delay_range : (n : ℕ) → allows MinValidatorWithdrawabilityDelay n ≡ true → n < 2 ^ 32
unfolding allows
delay_range n h = below n h

pub period_range : (n : ℕ) → allows ShardCommitteePeriod n ≡ true → n < 2 ^ 32
unfolding allows
period_range n h = below n h

pub churn_range : (n : ℕ) → allows MinPerEpochChurnLimit n ≡ true → n < 2 ^ 32
unfolding allows
churn_range n h = below n h

pub quotient_range : (n : ℕ) → allows ChurnLimitQuotient n ≡ true → (1 ≤ n) × (n < 2 ^ 32)
unfolding allows
quotient_range n h = from_one n h

pub boost_range : (n : ℕ) → allows ProposerScoreBoost n ≡ true → n ≤ 10000
unfolding allows
boost_range n h = at_most n h
