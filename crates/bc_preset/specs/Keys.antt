-- The keys of a configuration that are used, in the order of the table, with their names and ranges
-- (beacon-chain.md and fork-choice.md, "Configuration").
use Rattle.std.specs.Prelude.{ℕ, ◌^◌, Bool, true, ◌&&◌, nat_le, nat_lt, List, [], ◌∷◌, Option, codes}
use Rattle.std.specs.List.{find}
use Rattle.std.specs.Str.{bytes_eq}
use Rattle.bc_preset.specs.declared.keys.Key.{Key}
use Rattle.bc_preset.specs.declared.keys.Key.TheVariants.{PresetBase, SecondsPerSlot, MinValidatorWithdrawabilityDelay, ShardCommitteePeriod, EjectionBalance, MinPerEpochChurnLimit, ChurnLimitQuotient, ProposerScoreBoost}

-- the keys in the table's order
abbrev pub keys : List Key
keys =
    PresetBase ∷ SecondsPerSlot ∷ MinValidatorWithdrawabilityDelay ∷ ShardCommitteePeriod ∷ EjectionBalance ∷ MinPerEpochChurnLimit ∷ ChurnLimitQuotient ∷ ProposerScoreBoost ∷ []

-- the row of a key in the table
abbrev pub row_of : Key → ℕ
row_of PresetBase = 0
row_of SecondsPerSlot = 1
row_of MinValidatorWithdrawabilityDelay = 2
row_of ShardCommitteePeriod = 3
row_of EjectionBalance = 4
row_of MinPerEpochChurnLimit = 5
row_of ChurnLimitQuotient = 6
row_of ProposerScoreBoost = 7

-- a key as a file spells it
unfoldable pub name_of : Key → List ℕ
name_of PresetBase = codes "PRESET_BASE"
name_of SecondsPerSlot = codes "SECONDS_PER_SLOT"
name_of MinValidatorWithdrawabilityDelay = codes "MIN_VALIDATOR_WITHDRAWABILITY_DELAY"
name_of ShardCommitteePeriod = codes "SHARD_COMMITTEE_PERIOD"
name_of EjectionBalance = codes "EJECTION_BALANCE"
name_of MinPerEpochChurnLimit = codes "MIN_PER_EPOCH_CHURN_LIMIT"
name_of ChurnLimitQuotient = codes "CHURN_LIMIT_QUOTIENT"
name_of ProposerScoreBoost = codes "PROPOSER_SCORE_BOOST"

-- the key with this name
unfoldable pub key_named : List ℕ → Option Key
key_named text = find (λ key. bytes_eq (name_of key) text) keys

-- the values that a key may have, if they are numbers
unfoldable pub allows : Key → ℕ → Bool
allows PresetBase value = true
allows SecondsPerSlot value = nat_le 1 value && nat_lt value (2 ^ 32)
allows MinValidatorWithdrawabilityDelay value = nat_lt value (2 ^ 32)
allows ShardCommitteePeriod value = nat_lt value (2 ^ 32)
allows EjectionBalance value = true
allows MinPerEpochChurnLimit value = nat_lt value (2 ^ 32)
allows ChurnLimitQuotient value = nat_le 1 value && nat_lt value (2 ^ 32)
allows ProposerScoreBoost value = nat_le value 10000

-- the same in words for people
unfoldable pub expected_of : Key → List ℕ
expected_of PresetBase = codes "mainnet or minimal"
expected_of SecondsPerSlot = codes "1 to 4294967295"
expected_of MinValidatorWithdrawabilityDelay = codes "0 to 4294967295"
expected_of ShardCommitteePeriod = codes "0 to 4294967295"
expected_of EjectionBalance = codes "0 to 18446744073709551615"
expected_of MinPerEpochChurnLimit = codes "0 to 4294967295"
expected_of ChurnLimitQuotient = codes "1 to 4294967295"
expected_of ProposerScoreBoost = codes "0 to 10000"
