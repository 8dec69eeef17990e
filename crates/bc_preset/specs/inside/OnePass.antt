-- The reading of a configuration in one pass, as the private functions do it. `specs/Configs.antt` says what is read.
use Rattle.std.specs.Prelude.{ℕ, ◌+◌, Bool, nat_lt, is_some, if◌then◌else◌, List, [], ◌∷◌, length, Some, None, Result, Ok, Err}
use Rattle.std.specs.Str.Lines.{lines}
use Rattle.bc_preset.specs.declared.keys.Key.{Key}
use Rattle.bc_preset.specs.declared.keys.Key.TheVariants.{PresetBase, SecondsPerSlot, MinValidatorWithdrawabilityDelay, ShardCommitteePeriod, EjectionBalance, MinPerEpochChurnLimit, ChurnLimitQuotient, ProposerScoreBoost}
use Rattle.bc_preset.specs.declared.faults.ConfigFault.{ConfigFault}
use Rattle.bc_preset.specs.declared.faults.ConfigFault.TheVariants.{TooLong, BadLine, Twice, BadNumber, BadPreset, Missing}
use Rattle.bc_preset.specs.declared.settings.Settings.{Settings}
use Rattle.bc_preset.specs.declared.configuration.ConfigValues.{ConfigValues}
use Rattle.bc_preset.specs.Configs.{◌then_read◌, or_fault, preset_named, preset_of, all_in_range, max_config_len}
use Rattle.bc_preset.specs.Numbers.{parse_decimal}
use Rattle.bc_preset.specs.Lines.{Line, skipped, other, setting, faulty, line_of}

-- no key is set
abbrev pub nothing_set : Settings
nothing_set =
    record {
      preset_base = None;
      seconds_per_slot = None;
      min_validator_withdrawability_delay = None;
      shard_committee_period = None;
      ejection_balance = None;
      min_per_epoch_churn_limit = None;
      churn_limit_quotient = None;
      proposer_score_boost = None;
    }

-- the key has a value
unfoldable pub is_set : Settings → Key → Bool
is_set s PresetBase = is_some s.preset_base
is_set s SecondsPerSlot = is_some s.seconds_per_slot
is_set s MinValidatorWithdrawabilityDelay = is_some s.min_validator_withdrawability_delay
is_set s ShardCommitteePeriod = is_some s.shard_committee_period
is_set s EjectionBalance = is_some s.ejection_balance
is_set s MinPerEpochChurnLimit = is_some s.min_per_epoch_churn_limit
is_set s ChurnLimitQuotient = is_some s.churn_limit_quotient
is_set s ProposerScoreBoost = is_some s.proposer_score_boost

-- the settings with this number as the value of a key that has numbers
unfoldable pub with_number : Settings → Key → ℕ → Settings
with_number s PresetBase value = s
with_number s SecondsPerSlot value = record s { seconds_per_slot = Some value }
with_number s MinValidatorWithdrawabilityDelay value = record s { min_validator_withdrawability_delay = Some value }
with_number s ShardCommitteePeriod value = record s { shard_committee_period = Some value }
with_number s EjectionBalance value = record s { ejection_balance = Some value }
with_number s MinPerEpochChurnLimit value = record s { min_per_epoch_churn_limit = Some value }
with_number s ChurnLimitQuotient value = record s { churn_limit_quotient = Some value }
with_number s ProposerScoreBoost value = record s { proposer_score_boost = Some value }

-- the settings with this key set to the value that the text of this line writes
unfoldable pub set_key : Settings → ℕ → Key → List ℕ → Result Settings ConfigFault
set_key s line PresetBase text =
    or_fault (BadPreset line) (preset_named text) then_read λ name.
    Ok (record s { preset_base = Some name })
set_key s line key text =
    or_fault (BadNumber line) (parse_decimal text) then_read λ value.
    Ok (with_number s key value)

-- the settings behind a line, whose number counts from 1
unfoldable pub after_line : Settings → ℕ → Line → Result Settings ConfigFault
after_line s line skipped = Ok s
after_line s line other = Ok s
after_line s line faulty = Err (BadLine line)
after_line s line (setting key text) = if is_set s key then Err (Twice line) else set_key s line key text

-- the settings behind all lines, the first of which has this number
unfoldable pub after_lines : Settings → ℕ → List (List ℕ) → Result Settings ConfigFault
after_lines s line [] = Ok s
after_lines s line (first ∷ others) =
    after_line s line (line_of first) then_read λ t.
    after_lines t (line + 1) others

-- each key has a value, or the first of the table that has none is missing
unfoldable pub all_set : Settings → Result ConfigValues ConfigFault
all_set s =
    or_fault (Missing PresetBase) s.preset_base then_read λ name.
    or_fault (Missing SecondsPerSlot) s.seconds_per_slot then_read λ seconds.
    or_fault (Missing MinValidatorWithdrawabilityDelay) s.min_validator_withdrawability_delay then_read λ delay.
    or_fault (Missing ShardCommitteePeriod) s.shard_committee_period then_read λ period.
    or_fault (Missing EjectionBalance) s.ejection_balance then_read λ ejection.
    or_fault (Missing MinPerEpochChurnLimit) s.min_per_epoch_churn_limit then_read λ churn.
    or_fault (Missing ChurnLimitQuotient) s.churn_limit_quotient then_read λ quotient.
    or_fault (Missing ProposerScoreBoost) s.proposer_score_boost then_read λ boost.
    Ok (record {
      preset = preset_of name;
      seconds_per_slot = seconds;
      min_validator_withdrawability_delay = delay;
      shard_committee_period = period;
      ejection_balance = ejection;
      min_per_epoch_churn_limit = churn;
      churn_limit_quotient = quotient;
      proposer_score_boost = boost;
    })

-- the same in one pass
unfoldable pub one_pass : List ℕ → Result ConfigValues ConfigFault
one_pass bytes =
    if nat_lt max_config_len (length bytes) then Err TooLong else (
    after_lines nothing_set 1 (lines bytes) then_read λ settings.
    all_set settings then_read λ values.
    all_in_range values)
