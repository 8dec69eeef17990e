-- What a configuration is: the values that the lines of a file write, or the first thing that is wrong with them
-- (beacon-chain.md and fork-choice.md, "Configuration", as a file of lines `KEY: value`).
use Rattle.std.specs.Prelude.{ℕ, ◌+◌, ◌^◌, ◌<◌, ◌≤◌, Bool, false, nat_lt, ◌==◌, is_some, if◌then◌else◌, List, [], ◌∷◌, ◌++◌, length, map, Option, Some, None, Result, Ok, Err, codes}
use Rattle.std.specs.List.{list_any}
use Rattle.std.specs.Option.{option_or}
use Rattle.std.specs.Str.{bytes_eq}
use Rattle.std.specs.Str.Lines.{lines}
use Rattle.bc_preset.specs.declared.presets.Preset.{Preset}
use Rattle.bc_preset.specs.declared.keys.Key.{Key}
use Rattle.bc_preset.specs.declared.keys.Key.TheVariants.{PresetBase, SecondsPerSlot, MinValidatorWithdrawabilityDelay, ShardCommitteePeriod, EjectionBalance, MinPerEpochChurnLimit, ChurnLimitQuotient, ProposerScoreBoost}
use Rattle.bc_preset.specs.declared.faults.ConfigFault.{ConfigFault}
use Rattle.bc_preset.specs.declared.faults.ConfigFault.TheVariants.{TooLong, BadLine, Twice, BadNumber, BadPreset, Missing, OutOfRange}
use Rattle.bc_preset.specs.declared.settings.PresetName.{PresetName}
use Rattle.bc_preset.specs.declared.settings.PresetName.TheVariants.{Mainnet, Minimal}
use Rattle.bc_preset.specs.declared.configuration.ConfigValues.{ConfigValues}
use Rattle.bc_preset.specs.Presets.{mainnet, minimal, IsPreset}
use Rattle.bc_preset.specs.Keys.{row_of, allows}
use Rattle.bc_preset.specs.Numbers.{parse_decimal}
use Rattle.bc_preset.specs.Lines.{Line, skipped, other, setting, faulty, line_of}

-- the first fault ends the reading
infixl 10 ◌then_read◌
abbrev pub ◌then_read◌ : {A B : Type 0} → Result A ConfigFault → (A → Result B ConfigFault) → Result B ConfigFault
(Ok x) then_read f = f x
(Err fault) then_read f = Err fault

-- a value that is there, or this fault
abbrev pub or_fault : {A : Type 0} → ConfigFault → Option A → Result A ConfigFault
or_fault fault None = Err fault
or_fault fault (Some x) = Ok x

-- the preset with this name
unfoldable pub preset_named : List ℕ → Option PresetName
preset_named text = if bytes_eq text (codes "mainnet") then Some Mainnet else (if bytes_eq text (codes "minimal") then Some Minimal else None)

unfoldable pub preset_of : PresetName → Preset
preset_of Mainnet = mainnet
preset_of Minimal = minimal

-- the line sets this key
abbrev pub sets : Key → Line → Bool
sets key skipped = false
sets key other = false
sets key faulty = false
sets key (setting k text) = row_of k == row_of key

-- the text is a value of the key: the name of a preset, or a number
abbrev pub is_value : Key → List ℕ → Bool
is_value PresetBase text = is_some (preset_named text)
is_value key text = is_some (parse_decimal text)

abbrev pub bad_value : ℕ → Key → ConfigFault
bad_value number PresetBase = BadPreset number
bad_value number key = BadNumber number

-- what is wrong with a line behind these earlier ones. Lines are numbered from 1
unfoldable pub line_fault : List Line → ℕ → Line → Option ConfigFault
line_fault earlier number skipped = None
line_fault earlier number other = None
line_fault earlier number faulty = Some (BadLine number)
line_fault earlier number (setting key text) =
    if list_any (sets key) earlier then Some (Twice number) else (if is_value key text then None else Some (bad_value number key))

-- what is wrong with the first line that is wrong, where the earlier ones are not
unfoldable pub first_fault : List Line → ℕ → List Line → Option ConfigFault
first_fault earlier number [] = None
first_fault earlier number (line ∷ others) =
    option_or (line_fault earlier number line) (first_fault (earlier ++ line ∷ []) (number + 1) others)

abbrev pub unless : {A : Type 0} → A → Option ConfigFault → Result A ConfigFault
unless x None = Ok x
unless x (Some fault) = Err fault

-- lines with nothing wrong
unfoldable pub checked : List Line → Result (List Line) ConfigFault
checked all = unless all (first_fault [] 1 all)

-- the first value that a line gives
abbrev pub first_some : {A : Type 0} → (Line → Option A) → List Line → Option A
first_some f [] = None
first_some f (line ∷ others) = option_or (f line) (first_some f others)

-- the number that a line gives to the key
abbrev pub number_from : Key → Line → Option ℕ
number_from key skipped = None
number_from key other = None
number_from key faulty = None
number_from key (setting k text) = if row_of k == row_of key then parse_decimal text else None

-- the preset that a line names
abbrev pub preset_from : Line → Option PresetName
preset_from skipped = None
preset_from other = None
preset_from faulty = None
preset_from (setting k text) = if row_of k == row_of PresetBase then preset_named text else None

-- each key's value, or the first key of the table that is missing
unfoldable pub values_of : List Line → Result ConfigValues ConfigFault
values_of all =
    or_fault (Missing PresetBase) (first_some preset_from all) then_read λ name.
    or_fault (Missing SecondsPerSlot) (first_some (number_from SecondsPerSlot) all) then_read λ seconds.
    or_fault (Missing MinValidatorWithdrawabilityDelay) (first_some (number_from MinValidatorWithdrawabilityDelay) all) then_read λ delay.
    or_fault (Missing ShardCommitteePeriod) (first_some (number_from ShardCommitteePeriod) all) then_read λ period.
    or_fault (Missing EjectionBalance) (first_some (number_from EjectionBalance) all) then_read λ ejection.
    or_fault (Missing MinPerEpochChurnLimit) (first_some (number_from MinPerEpochChurnLimit) all) then_read λ churn.
    or_fault (Missing ChurnLimitQuotient) (first_some (number_from ChurnLimitQuotient) all) then_read λ quotient.
    or_fault (Missing ProposerScoreBoost) (first_some (number_from ProposerScoreBoost) all) then_read λ boost.
    Ok (record {
      preset = preset_of name;
      seconds_per_slot = seconds;
      min_validator_withdrawability_delay = delay;
      shard_committee_period = period;
      ejection_balance = ejection;
      min_per_epoch_churn_limit = churn;
      churn_limit_quotient = quotient;
      proposer_score_boost = boost;
    })

-- the value, if the key may have it
unfoldable pub in_range : Key → ℕ → Result ℕ ConfigFault
in_range key value = if allows key value then Ok value else Err (OutOfRange key)

-- each value is in its key's range, or the first of the table is out of its range
unfoldable pub all_in_range : ConfigValues → Result ConfigValues ConfigFault
all_in_range values =
    in_range SecondsPerSlot values.seconds_per_slot then_read λ seconds.
    in_range MinValidatorWithdrawabilityDelay values.min_validator_withdrawability_delay then_read λ delay.
    in_range ShardCommitteePeriod values.shard_committee_period then_read λ period.
    in_range EjectionBalance values.ejection_balance then_read λ ejection.
    in_range MinPerEpochChurnLimit values.min_per_epoch_churn_limit then_read λ churn.
    in_range ChurnLimitQuotient values.churn_limit_quotient then_read λ quotient.
    in_range ProposerScoreBoost values.proposer_score_boost then_read λ boost.
    Ok values

-- how many bytes a configuration may have
abbrev pub max_config_len : ℕ
max_config_len = 65536

-- the configuration that the bytes write, or the first thing that is wrong with them. `lines` cuts them at each line
-- feed, drops one carriage return before a line feed, and takes no line from an empty rest behind the last line feed
unfoldable pub config_of : List ℕ → Result ConfigValues ConfigFault
config_of bytes =
    if nat_lt max_config_len (length bytes) then Err TooLong else (
    checked (map line_of (lines bytes)) then_read λ all.
    values_of all then_read λ values.
    all_in_range values)

-- a preset, and each value in its key's range; an ejection balance has none
pub record IsConfig (c : ConfigValues) : Type 0 where
  pub preset : IsPreset c.preset
  pub least_seconds_per_slot : 1 ≤ c.seconds_per_slot
  pub seconds_per_slot : c.seconds_per_slot < 2 ^ 32
  pub min_validator_withdrawability_delay : c.min_validator_withdrawability_delay < 2 ^ 32
  pub shard_committee_period : c.shard_committee_period < 2 ^ 32
  pub min_per_epoch_churn_limit : c.min_per_epoch_churn_limit < 2 ^ 32
  pub least_churn_limit_quotient : 1 ≤ c.churn_limit_quotient
  pub churn_limit_quotient : c.churn_limit_quotient < 2 ^ 32
  pub proposer_score_boost : c.proposer_score_boost ≤ 10000
