-- Reading in one pass finds what the definition says of all lines.
use Rattle.std.proofs.Common.{◌≡◌, ℕ, ◌+◌, Bool, true, false, cond, ◌||◌, nat_lt, ◌==◌, is_some, List, [], ◌∷◌, ◌++◌, length, map, Option, Some, None, Ok, Err, refl, ap, sym, ◌∙◌, append_assoc, append-nil}
use Rattle.std.specs.List.{list_any, AllByRecursion}
use Rattle.std.specs.Option.{option_or}
use Rattle.std.specs.Str.Lines.{lines}
use Rattle.bc_preset.specs.declared.keys.Key.{Key}
use Rattle.bc_preset.specs.declared.keys.Key.TheVariants.{PresetBase, SecondsPerSlot, MinValidatorWithdrawabilityDelay, ShardCommitteePeriod, EjectionBalance, MinPerEpochChurnLimit, ChurnLimitQuotient, ProposerScoreBoost}
use Rattle.bc_preset.specs.declared.faults.ConfigFault.{ConfigFault}
use Rattle.bc_preset.specs.declared.faults.ConfigFault.TheVariants.{TooLong, Twice, BadNumber, BadPreset}
use Rattle.bc_preset.specs.declared.settings.Settings.{Settings}
use Rattle.bc_preset.specs.Keys.{row_of}
use Rattle.bc_preset.specs.Numbers.{parse_decimal}
use Rattle.bc_preset.specs.Lines.{Line, skipped, other, setting, faulty, line_of}
use Rattle.bc_preset.specs.Configs.{◌then_read◌, or_fault, preset_named, sets, is_value, bad_value, line_fault, first_fault, unless, checked, first_some, number_from, preset_from, values_of, all_in_range, config_of}
use Rattle.bc_preset.specs.inside.OnePass.{is_set, with_number, set_key, after_line, after_lines, all_set, one_pass}

-- the values that lines give
abbrev settings_of : List Line → Settings
settings_of all =
    record {
      preset_base = first_some preset_from all;
      seconds_per_slot = first_some (number_from SecondsPerSlot) all;
      min_validator_withdrawability_delay = first_some (number_from MinValidatorWithdrawabilityDelay) all;
      shard_committee_period = first_some (number_from ShardCommitteePeriod) all;
      ejection_balance = first_some (number_from EjectionBalance) all;
      min_per_epoch_churn_limit = first_some (number_from MinPerEpochChurnLimit) all;
      churn_limit_quotient = first_some (number_from ChurnLimitQuotient) all;
      proposer_score_boost = first_some (number_from ProposerScoreBoost) all;
    }

option_or-none : {A : Type 0} (o : Option A) → option_or o None ≡ o
option_or-none None = refl
option_or-none (Some x) = refl

option_or_assoc : {A : Type 0} (o p q : Option A) → option_or o (option_or p q) ≡ option_or (option_or o p) q
option_or_assoc None p q = refl
option_or_assoc (Some x) p q = refl

option_or_unset : {A : Type 0} (o p : Option A) → is_some o ≡ false → option_or o p ≡ p
option_or_unset None p h = refl
option_or_unset (Some x) p h = cc

first_some-push : {A : Type 0} (f : Line → Option A) (all : List Line) (line : Line) → first_some f (all ++ line ∷ []) ≡ option_or (first_some f all) (f line)
first_some-push f [] line = option_or-none (f line)
first_some-push f (first ∷ all) line = ap (option_or (f first)) (first_some-push f all line) ∙ option_or_assoc (f first) (first_some f all) (f line)

some_or : {A : Type 0} (o p : Option A) → is_some (option_or o p) ≡ (is_some o || is_some p)
some_or None p = refl
some_or (Some x) p = refl

some_first : {A : Type 0} (f : Line → Option A) (all : List Line) → is_some (first_some f all) ≡ list_any (λ line. is_some (f line)) all
some_first f [] = refl
some_first f (line ∷ all) = some_or (f line) (first_some f all) ∙ ap (λ b. is_some (f line) || b) (some_first f all)

-- the line gives the key a value
abbrev gives : Key → Line → Bool
gives PresetBase line = is_some (preset_from line)
gives key line = is_some (number_from key line)

is_set_is : (all : List Line) (key : Key) → is_set (settings_of all) key ≡ list_any (gives key) all
unfolding is_set
is_set_is all PresetBase = some_first preset_from all
is_set_is all SecondsPerSlot = some_first (number_from SecondsPerSlot) all
is_set_is all MinValidatorWithdrawabilityDelay = some_first (number_from MinValidatorWithdrawabilityDelay) all
is_set_is all ShardCommitteePeriod = some_first (number_from ShardCommitteePeriod) all
is_set_is all EjectionBalance = some_first (number_from EjectionBalance) all
is_set_is all MinPerEpochChurnLimit = some_first (number_from MinPerEpochChurnLimit) all
is_set_is all ChurnLimitQuotient = some_first (number_from ChurnLimitQuotient) all
is_set_is all ProposerScoreBoost = some_first (number_from ProposerScoreBoost) all

-- the line's value is one of its key
abbrev has_value : Line → Bool
has_value skipped = true
has_value other = true
has_value faulty = true
has_value (setting key text) = is_value key text

picked : {A : Type 0} (b : Bool) (o : Option A) → is_some o ≡ true → is_some (cond b o None) ≡ b
picked true o h = h
picked false o h = refl

gives_is : (key : Key) (line : Line) → has_value line ≡ true → gives key line ≡ sets key line
gives_is PresetBase skipped h = refl
gives_is PresetBase other h = refl
gives_is PresetBase faulty h = refl
gives_is PresetBase (setting PresetBase text) h = h
gives_is PresetBase (setting k text) h = refl
gives_is key skipped h = refl
gives_is key other h = refl
gives_is key faulty h = refl
gives_is key (setting PresetBase text) h = refl
gives_is key (setting k text) h = picked (row_of k == row_of key) (parse_decimal text) h

-- each line's value is one of its key
abbrev HaveValues : List Line → Type 0
HaveValues all = AllByRecursion (λ line. has_value line ≡ true) all

any_gives_is : (key : Key) (all : List Line) → HaveValues all → list_any (gives key) all ≡ list_any (sets key) all
any_gives_is key [] h = refl
any_gives_is key (line ∷ all) h = ap (λ b. b || list_any (gives key) all) (gives_is key line h.0) ∙ ap (λ b. sets key line || b) (any_gives_is key all h.1)

-- a setting of a key that has no value yet
with_value : Settings → Key → List ℕ → Settings
with_value s PresetBase text = record s { preset_base = preset_named text }
with_value s SecondsPerSlot text = record s { seconds_per_slot = parse_decimal text }
with_value s MinValidatorWithdrawabilityDelay text = record s { min_validator_withdrawability_delay = parse_decimal text }
with_value s ShardCommitteePeriod text = record s { shard_committee_period = parse_decimal text }
with_value s EjectionBalance text = record s { ejection_balance = parse_decimal text }
with_value s MinPerEpochChurnLimit text = record s { min_per_epoch_churn_limit = parse_decimal text }
with_value s ChurnLimitQuotient text = record s { churn_limit_quotient = parse_decimal text }
with_value s ProposerScoreBoost text = record s { proposer_score_boost = parse_decimal text }

value_or : {A : Type 0} (o : Option A) (fault : ConfigFault) (f : Option A → Settings) → (or_fault fault o then_read (λ x. Ok (f (Some x)))) ≡ unless (f o) (cond (is_some o) None (Some fault))
value_or None fault f = refl
value_or (Some x) fault f = refl

set_key_is : (s : Settings) (number : ℕ) (key : Key) (text : List ℕ) → set_key s number key text ≡ unless (with_value s key text) (cond (is_value key text) None (Some (bad_value number key)))
unfolding set_key with_number with_value
set_key_is s number PresetBase text = value_or (preset_named text) (BadPreset number) (λ o. record s { preset_base = o })
set_key_is s number SecondsPerSlot text = value_or (parse_decimal text) (BadNumber number) (λ o. record s { seconds_per_slot = o })
set_key_is s number MinValidatorWithdrawabilityDelay text = value_or (parse_decimal text) (BadNumber number) (λ o. record s { min_validator_withdrawability_delay = o })
set_key_is s number ShardCommitteePeriod text = value_or (parse_decimal text) (BadNumber number) (λ o. record s { shard_committee_period = o })
set_key_is s number EjectionBalance text = value_or (parse_decimal text) (BadNumber number) (λ o. record s { ejection_balance = o })
set_key_is s number MinPerEpochChurnLimit text = value_or (parse_decimal text) (BadNumber number) (λ o. record s { min_per_epoch_churn_limit = o })
set_key_is s number ChurnLimitQuotient text = value_or (parse_decimal text) (BadNumber number) (λ o. record s { churn_limit_quotient = o })
set_key_is s number ProposerScoreBoost text = value_or (parse_decimal text) (BadNumber number) (λ o. record s { proposer_score_boost = o })

pub set_number : (s : Settings) (line : ℕ) (key : Key) (text : List ℕ) → (key ≡ PresetBase → ⊥) → set_key s line key text ≡ (or_fault (BadNumber line) (parse_decimal text) then_read (λ value. Ok (with_number s key value)))
unfolding set_key
set_number s line PresetBase text h = absurd (h refl)
set_number s line key text h = refl

settings_push : (all : List Line) (key : Key) (text : List ℕ) → is_set (settings_of all) key ≡ false → settings_of (all ++ setting key text ∷ []) ≡ with_value (settings_of all) key text
unfolding is_set with_value
settings_push all PresetBase text h = simp (first_some-push, option_or-none, option_or_unset (first_some preset_from all) (preset_named text) h)
settings_push all SecondsPerSlot text h = simp (first_some-push, option_or-none, option_or_unset (first_some (number_from SecondsPerSlot) all) (parse_decimal text) h)
settings_push all MinValidatorWithdrawabilityDelay text h = simp (first_some-push, option_or-none, option_or_unset (first_some (number_from MinValidatorWithdrawabilityDelay) all) (parse_decimal text) h)
settings_push all ShardCommitteePeriod text h = simp (first_some-push, option_or-none, option_or_unset (first_some (number_from ShardCommitteePeriod) all) (parse_decimal text) h)
settings_push all EjectionBalance text h = simp (first_some-push, option_or-none, option_or_unset (first_some (number_from EjectionBalance) all) (parse_decimal text) h)
settings_push all MinPerEpochChurnLimit text h = simp (first_some-push, option_or-none, option_or_unset (first_some (number_from MinPerEpochChurnLimit) all) (parse_decimal text) h)
settings_push all ChurnLimitQuotient text h = simp (first_some-push, option_or-none, option_or_unset (first_some (number_from ChurnLimitQuotient) all) (parse_decimal text) h)
settings_push all ProposerScoreBoost text h = simp (first_some-push, option_or-none, option_or_unset (first_some (number_from ProposerScoreBoost) all) (parse_decimal text) h)

settings_same : (all : List Line) (line : Line) → preset_from line ≡ None → ((key : Key) → number_from key line ≡ None) → settings_of (all ++ line ∷ []) ≡ settings_of all
settings_same all line p h = simp (first_some-push, p, h, option_or-none)

setting_step : (earlier : List Line) (number : ℕ) (key : Key) (text : List ℕ) (b : Bool) → is_set (settings_of earlier) key ≡ b
    → cond (is_set (settings_of earlier) key) (Err (Twice number)) (set_key (settings_of earlier) number key text)
    ≡ unless (settings_of (earlier ++ setting key text ∷ [])) (cond b (Some (Twice number)) (cond (is_value key text) None (Some (bad_value number key))))
setting_step earlier number key text true e = rw e refl
setting_step earlier number key text false e = rw (e, settings_push earlier key text e) (set_key_is (settings_of earlier) number key text)

-- a line behind earlier ones
step : (earlier : List Line) → HaveValues earlier → (number : ℕ) (line : Line) → after_line (settings_of earlier) number line ≡ unless (settings_of (earlier ++ line ∷ [])) (line_fault earlier number line)
unfolding after_line line_fault
step earlier h number skipped = ap Ok (sym (settings_same earlier skipped refl (λ key. refl)))
step earlier h number other = ap Ok (sym (settings_same earlier other refl (λ key. refl)))
step earlier h number faulty = refl
step earlier h number (setting key text) =
    setting_step earlier number key text (list_any (sets key) earlier) (is_set_is earlier key ∙ any_gives_is key earlier h)

no_fault : (b v : Bool) (f g : ConfigFault) → cond b (Some f) (cond v None (Some g)) ≡ None → v ≡ true
no_fault true v f g e = cc
no_fault false true f g e = refl
no_fault false false f g e = cc

kept : (earlier : List Line) (number : ℕ) (line : Line) → line_fault earlier number line ≡ None → has_value line ≡ true
unfolding line_fault
kept earlier number skipped e = refl
kept earlier number other e = refl
kept earlier number faulty e = refl
kept earlier number (setting key text) e = no_fault (list_any (sets key) earlier) (is_value key text) (Twice number) (bad_value number key) e

HaveValues-push : (all : List Line) (line : Line) → HaveValues all → has_value line ≡ true → HaveValues (all ++ line ∷ [])
HaveValues-push [] line h e = (e, tt)
HaveValues-push (first ∷ all) line h e = (h.0, HaveValues-push all line h.1 e)

-- lines behind earlier ones
run : (earlier : List Line) → HaveValues earlier → (number : ℕ) (rest : List (List ℕ))
    → after_lines (settings_of earlier) number rest ≡ unless (settings_of (earlier ++ map line_of rest)) (first_fault earlier number (map line_of rest))
unfolding after_lines first_fault
run earlier h number [] = ap (λ all. Ok (settings_of all)) (sym (append-nil earlier))
run earlier h number (first ∷ rest) =
    let line = line_of first in
    let others = map line_of rest in
    ap (λ r. r then_read (λ t. after_lines t (number + 1) rest)) (step earlier h number line)
    ∙ (elim (line_fault earlier number line) as (λ o. line_fault earlier number line ≡ o
    → (unless (settings_of (earlier ++ line ∷ [])) o then_read (λ t. after_lines t (number + 1) rest))
    ≡ unless (settings_of (earlier ++ (line ∷ others))) (option_or o (first_fault (earlier ++ line ∷ []) (number + 1) others))) [
      | None ↦ λ e. run (earlier ++ line ∷ []) (HaveValues-push earlier line h (kept earlier number line e)) (number + 1) rest
          ∙ ap (λ all. unless (settings_of all) (first_fault (earlier ++ line ∷ []) (number + 1) others)) (append_assoc earlier (line ∷ []) others)
      | Some fault ↦ λ e. refl
    ] refl)

values_same : (all : List Line) (o : Option ConfigFault) → (unless (settings_of all) o then_read (λ s. all_set s then_read all_in_range)) ≡ (unless all o then_read (λ lines. values_of lines then_read all_in_range))
unfolding all_set values_of
values_same all None = refl
values_same all (Some fault) = refl

pub one_pass_is : (bytes : List ℕ) → one_pass bytes ≡ config_of bytes
unfolding one_pass config_of checked
one_pass_is bytes =
    let all = map line_of (lines bytes) in
    let read = run [] tt 1 (lines bytes) in
    ap (λ r. cond (nat_lt 65536 (length bytes)) (Err TooLong) (r then_read (λ s. all_set s then_read all_in_range))) read
    ∙ ap (λ r. cond (nat_lt 65536 (length bytes)) (Err TooLong) r) (values_same all (first_fault [] 1 all))
