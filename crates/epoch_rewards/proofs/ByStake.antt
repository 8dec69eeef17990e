-- Those whose flag is set, from an index on, by what was gathered of the validator with that index.
use Rattle.std.proofs.Common.{◌≡◌, ℕ, ◌+◌, Bool, true, false, List, ◌∷◌, get_or, Option, Some, None, slice_get, refl, sym, ap, ◌∙◌}
use Rattle.std.specs.Option.{option_map}
use Rattle.beacon_types.specs.declared.validator.Validator.{Validator}
use Rattle.spec_state.specs.declared.plain.PlainState.{PlainState}
use Rattle.spec_state.specs.Misc.{effective_balance}
use Rattle.spec_state.specs.Accessors.{get_previous_epoch}
use Rattle.balance_totals.specs.declared.stake.Stake.{Stake}
use Rattle.balance_totals.specs.inside.Stakes.{stake_of, stakes_of}
use Rattle.balance_totals.proofs.Gathered.{read_at}
use Rattle.epoch_rewards.specs.inside.Marks.{flagged_from}
use Rattle.epoch_rewards.proofs.Weighed.{one_counts, one_slashed, one_absent, none_there, weight_read}

-- the validator behind a stake
record Behind (state : PlainState) (index : ℕ) (s : Stake) : Type 0 where
  v : Validator
  at : Some v ≡ slice_get state.validators index
  slashed : v.slashed ≡ s.slashed
  balance : v.effective_balance ≡ s.effective_balance

behind : (previous : ℕ) (state : PlainState) (index : ℕ) (s : Stake) (o : Option Validator) → slice_get state.validators index ≡ o → Some s ≡ option_map (stake_of previous) o → Behind state index s
unfolding stake_of
behind previous state index s None found e = absurd cc
behind previous state index s (Some v) found e = let same : stake_of previous v ≡ s = cc in record {
  v = v;
  at = sym found;
  slashed = ap (λ x. x.slashed) same;
  balance = ap (λ x. x.effective_balance) same;
}

module _ (state : PlainState) (stakes : List Stake) (flags : List Bool) (index : ℕ) (s : Stake) (all : stakes ≡ stakes_of state) (at : Some s ≡ slice_get stakes index) where
  its : Behind state index s
  its = behind (get_previous_epoch state) state index s (slice_get state.validators index) refl (at ∙ ap (λ ss. slice_get ss index) all ∙ read_at state index)

  pub stake_counts : s.slashed ≡ false → get_or flags index false ≡ true → flagged_from state flags index ≡ index ∷ flagged_from state flags (index + 1)
  stake_counts unslashed flag = one_counts state flags index its.v its.at (its.slashed ∙ unslashed) flag

  pub stake_slashed : s.slashed ≡ true → flagged_from state flags index ≡ flagged_from state flags (index + 1)
  stake_slashed slashed = one_slashed state flags index its.v its.at (its.slashed ∙ slashed)

  pub stake_absent : get_or flags index false ≡ false → flagged_from state flags index ≡ flagged_from state flags (index + 1)
  stake_absent flag = one_absent state flags index its.v its.at flag

  pub stake_read : s.effective_balance ≡ effective_balance state.validators index
  stake_read = sym its.balance ∙ weight_read state index its.v its.at

no_validator : (previous : ℕ) (o : Option Validator) → None ≡ option_map (stake_of previous) o → None ≡ o
no_validator previous None e = refl
no_validator previous (Some v) e = absurd cc

pub no_one : (state : PlainState) (stakes : List Stake) (flags : List Bool) (index : ℕ) → stakes ≡ stakes_of state → None ≡ slice_get stakes index → flagged_from state flags index ≡ flagged_from state flags (index + 1)
no_one state stakes flags index all at = none_there state flags index (no_validator (get_previous_epoch state) (slice_get state.validators index) (at ∙ ap (λ ss. slice_get ss index) all ∙ read_at state index))

pub ruleset counting = (stake_counts, stake_slashed, stake_absent, stake_read, no_one)
