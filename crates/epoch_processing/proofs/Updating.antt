-- The loop over what was read of the validators that notes those that change, and stops with the first that stops. What it has noted
-- up to a place makes the front of the registry what it becomes.
use Rattle.std.proofs.Common.{◌≡◌, ℕ, zero, suc, ◌+◌, ◌-◌, ◌%◌, min, ◌<◌, Bool, true, false, if◌then◌else◌, List, [], ◌∷◌, ◌++◌, length, take, get_or, slice_get, Option, Some, None, refl, sym, ap, subst, ◌∙◌, arith}
use Rattle.std.specs.Option.{option_map}
use Rattle.std.specs.List.{range_with_len}
use Rattle.std.proofs.lemmas.List.{length-map, take_more}
use Rattle.std.proofs.lemmas.Option.{slice_get-map, slice_get-get_or, slice_get_within, get_or_from_slice_get}
use Rattle.bc_words.specs.Outcome.{Outcome, done, refused, limited, bind, StopsExactly}
use Rattle.bc_words.specs.declared.refusal.Refusal.TheVariants.{IndexRange}
use Rattle.bc_words.specs.declared.stop.Stop.{Stop}
use Rattle.bc_words.proofs.Outcomes.{exactly_bound}
use Rattle.bc_preset.specs.declared.presets.Preset.{Preset}
use Rattle.beacon_types.specs.declared.validator.Validator.{Validator}
use Rattle.tree_nodes.specs.Changes.{AreChanges}
use Rattle.tree_nodes.proofs.Many.{more_places, wider}
use Rattle.validator_registry.specs.Registries.{with_balance, with_balances}
use Rattle.validator_registry.proofs.GroupChanges.{balance_push}
use Rattle.spec_state.specs.declared.plain.PlainState.{PlainState}
use Rattle.spec_epochs.specs.Each.{checked_map}
use Rattle.spec_epochs.specs.ProcessEffectiveBalanceUpdates.{updated_validator, is_out_of_bounds}
use Rattle.spec_epochs.proofs.Each.{made_from, made_begins}
use Rattle.balance_totals.specs.declared.stake.Stake.{Stake}
use Rattle.balance_totals.specs.inside.Stakes.{balances_read, effective_balances}
use Rattle.epoch_processing.specs.inside.Updates.{IsNoted, with_effective, updated_balance}

-- ---- one validator

-- the validator at a place, whose effective balance is known
pub record Found (validators : List Validator) (i effective : ℕ) : Type 0 where
  pub validator : Validator
  pub here : slice_get validators i ≡ Some validator
  pub has : validator.effective_balance ≡ effective

pub found_at : (validators : List Validator) (i effective : ℕ) → slice_get (effective_balances validators) i ≡ Some effective → Found validators i effective
unfolding effective_balances
found_at [] zero effective e = absurd cc
found_at [] (suc i) effective e = absurd cc
found_at (v ∷ validators) zero effective e = let same : v.effective_balance ≡ effective = cc in record { validator = v; here = refl; has = same }
found_at (v ∷ validators) (suc i) effective e = let rest = found_at validators i effective e in record { validator = rest.validator; here = rest.here; has = rest.has }

if_changed : (v : Validator) (outcome : Outcome Bool) (effective : ℕ) → bind outcome (λ changes. done (if changes then record v { effective_balance = effective } else v))
    ≡ bind (bind outcome (λ changes. done (if changes then effective else v.effective_balance))) (λ e. done (record v { effective_balance = e }))
if_changed v (done true) effective = refl
if_changed v (done false) effective = refl
if_changed v (refused why) effective = refl
if_changed v (limited bound) effective = refl

module _ (state : PlainState) (i effective : ℕ) (at : slice_get (effective_balances state.validators) i ≡ Some effective) where
  -- without a balance
  pub no_balance : slice_get state.balances i ≡ None → updated_validator state i ≡ refused IndexRange
  unfolding updated_validator
  no_balance none = let f = found_at state.validators i effective at in rw (f.here, none) refl

  module _ (preset : Preset) (balance : ℕ) (of : preset ≡ state.preset) (is : slice_get state.balances i ≡ Some balance) where
    -- it is the one that is there, with the effective balance that follows
    made_by : (f : Found state.validators i effective) → updated_validator state i ≡ bind (updated_balance preset balance effective) (λ e. done (record f.validator { effective_balance = e }))
    unfolding updated_validator updated_balance
    made_by f =
        let whole = min (balance - balance % state.preset.effective_balance_increment) state.preset.max_effective_balance in
        rw (f.here, is) (if_changed f.validator (is_out_of_bounds state.preset balance f.validator.effective_balance) whole)
        ∙ ap (λ (b : ℕ). bind (bind (is_out_of_bounds state.preset balance b) (λ changes. done (if changes then whole else b))) (λ e. done (record f.validator { effective_balance = e }))) f.has
        ∙ ap (λ (p : Preset). bind (updated_balance p balance effective) (λ e. done (record f.validator { effective_balance = e }))) (sym of)

    pub stops_by : (stop : Stop) → StopsExactly stop (updated_balance preset balance effective) → StopsExactly stop (updated_validator state i)
    stops_by stop e = let f = found_at state.validators i effective at in subst (StopsExactly stop) (sym (made_by f)) (exactly_bound stop (updated_balance preset balance effective) _ e)

    -- where it was done, the validator has that effective balance
    pub gives_by : (other : ℕ) → updated_balance preset balance effective ≡ done other → (v : Validator) → slice_get state.validators i ≡ Some v → updated_validator state i ≡ done (record v { effective_balance = other })
    gives_by other e v there =
        let f = found_at state.validators i effective at in
        let one : f.validator ≡ v = cc (f.here, there) in
        made_by f
        ∙ ap (λ (o : Outcome ℕ). bind o (λ b. done (record f.validator { effective_balance = b }))) e
        ∙ ap (λ (x : Validator). done (record x { effective_balance = other })) one

    -- and is as before where that is the one that it had
    pub stays_by : (other : ℕ) → updated_balance preset balance effective ≡ done other → other ≡ effective → (v : Validator) → slice_get state.validators i ≡ Some v → updated_validator state i ≡ done v
    stays_by other e same v there =
        let f = found_at state.validators i effective at in
        let one : f.validator ≡ v = cc (f.here, there) in
        gives_by other e v there
        ∙ ap (λ (b : ℕ). done (record v { effective_balance = b })) (same ∙ sym f.has ∙ ap (λ (x : Validator). x.effective_balance) one)

-- ---- all of them

module _ (stakes : List Stake) (validators : List Validator) (read : balances_read stakes ≡ effective_balances validators) where
  -- as many were read as there are
  pub as_many_read : length stakes ≡ length validators
  unfolding balances_read effective_balances
  as_many_read = sym (length-map stakes (λ s. s.effective_balance)) ∙ ap length read ∙ length-map validators (λ v. v.effective_balance)

  pub balance_read : (i : ℕ) (none : Stake) → i < length stakes → slice_get (effective_balances validators) i ≡ Some (get_or stakes i none).effective_balance
  unfolding balances_read
  balance_read i none less =
      ap (λ (all : List ℕ). slice_get all i) (sym read)
      ∙ slice_get-map (λ s. s.effective_balance) stakes i
      ∙ ap (λ (o : Option Stake). option_map (λ s. s.effective_balance) o) (slice_get-get_or stakes i none less)

  -- and the validator stands there
  pub found_read : (i : ℕ) (none : Stake) → i < length stakes → Found validators i (get_or stakes i none).effective_balance
  found_read i none less = found_at validators i (get_or stakes i none).effective_balance (balance_read i none less)

none_taken : {A : Type 0} (xs : List A) → take 0 xs ≡ []
none_taken [] = refl
none_taken (x ∷ xs) = refl

-- nothing was looked at yet
pub none_noted : (make : ℕ → Outcome Validator) (items : List Validator) (i n : ℕ) (changes : List (ℕ × ℕ)) → i ≡ 0
    → made_from make n i (take i (with_balances items changes)) ≡ checked_map make (range_with_len 0 n)
none_noted make items i n changes first =
    ap (λ (k : ℕ). made_from make n k (take k (with_balances items changes))) first
    ∙ ap (made_from make n 0) (none_taken (with_balances items changes))
    ∙ made_begins make n

front_more : {A : Type 0} (xs : List A) (i : ℕ) (x : A) → slice_get xs i ≡ Some x → take (i + 1) xs ≡ take i xs ++ x ∷ []
front_more xs i x is = take_more xs i x (slice_get_within xs i x is) ∙ ap (λ y. take i xs ++ y ∷ []) (get_or_from_slice_get xs i x x is)

-- another effective balance at a place leaves those behind it
other_place : (vs : List Validator) (at k balance : ℕ) → at < k → slice_get (with_balance vs at balance) k ≡ slice_get vs k
unfolding with_balance
other_place [] at k balance less = refl
other_place (v ∷ vs) zero zero balance less = absurd (omega arith)
other_place (v ∷ vs) zero (suc k) balance less = refl
other_place (v ∷ vs) (suc at) zero balance less = absurd (omega arith)
other_place (v ∷ vs) (suc at) (suc k) balance less = other_place vs at k balance (omega arith)

other_places : (vs : List Validator) (low k : ℕ) (cs : List (ℕ × ℕ)) → AreChanges low k cs → slice_get (with_balances vs cs) k ≡ slice_get vs k
unfolding with_balances
other_places vs low k [] are = refl
other_places vs low k (c ∷ cs) are = other_place (with_balances vs cs) c.0 k c.1 are.1 ∙ other_places vs (suc c.0) k cs are.2

-- it is that of the one there
this_place : (vs : List Validator) (i balance : ℕ) (v : Validator) → slice_get vs i ≡ Some v → slice_get (with_balance vs i balance) i ≡ Some (record v { effective_balance = balance })
unfolding with_balance
this_place [] zero balance v is = absurd cc
this_place [] (suc i) balance v is = absurd cc
this_place (w ∷ vs) zero balance v is = let same : w ≡ v = cc in ap (λ (x : Validator). Some (record x { effective_balance = balance })) same
this_place (w ∷ vs) (suc i) balance v is = this_place vs i balance v is

-- and those before it are as before
before_place : (vs : List Validator) (i balance : ℕ) → take i (with_balance vs i balance) ≡ take i vs
unfolding with_balance
before_place [] i balance = refl
before_place (v ∷ vs) zero balance = refl
before_place (v ∷ vs) (suc i) balance = ap (λ (r : List Validator). v ∷ r) (before_place vs i balance)

-- one more was looked at
pub noted_more : (items : List Validator) (i : ℕ) (before after : List (ℕ × ℕ)) (kept : Validator) (another : Option ℕ) → AreChanges 0 i before → slice_get items i ≡ Some kept → IsNoted another i before after
    → AreChanges 0 (i + 1) after × (take (i + 1) (with_balances items after) ≡ take i (with_balances items before) ++ with_effective kept another ∷ [])
noted_more items i before after kept None places is noted = (
  subst (λ (cs : List (ℕ × ℕ)). AreChanges 0 (i + 1) cs) (sym noted) (wider 0 i (i + 1) before (omega arith) places),
  ap (λ (cs : List (ℕ × ℕ)). take (i + 1) (with_balances items cs)) noted
      ∙ front_more (with_balances items before) i kept (other_places items 0 i before places ∙ is),
)
noted_more items i before after kept (Some balance) places is noted =
    let earlier = with_balances items before in
    let now = this_place earlier i balance kept (other_places items 0 i before places ∙ is) in (
      subst (λ (cs : List (ℕ × ℕ)). AreChanges 0 (i + 1) cs) (sym noted) (more_places 0 i before balance (omega arith) places),
      ap (λ (cs : List (ℕ × ℕ)). take (i + 1) (with_balances items cs)) noted
          ∙ ap (λ (vs : List Validator). take (i + 1) vs) (balance_push items 0 i balance before places)
          ∙ front_more (with_balance earlier i balance) i (record kept { effective_balance = balance }) now
          ∙ ap (λ (vs : List Validator). vs ++ record kept { effective_balance = balance } ∷ []) (before_place earlier i balance),
    )
