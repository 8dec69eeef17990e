-- The queue of those who wait, by their ranks: the epoch since which a validator waits, and its index.
use Rattle.std.specs.Prelude.{◌≡◌, ℕ, Bool, true, ◌&&◌, ◌||◌, ◌==◌, nat_lt, if◌then◌else◌, List, ◌++◌, map, filter, take, drop, Option, Some, None, slice_get, IsPermutation}
use Rattle.std.specs.List.{enumerate_from}
use Rattle.std.specs.List.Sorted.{IsSorted}
use Rattle.std.specs.Ordering.{nat_cmp, ordering_then}
use Rattle.std.specs.declared.cmp.Ordering.{Ordering}
use Rattle.bc_preset.specs.declared.configuration.ConfigValues.{ConfigValues}
use Rattle.beacon_types.specs.declared.validator.Validator.{Validator}
use Rattle.spec_state.specs.declared.plain.PlainState.{PlainState}
use Rattle.spec_state.specs.Predicates.{is_eligible_for_activation}
use Rattle.spec_epochs.specs.ProcessRegistryUpdates.{is_dequeued}

-- the rank of a validator with its index
unfoldable pub rank_of : ℕ × Validator → ℕ × ℕ
rank_of entry = (entry.1.activation_eligibility_epoch, entry.0)

-- the ranks of those who wait among these validators, the first of which has this index
unfoldable pub ranks_from : PlainState → ℕ → List Validator → List (ℕ × ℕ)
ranks_from state index validators = map rank_of (filter (λ entry. is_eligible_for_activation state entry.1) (enumerate_from index validators))

-- whether a rank comes before another
unfoldable pub before : ℕ × ℕ → ℕ × ℕ → Bool
before rank other = nat_lt rank.0 other.0 || ((rank.0 == other.0) && nat_lt rank.1 other.1)

-- the same as an order
abbrev pub rank_cmp : ℕ × ℕ → ℕ × ℕ → Ordering
rank_cmp rank other = ordering_then (nat_cmp rank.0 other.0) (nat_cmp rank.1 other.1)

-- the ranks of all who wait, in their order
abbrev pub IsQueue : PlainState → List (ℕ × ℕ) → Type 0
IsQueue state ranks = IsPermutation (ranks_from state 0 state.validators) ranks × IsSorted rank_cmp ranks

-- whether a rank comes before the bar, where there is one
unfoldable pub before_bar : Option (ℕ × ℕ) → ℕ × ℕ → Bool
before_bar None rank = true
before_bar (Some bar) rank = before rank bar

-- whether a validator is let in by the bar
unfoldable pub is_let_in : PlainState → Option (ℕ × ℕ) → ℕ × Validator → Bool
is_let_in state bar entry = is_eligible_for_activation state entry.1 && before_bar bar (rank_of entry)

-- the bar lets in those that are dequeued
unfoldable pub IsBar : PlainState → ConfigValues → Option (ℕ × ℕ) → Type 0
IsBar state config bar = (index : ℕ) (validator : Validator) → slice_get state.validators index ≡ Some validator → is_dequeued state config (index, validator) ≡ is_let_in state bar (index, validator)

-- a validator that is active from an epoch on, where the bar lets it in
unfoldable pub activated : PlainState → Option (ℕ × ℕ) → ℕ → ℕ × Validator → Validator
activated state bar epoch entry = if is_let_in state bar entry then record entry.1 { activation_epoch = epoch } else entry.1

-- the state where the validators from an index on are let in
unfoldable pub let_in_from : PlainState → Option (ℕ × ℕ) → ℕ → ℕ → PlainState
let_in_from state bar epoch index =
    record state { validators = take index state.validators ++ map (activated state bar epoch) (enumerate_from index (drop index state.validators)) }
