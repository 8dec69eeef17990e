-- Validators with other effective balances are ones that their codec has.
use Rattle.std.proofs.Common.{◌≡◌, ℕ, zero, suc, ◌<◌, ◌^◌, List, [], ◌∷◌, Result, Ok, Err, sym, subst}
use Rattle.std.specs.List.{AllByRecursion}
use Rattle.bc_words.specs.Outcome.{Becomes}
use Rattle.bc_words.specs.declared.stop.NoMemory.{NoMemory}
use Rattle.ssz_codec.specs.Layout.{OffsetsFit}
use Rattle.beacon_types.specs.declared.validator.Validator.{Validator}
use Rattle.beacon_types.specs.Containers.{validator_codec}
use Rattle.validator_registry.specs.Registries.{with_balance, with_balances}

one_balanced : (v : Validator) (balance : ℕ) → validator_codec.Within v → balance < 2 ^ 64 → validator_codec.Within (record v { effective_balance = balance })
unfolding OffsetsFit
one_balanced v balance is low =
    let fields = is.0 in
    (((((((fields.0.0.0.0.0.0, low), fields.0.0.0.0.1), fields.0.0.0.1), fields.0.0.1), fields.0.1), fields.1), is.1)

balanced_at : (validators : List Validator) (at balance : ℕ) → AllByRecursion validator_codec.Within validators → balance < 2 ^ 64 → AllByRecursion validator_codec.Within (with_balance validators at balance)
unfolding with_balance
balanced_at [] at balance all low = all
balanced_at (v ∷ vs) zero balance all low = (one_balanced v balance all.0 low, all.1)
balanced_at (v ∷ vs) (suc at) balance all low = (all.0, balanced_at vs at balance all.1 low)

all_balanced : (validators : List Validator) (changes : List (ℕ × ℕ)) → AllByRecursion validator_codec.Within validators → AllByRecursion (λ (change : ℕ × ℕ). change.1 < 2 ^ 64) changes
    → AllByRecursion validator_codec.Within (with_balances validators changes)
unfolding with_balances
all_balanced validators [] all low = all
all_balanced validators (change ∷ changes) all low = balanced_at (with_balances validators changes) change.0 change.1 (all_balanced validators changes all low.1) low.0

-- also where memory was refused
pub become_balanced : {U : Type 0} (result : Result U NoMemory) (old new : List Validator) (changes : List (ℕ × ℕ)) → Becomes result old new (with_balances old changes)
    → AllByRecursion validator_codec.Within old → AllByRecursion (λ (change : ℕ × ℕ). change.1 < 2 ^ 64) changes → AllByRecursion validator_codec.Within new
become_balanced (Ok x) old new changes is all low = subst (AllByRecursion validator_codec.Within) (sym is) (all_balanced old changes all low)
become_balanced (Err stop) old new changes is all low = subst (AllByRecursion validator_codec.Within) (sym is) all
