-- What is read at an index is what the definitions look up there.
use Rattle.std.proofs.Common.{◌≡◌, ℕ, zero, suc, ◌<◌, List, [], ◌∷◌, length, get_or, Some, None, refl, sym, ap, arith, slice_get}
use Rattle.beacon_types.specs.declared.validator.Validator.{Validator}
use Rattle.spec_state.specs.Misc.{effective_balance}

pub effective_some : (validators : List Validator) (index : ℕ) (v : Validator) → Some v ≡ slice_get validators index → effective_balance validators index ≡ v.effective_balance
unfolding effective_balance
effective_some [] index v e = absurd cc
effective_some (w ∷ validators) zero v e = ap (λ x. x.effective_balance) (let s : w ≡ v = cc in s)
effective_some (w ∷ validators) (suc index) v e = effective_some validators index v e

pub effective_none : (validators : List Validator) (index : ℕ) → None ≡ slice_get validators index → effective_balance validators index ≡ 0
unfolding effective_balance
effective_none [] index e = refl
effective_none (w ∷ validators) zero e = absurd cc
effective_none (w ∷ validators) (suc index) e = effective_none validators index e

-- a root at a place is what the definitions read there
pub read_there : (items : List (List ℕ)) (i : ℕ) (item : List ℕ) → Some item ≡ slice_get items i → item ≡ get_or items i []
read_there [] i item e = absurd cc
read_there (x ∷ items) zero item e = let same : x ≡ item = cc in sym same
read_there (x ∷ items) (suc i) item e = read_there items i item e

pub some_there : (items : List (List ℕ)) (i : ℕ) → i < length items → None ≡ slice_get items i → ⊥
some_there [] i h e = omega arith
some_there (x ∷ items) zero h e = absurd cc
some_there (x ∷ items) (suc i) h e = some_there items i (omega arith) e
