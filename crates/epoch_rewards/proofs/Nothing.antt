-- Nothing for each validator.
use Rattle.std.proofs.Common.{◌≡◌, ℕ, zero, suc, ◌+◌, ◌∷◌, length, map, replicate, refl, ap}
use Rattle.std.specs.List.{range_with_len}
use Rattle.spec_state.specs.declared.plain.PlainState.{PlainState}
use Rattle.spec_epochs.specs.Each.{validator_indices}

nothing_from : (start n : ℕ) → map {B = ℕ} (λ (index : ℕ). 0) (range_with_len start n) ≡ replicate n 0
nothing_from start zero = refl
nothing_from start (suc n) = ap (λ xs. 0 ∷ xs) (nothing_from (start + 1) n)

pub nothing_is : (state : PlainState) → map {B = ℕ} (λ (index : ℕ). 0) (validator_indices state) ≡ replicate (length state.validators) 0
unfolding validator_indices
nothing_is state = nothing_from 0 (length state.validators)
