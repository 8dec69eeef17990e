-- A list beside a registry: what is left of it is the indices of those who are active among the validators that are left.
use Rattle.std.proofs.Common.{◌≡◌, ◌∙◌, ℕ, suc, ◌+◌, ◌<◌, true, false, cond, List, [], ◌∷◌, length, get_or, drop, refl, sym, ap, arith}
use Rattle.std.proofs.lemmas.List.{drop_more, drop_all}
use Rattle.beacon_types.specs.declared.validator.Validator.{Validator}
use Rattle.spec_state.specs.declared.plain.PlainState.{PlainState}
use Rattle.spec_state.specs.Predicates.{is_active_validator}
use Rattle.spec_state.specs.Accessors.{indices_from, get_active_validator_indices}
use Rattle.forensics.specs.inside.ActiveLists.{active_from}

-- the list goes on from the same place behind a validator that isn't active
pub passes_over : (epoch index : ℕ) (v : Validator) (left : List Validator) (rest : List ℕ) → is_active_validator v epoch ≡ false → rest ≡ active_from epoch (index + 1) left → rest ≡ active_from epoch index (v ∷ left)
unfolding active_from indices_from
passes_over epoch index v left rest is behind =
    let next : index + 1 ≡ suc index = omega arith in
    behind
    ∙ ap (λ j. indices_from (λ w. is_active_validator w epoch) j left) next
    ∙ sym (ap (λ b. cond b (index ∷ indices_from (λ w. is_active_validator w epoch) (suc index) left) (indices_from (λ w. is_active_validator w epoch) (suc index) left)) is)

-- and from the next one behind one that is
pub takes_off : (epoch index : ℕ) (v : Validator) (left : List Validator) (list : List ℕ) (place : ℕ) (d : ℕ) → is_active_validator v epoch ≡ true → place < length list → get_or list place d ≡ index
    → drop (place + 1) list ≡ active_from epoch (index + 1) left → drop place list ≡ active_from epoch index (v ∷ left)
unfolding active_from indices_from
takes_off epoch index v left list place d is less there behind =
    let next : index + 1 ≡ suc index = omega arith in
    drop_more list place d less
    ∙ ap (λ n. n ∷ drop (place + 1) list) there
    ∙ ap (λ xs. index ∷ xs) behind
    ∙ ap (λ j. index ∷ indices_from (λ w. is_active_validator w epoch) j left) next
    ∙ sym (ap (λ b. cond b (index ∷ indices_from (λ w. is_active_validator w epoch) (suc index) left) (indices_from (λ w. is_active_validator w epoch) (suc index) left)) is)

-- the whole registry
pub all_active : (epoch : ℕ) (state : PlainState) → active_from epoch 0 state.validators ≡ get_active_validator_indices state epoch
unfolding active_from get_active_validator_indices
all_active epoch state = refl

-- a list that is over has the indices of none
pub ends : (epoch index : ℕ) (list : List ℕ) (place : ℕ) → place ≡ length list → drop place list ≡ active_from epoch index []
unfolding active_from indices_from
ends epoch index list place is = drop_all place list (omega (arith, is))
