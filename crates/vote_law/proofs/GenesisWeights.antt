-- The weights of genesis: what a state whose validators are those of genesis sums is what they weigh.
use Rattle.std.proofs.Common.{◌≡◌, ◌∙◌, ℕ, suc, ◌+◌, ◌-◌, ◌≤◌, inl, inr, max, Bool, true, false, if◌then◌else◌, List, [], ◌∷◌, map, sum, slice_index, refl, sym, ap, subst, arith}
use Rattle.std.specs.List.{filter}
use Rattle.std.proofs.lemmas.List.Sums.{sum_by-cons}
use Rattle.bc_words.specs.Outcome.{done}
use Rattle.beacon_types.specs.declared.validator.Validator.{Validator}
use Rattle.spec_state.specs.declared.plain.PlainState.{PlainState}
use Rattle.spec_state.specs.Misc.{effective_balance}
use Rattle.spec_state.specs.Predicates.{is_active_validator}
use Rattle.spec_state.specs.Accessors.{get_active_validator_indices, get_total_balance, indices_from}
use Rattle.ffg_law.specs.Weights.{AscendsFrom, IsSet}
use Rattle.ffg_law.specs.Links.{IsOneOf}
use Rattle.ffg_law.specs.Histories.{total_of, total_of_all}
use Rattle.ffg_law.proofs.Totals.{plain_total, total_done, total_is}
use Rattle.spec_forensics.specs.Steady.{genesis_weights, IsSteadyIn}

-- ---- ascending indices

lower : (low high : ℕ) (indices : List ℕ) → low ≤ high → AscendsFrom high indices → AscendsFrom low indices
lower low high [] less ascends = tt
lower low high (i ∷ indices) less ascends = (let first : high ≤ i = ascends.0 in omega arith, ascends.1)

either : (b : Bool) (low : ℕ) (indices : List ℕ) → AscendsFrom (low + 1) indices → AscendsFrom low (if b then low ∷ indices else indices)
either true low indices ascends = (omega arith, ascends)
either false low indices ascends = lower low (low + 1) indices (omega arith) ascends

pub tested_ascend : (test : Validator → Bool) (low : ℕ) (vs : List Validator) → AscendsFrom low (indices_from test low vs)
unfolding indices_from
tested_ascend test low [] = tt
tested_ascend test low (v ∷ vs) = either (test v) low (indices_from test (suc low) vs) (let rest = tested_ascend test (suc low) vs in subst (λ (k : ℕ). AscendsFrom k (indices_from test (suc low) vs)) (let e : suc low ≡ low + 1 = omega arith in e) rest)

filter_either : (b : Bool) (low x : ℕ) (xs : List ℕ) → low ≤ x → AscendsFrom (x + 1) xs → AscendsFrom low (if b then x ∷ xs else xs)
filter_either true low x xs from ascends = (from, ascends)
filter_either false low x [] from ascends = tt
filter_either false low x (y ∷ ys) from ascends = (let more : x + 1 ≤ y = ascends.0 in omega arith, ascends.1)

pub filter_ascends : (p : ℕ → Bool) (low : ℕ) (xs : List ℕ) → AscendsFrom low xs → AscendsFrom low (filter p xs)
filter_ascends p low [] ascends = tt
filter_ascends p low (x ∷ xs) ascends = filter_either (p x) low x (filter p xs) ascends.0 (filter_ascends p (x + 1) xs ascends.1)

abbrev first_or : ℕ → List ℕ → ℕ
first_or n [] = n
first_or n (x ∷ xs) = x

abbrev rest_of : List ℕ → List ℕ
rest_of [] = []
rest_of (x ∷ xs) = xs

map_same : (f g : ℕ → ℕ) (xs : List ℕ) (x : ℕ) → map f xs ≡ map g xs → IsOneOf x xs → f x ≡ g x
map_same f g [] x same one = absurd one
map_same f g (y ∷ ys) x same (inl e) = subst (λ (k : ℕ). f k ≡ g k) e (ap (first_or 0) same)
map_same f g (y ∷ ys) x same (inr one) = map_same f g ys x (ap rest_of same) one

total_same : (f g : ℕ → ℕ) (xs : List ℕ) → ((x : ℕ) → IsOneOf x xs → f x ≡ g x) → plain_total f xs ≡ plain_total g xs
total_same f g [] same = refl
total_same f g (x ∷ xs) same = let one = same x (inl refl) in let rest = total_same f g xs (λ y one. same y (inr one)) in omega arith

-- ---- the weights of genesis

abbrev weights_by : (Validator → Bool) → List Validator → List ℕ
weights_by test vs = map (λ v. if test v then v.effective_balance else 0) vs

weighs_either : (b : Bool) (low i : ℕ) (xs : List ℕ) → IsOneOf i (if b then low ∷ xs else xs) → (G : Type 0) → (b ≡ true → low ≡ i → G) → (IsOneOf i xs → G) → G
weighs_either true low i xs (inl e) G here later = here refl e
weighs_either true low i xs (inr one) G here later = later one
weighs_either false low i xs one G here later = later one

weighs_first : (test : Validator → Bool) (low : ℕ) (v : Validator) (vs : List Validator) (i : ℕ) (b : Bool) → test v ≡ b → IsOneOf i (indices_from test low (v ∷ vs))
    → (IsOneOf i (indices_from test (suc low) vs) → (suc low ≤ i) × (slice_index (weights_by test vs) (i - suc low) ≡ effective_balance vs (i - suc low)))
    → (low ≤ i) × (slice_index (weights_by test (v ∷ vs)) (i - low) ≡ effective_balance (v ∷ vs) (i - low))
unfolding indices_from effective_balance
weighs_first test low v vs i b is one rest =
    let later : IsOneOf i (indices_from test (suc low) vs) → (low ≤ i) × (slice_index (weights_by test (v ∷ vs)) (i - low) ≡ effective_balance (v ∷ vs) (i - low)) = λ k.
    let r = rest k in
    let from : suc low ≤ i = r.0 in
    let e : i - low ≡ suc (i - suc low) = omega arith in
    (omega arith, subst (λ (j : ℕ). slice_index (weights_by test (v ∷ vs)) j ≡ effective_balance (v ∷ vs) j) (sym e) r.1) in
    weighs_either b low i (indices_from test (suc low) vs) (subst (λ (b : Bool). IsOneOf i (if b then low ∷ indices_from test (suc low) vs else indices_from test (suc low) vs)) is one)
    ((low ≤ i) × (slice_index (weights_by test (v ∷ vs)) (i - low) ≡ effective_balance (v ∷ vs) (i - low)))
    (λ passes e.
    let z : i - low ≡ 0 = omega arith in
    (omega arith, subst (λ (j : ℕ). slice_index (weights_by test (v ∷ vs)) j ≡ effective_balance (v ∷ vs) j) (sym z) (ap (λ (b : Bool). if b then v.effective_balance else 0) (is ∙ passes)))) later

-- one that passes the test has its effective balance as its weight
weighs_at : (test : Validator → Bool) (low : ℕ) (vs : List Validator) (i : ℕ) → IsOneOf i (indices_from test low vs) → (low ≤ i) × (slice_index (weights_by test vs) (i - low) ≡ effective_balance vs (i - low))
unfolding indices_from effective_balance
weighs_at test low [] i one = absurd one
weighs_at test low (v ∷ vs) i one = weighs_first test low v vs i (test v) refl one (weighs_at test (suc low) vs i)

total_either : (b : Bool) (low : ℕ) (xs : List ℕ) (f : ℕ → ℕ) (w all : ℕ) → f low ≡ w → plain_total f xs ≡ all → plain_total f (if b then low ∷ xs else xs) ≡ (if b then w else 0) + all
total_either true low xs f w all first rest = omega arith
total_either false low xs f w all first rest = omega arith

-- what all that pass the test have is all weight
total_by : (test : Validator → Bool) (low : ℕ) (vs : List Validator) (f : ℕ → ℕ) → ((j : ℕ) → f (low + j) ≡ effective_balance vs j) → plain_total f (indices_from test low vs) ≡ sum (weights_by test vs)
unfolding indices_from effective_balance
total_by test low [] f is = refl
total_by test low (v ∷ vs) f is =
    let rest = total_by test (suc low) vs f (λ j. ap f (let e : suc low + j ≡ low + suc j = omega arith in e) ∙ is (suc j)) in
    let first : f low ≡ v.effective_balance = ap f (let e : low ≡ low + 0 = omega arith in e) ∙ is 0 in
    rw (sum_by-cons (λ (x : ℕ). x) (if test v then v.effective_balance else 0) (weights_by test vs)) (total_either (test v) low (indices_from test (suc low) vs) f v.effective_balance (sum (weights_by test vs)) first rest)

module _ (genesis s : PlainState) (epoch : ℕ) (steady : IsSteadyIn genesis s epoch) where
  abbrev weights : List ℕ
  weights = genesis_weights genesis

  same_balance : (i : ℕ) → IsOneOf i (get_active_validator_indices genesis 0) → effective_balance s.validators i ≡ effective_balance genesis.validators i
  same_balance i one = map_same (effective_balance s.validators) (effective_balance genesis.validators) (get_active_validator_indices genesis 0) i steady.balances one

  weight_is : (i : ℕ) → IsOneOf i (get_active_validator_indices genesis 0) → slice_index weights i ≡ effective_balance genesis.validators i
  unfolding get_active_validator_indices genesis_weights
  weight_is i one = subst (λ (k : ℕ). slice_index (genesis_weights genesis) k ≡ effective_balance genesis.validators k) (let e : i - 0 ≡ i = omega arith in e)
      (weighs_at (λ v. is_active_validator v 0) 0 genesis.validators i one).1

  genesis_total : plain_total (effective_balance genesis.validators) (get_active_validator_indices genesis 0) ≡ sum weights
  unfolding get_active_validator_indices genesis_weights
  genesis_total = total_by (λ v. is_active_validator v 0) 0 genesis.validators (effective_balance genesis.validators) (λ j. ap (effective_balance genesis.validators) (let e : 0 + j ≡ j = omega arith in e))

  -- the total of some that are active in the epoch is what they weigh
  pub steady_total : (indices : List ℕ) (n : ℕ) → IsSet indices → ((i : ℕ) → IsOneOf i indices → IsOneOf i (get_active_validator_indices s epoch)) → get_total_balance s indices ≡ done n
      → n ≡ total_of s.preset.effective_balance_increment weights indices
  steady_total indices n set active is =
      total_is s weights indices n set (λ i listed.
      let here = subst (λ (xs : List ℕ). IsOneOf i xs) steady.active (active i listed) in
      same_balance i here ∙ sym (weight_is i here)) is

  -- and the total of all of them is all weight
  pub steady_total_of_all : (n : ℕ) → get_total_balance s (get_active_validator_indices s epoch) ≡ done n → n ≡ total_of_all s.preset.effective_balance_increment weights
  unfolding total_of_all
  steady_total_of_all n is =
      total_done s (get_active_validator_indices s epoch) n is
      ∙ ap (max s.preset.effective_balance_increment)
      (ap (plain_total (effective_balance s.validators)) steady.active
      ∙ (total_same (effective_balance s.validators) (effective_balance genesis.validators) (get_active_validator_indices genesis 0) same_balance ∙ genesis_total))
