-- The registry of the maker's genesis: everybody is active at each epoch.
use Rattle.std.proofs.Common.{◌≡◌, ◌∙◌, ℕ, zero, suc, ◌+◌, ◌<◌, ◌≤◌, Bool, true, false, cond, ◌&&◌, nat_lt, leb, List, [], ◌∷◌, length, refl, ap, arith}
use Rattle.std.specs.List.{range_with_len, AllByRecursion, filter}
use Rattle.std.proofs.lemmas.Bool.{lt-ltb, le-leb}
use Rattle.beacon_types.specs.declared.validator.Validator.{Validator}
use Rattle.spec_state.specs.declared.plain.PlainState.{PlainState}
use Rattle.spec_state.specs.Constants.{far_future_epoch}
use Rattle.spec_state.specs.Predicates.{is_active_validator}
use Rattle.spec_state.specs.Misc.{effective_balance}
use Rattle.spec_state.specs.Accessors.{indices_from, get_active_validator_indices}
use Rattle.spec_drill.specs.inside.Calm.{IsFull, IsFullRegistry}

pub always_active : (v : Validator) (epoch : ℕ) → IsFull v → epoch < far_future_epoch → is_active_validator v epoch ≡ true
unfolding is_active_validator
always_active v epoch full low =
    ap (λ n. leb n epoch && nat_lt epoch v.exit_epoch) full.activation
    ∙ (ap (λ b. b && nat_lt epoch v.exit_epoch) (le-leb 0 epoch (omega arith)) ∙ (ap (λ n. nat_lt epoch n) full.exit ∙ lt-ltb epoch far_future_epoch low))

all_pass : (test : Validator → Bool) (start : ℕ) (vs : List Validator) → AllByRecursion (λ v. test v ≡ true) vs → indices_from test start vs ≡ range_with_len start (length vs)
unfolding indices_from
all_pass test start [] all = refl
all_pass test start (v ∷ vs) all =
    ap (λ b. cond b (start ∷ indices_from test (suc start) vs) (indices_from test (suc start) vs)) all.0
    ∙ ap (λ is. start ∷ is) (all_pass test (suc start) vs all.1 ∙ (let e : suc start ≡ start + 1 = omega arith in ap (λ k. range_with_len k (length vs)) e))

pub all_are : {A : Type 0} (P Q : A → Type 0) (xs : List A) → ((x : A) → P x → Q x) → AllByRecursion P xs → AllByRecursion Q xs
all_are P Q [] h all = tt
all_are P Q (x ∷ xs) h all = (h x all.0, all_are P Q xs h all.1)

-- the active list of each epoch is that of all indices
pub all_active : (s : PlainState) (epoch : ℕ) → IsFullRegistry s → epoch < far_future_epoch → get_active_validator_indices s epoch ≡ range_with_len 0 64
unfolding get_active_validator_indices
all_active s epoch full low =
    all_pass (λ v. is_active_validator v epoch) 0 s.validators (all_are IsFull _ s.validators (λ v f. always_active v epoch f low) full.all)
    ∙ ap (λ n. range_with_len 0 n) full.many

-- each effective balance is the full one
pub full_balance : (vs : List Validator) (i : ℕ) → AllByRecursion IsFull vs → i < length vs → effective_balance vs i ≡ 32_000_000_000
unfolding effective_balance
full_balance [] i all less = absurd (omega arith)
full_balance (v ∷ vs) zero all less = all.0.effective
full_balance (v ∷ vs) (suc i) all less = full_balance vs i all.1 (omega arith)

pub most_balance : (vs : List Validator) (i : ℕ) → AllByRecursion IsFull vs → effective_balance vs i ≤ 32_000_000_000
unfolding effective_balance
most_balance [] i all = omega arith
most_balance (v ∷ vs) zero all = let e = all.0.effective in omega arith
most_balance (v ∷ vs) (suc i) all = most_balance vs i all.1

-- as many indices as pass
either_few : {A : Type 0} (b : Bool) (x : A) (xs : List A) (n : ℕ) → length xs ≤ n → length (cond b (x ∷ xs) xs) ≤ suc n
either_few true x xs n h = omega arith
either_few false x xs n h = omega arith

pub few_pass : (test : Validator → Bool) (start : ℕ) (vs : List Validator) → length (indices_from test start vs) ≤ length vs
unfolding indices_from
few_pass test start [] = omega arith
few_pass test start (v ∷ vs) = either_few (test v) start (indices_from test (suc start) vs) (length vs) (few_pass test (suc start) vs)

pub few_filtered : {A : Type 0} (p : A → Bool) (xs : List A) → length (filter p xs) ≤ length xs
few_filtered p [] = omega arith
few_filtered p (x ∷ xs) = either_few (p x) x (filter p xs) (length xs) (few_filtered p xs)

-- and each of them is in the registry
either_low : (P : ℕ → Type 0) (b : Bool) (x : ℕ) (xs : List ℕ) → P x → AllByRecursion P xs → AllByRecursion P (cond b (x ∷ xs) xs)
either_low P true x xs h hs = (h, hs)
either_low P false x xs h hs = hs

pub low_pass : (test : Validator → Bool) (start end : ℕ) (vs : List Validator) → start + length vs ≤ end → AllByRecursion (λ i. i < end) (indices_from test start vs)
unfolding indices_from
low_pass test start end [] few = tt
low_pass test start end (v ∷ vs) few = either_low (λ i. i < end) (test v) start (indices_from test (suc start) vs) (omega arith) (low_pass test (suc start) end vs (omega arith))

pub low_filtered : (P : ℕ → Type 0) (p : ℕ → Bool) (xs : List ℕ) → AllByRecursion P xs → AllByRecursion P (filter p xs)
low_filtered P p [] all = tt
low_filtered P p (x ∷ xs) all = either_low P (p x) x (filter p xs) all.0 (low_filtered P p xs all.1)
