-- The weight of a block is that of its node.
use Rattle.std.proofs.Common.{◌≡◌, ℕ, suc, ◌+◌, ◌*◌, ◌/◌, max, Bool, true, false, cond, List, [], ◌∷◌, length, map, filter, Some, slice_index_or, refl, sym, ap, ap₂, ◌∙◌, arith}
use Rattle.std.specs.List.{AllByRecursion, sum_by, range_with_len}
use Rattle.std.proofs.lemmas.List.Sums.{sum_by-cons}
use Rattle.std.proofs.lemmas.List.Elements.{filter_agree}
use Rattle.std.proofs.Math.Nat.{mul_comm, zero-mul}
use Rattle.bc_words.specs.Outcome.{Outcome, done, refused, limited}
use Rattle.beacon_types.specs.declared.validator.Validator.{Validator}
use Rattle.block_array.specs.PlainArray.{PlainArray}
use Rattle.block_array.specs.PlainArray as array
use Rattle.block_array.specs.GetLatestAttestingBalance as weights
use Rattle.spec_state.specs.declared.plain.PlainState.{PlainState}
use Rattle.spec_state.specs.Misc.{effective_balance}
use Rattle.spec_state.specs.Predicates.{is_active_validator}
use Rattle.spec_state.specs.Accessors.{get_current_epoch, get_active_validator_indices, indices_from}
use Rattle.spec_fork_choice.specs.Store.{Store}
use Rattle.spec_fork_choice.specs.StoreTargetCheckpointState.{store_target_checkpoint_state}
use Rattle.spec_fork_choice.specs.GetLatestAttestingBalance.{votes_for, is_boosted, active_in, attestation_score, proposer_score, weight_in, weight_by, get_latest_attesting_balance}
use Rattle.fork_store.specs.Arrays.{node_number, Balances, balance_in, balances_in, no_balances, balances_of, balances_at, IsArrayOf}
use Rattle.fork_store.specs.Stores.{HasPreset}
use Rattle.fork_store.specs.Trees.{IsTree}
use Rattle.fork_store.proofs.ArraysVotes.{same_votes, same_boost}
use Rattle.fork_store.proofs.ArraysStates.{checkpoint_preset}

-- ---- the balances of active voters, by index and by place

module _ (f g : ℕ → ℕ) (votes : ℕ → Bool) where
  one_by : (a b : Bool) (i x : ℕ) (rest places : List ℕ) → votes i ≡ b → f i ≡ x → g i ≡ cond a x 0 → sum_by f (filter votes rest) ≡ sum_by g places
      → sum_by f (filter votes (cond a (i ∷ rest) rest)) ≡ sum_by g (cond b (i ∷ places) places)
  one_by true true i x rest places is here there later =
      ap (λ t. sum_by f (cond t (i ∷ filter votes rest) (filter votes rest))) is
      ∙ sum_by-cons f i (filter votes rest) ∙ ap₂ (λ m n. m + n) (here ∙ sym there) later ∙ sym (sum_by-cons g i places)
  one_by true false i x rest places is here there later = ap (λ t. sum_by f (cond t (i ∷ filter votes rest) (filter votes rest))) is ∙ later
  one_by false true i x rest places is here there later =
      let nothing : sum_by g places ≡ g i + sum_by g places = omega arith in
      later ∙ nothing ∙ sym (sum_by-cons g i places)
  one_by false false i x rest places is here there later = later

  module _ (epoch : ℕ) where
    score_by : (vs : List Validator) (i : ℕ) → ((k : ℕ) → f (i + k) ≡ effective_balance vs k)
        → ((k : ℕ) → g (i + k) ≡ slice_index_or (map (balance_in epoch) vs) k 0)
        → sum_by f (filter votes (indices_from (λ v. is_active_validator v epoch) i vs)) ≡ sum_by g
        (filter votes (range_with_len i (length (map (balance_in epoch) vs))))
    unfolding indices_from effective_balance balance_in
    score_by [] i here there = refl
    score_by (v ∷ vs) i here there =
        let at : i ≡ i + 0 = omega arith in
        let next : suc i ≡ i + 1 = omega arith in
        let moved : (k : ℕ) → suc i + k ≡ i + suc k = (λ k. omega arith) in
        one_by (is_active_validator v epoch) (votes i) i v.effective_balance (indices_from (λ w. is_active_validator w epoch) (suc i) vs)
        (filter votes (range_with_len (i + 1) (length (map (balance_in epoch) vs)))) refl
        (ap f at ∙ here 0) (ap g at ∙ there 0)
        (score_by vs (suc i) (λ k. ap f (moved k) ∙ here (suc k)) (λ k. ap g (moved k) ∙ there (suc k))
        ∙ ap (λ j. sum_by g (filter votes (range_with_len j (length (map (balance_in epoch) vs))))) next)

abbrev score_of : PlainArray → ℕ → List ℕ → ℕ
score_of a n balances = sum_by (λ v. slice_index_or balances v 0) (filter (weights.votes_for a n) (range_with_len 0 (length balances)))

score_at : (a : PlainArray) (n : ℕ) (balances : List ℕ) → a.balances ≡ balances → weights.attestation_score a n ≡ score_of a n balances
unfolding weights.attestation_score weights.validators_of array.balance_of
score_at a n balances e = ap (score_of a n) e

module _ (store : Store) (a : PlainArray) (is : IsArrayOf store a) (tree : IsTree store.blocks) (root : List ℕ) (n : ℕ)
    (numbered : node_number store.blocks root ≡ Some n) where
  same_score : (state : PlainState) → balances_at a ≡ balances_in state → attestation_score store state root ≡ weights.attestation_score a n
  unfolding attestation_score active_in get_active_validator_indices balances_at balances_in
  same_score state e =
      let epoch : ℕ = get_current_epoch state in
      let at_zero : (k : ℕ) → 0 + k ≡ k = (λ k. omega arith) in
      let balances : a.balances ≡ map (balance_in epoch) state.validators = ap (λ (b : Balances). b.list) e in
      ap (sum_by (effective_balance state.validators)) (filter_agree (votes_for store root) (weights.votes_for a n)
      (same_votes store a is tree root n numbered) (active_in state))
      ∙ score_by (effective_balance state.validators) (λ v. slice_index_or (map (balance_in epoch) state.validators) v 0) (weights.votes_for a n) epoch
      state.validators 0
      (λ k. ap (effective_balance state.validators) (at_zero k)) (λ k. ap (λ v. slice_index_or (map (balance_in epoch) state.validators) v 0) (at_zero k))
      ∙ sym (score_at a n (map (balance_in epoch) state.validators) balances)

  same_proposer_score : (state : PlainState) → balances_at a ≡ balances_in state → state.preset ≡ store.config.preset
      → proposer_score store state ≡ weights.proposer_score a
  unfolding proposer_score weights.proposer_score balances_at balances_in
  same_proposer_score state e preset =
      ap (λ slots. length (active_in state) / slots * (max state.preset.effective_balance_increment
      (sum_by (effective_balance state.validators) (active_in state)) / length (active_in state)) * store.config.proposer_score_boost / 100)
      (ap (λ p. p.slots_per_epoch) preset ∙ sym is.slots_per_epoch)
      ∙ ap (λ (b : Balances). b.count / a.slots_per_epoch * (b.total / b.count) * store.config.proposer_score_boost / 100) (sym e)
      ∙ ap (λ percent. a.active_count / a.slots_per_epoch * (a.total_active_balance / a.active_count) * percent / 100) (sym is.percent)

  weight_here : (state : PlainState) → balances_at a ≡ balances_in state → state.preset ≡ store.config.preset
      → weight_in store state root ≡ weights.get_latest_attesting_balance a n
  unfolding weight_in weights.get_latest_attesting_balance
  weight_here state e preset =
      ap₂ (λ s p. cond (is_boosted store root) (s + p) s) (same_score state e) (same_proposer_score state e preset)
      ∙ ap (λ b. cond b (weights.attestation_score a n + weights.proposer_score a) (weights.attestation_score a n)) (same_boost store a is tree root n numbered)

  no_score : balances_at a ≡ no_balances → weights.attestation_score a n ≡ 0
  unfolding balances_at no_balances
  no_score e = score_at a n [] (ap (λ (b : Balances). b.list) e)

  no_proposer_score : balances_at a ≡ no_balances → weights.proposer_score a ≡ 0
  unfolding weights.proposer_score balances_at no_balances
  no_proposer_score e =
      ap (λ (b : Balances). b.count / a.slots_per_epoch * (b.total / b.count) * a.proposer_score_boost / 100) e
      ∙ nothing a.slots_per_epoch a.proposer_score_boost
    where
      nothing : (slots percent : ℕ) → 0 / slots * (0 / 0) * percent / 100 ≡ 0
      nothing slots percent =
          let none : 0 / slots * 0 ≡ 0 = mul_comm (0 / slots) 0 ∙ zero-mul (0 / slots) in
          ap (λ m. m * percent / 100) none ∙ ap (λ m. m / 100) (zero-mul percent)

  both : (b : Bool) (x y : ℕ) → x ≡ 0 → y ≡ 0 → 0 ≡ cond b (x + y) x
  both true x y ex ey = omega arith
  both false x y ex ey = sym ex

  no_weight : balances_at a ≡ no_balances → 0 ≡ weights.get_latest_attesting_balance a n
  unfolding weights.get_latest_attesting_balance
  no_weight e = both (weights.is_boosted a n) (weights.attestation_score a n) (weights.proposer_score a) (no_score e) (no_proposer_score e)

  weight_of_outcome : (outcome : Outcome PlainState) → balances_at a ≡ balances_of outcome
      → ((state : PlainState) → outcome ≡ done state → state.preset ≡ store.config.preset)
      → weight_by store outcome root ≡ weights.get_latest_attesting_balance a n
  unfolding weight_by balances_of
  weight_of_outcome (done state) e preset = weight_here state e (preset state refl)
  weight_of_outcome (refused why) e preset = no_weight e
  weight_of_outcome (limited bound) e preset = no_weight e

  pub same_weight : AllByRecursion (HasPreset store.config.preset) store.blocks
      → get_latest_attesting_balance store root ≡ weights.get_latest_attesting_balance a n
  unfolding get_latest_attesting_balance
  same_weight presets =
      weight_of_outcome (store_target_checkpoint_state store store.justified_checkpoint) is.balances
      (λ state e. checkpoint_preset store store.justified_checkpoint state presets e)
