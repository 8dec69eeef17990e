-- Totals of a full registry.
use Rattle.std.proofs.Common.{◌≡◌, ◌∙◌, ℕ, zero, suc, ◌+◌, ◌*◌, ◌/◌, ◌<◌, ◌≤◌, max, List, [], ◌∷◌, length, ap, arith}
use Rattle.spec_blocks.specs.Gives.{Gives}
use Rattle.spec_drill.specs.inside.Calm.{IsFullRegistry}
use Rattle.std.specs.List.{range_with_len, fold}
use Rattle.std.specs.Prelude.{sum_by}
use Rattle.std.proofs.Math.Nat.{div-le_of_le-mul}
use Rattle.bc_words.specs.Outcome.{done, bind, checked_sum_by}
use Rattle.bc_words.specs.SquareRoot.{integer_squareroot}
use Rattle.bc_words.proofs.Sums.{checked_sum_fits}
use Rattle.bc_words.proofs.Roots.{root_is_root}
use Rattle.bc_preset.specs.laws.Bounds.{HasPresetBounds}
use Rattle.spec_state.specs.declared.plain.PlainState.{PlainState}
use Rattle.spec_state.specs.Constants.{far_future_epoch}
use Rattle.spec_state.specs.Misc.{effective_balance}
use Rattle.spec_state.specs.Accessors.{get_current_epoch, get_total_balance, get_total_active_balance}
use Rattle.spec_drill.proofs.Registry.{all_active, most_balance, full_balance}

sum_most_from : (count : ℕ → ℕ) (most : ℕ) (xs : List ℕ) (sum : ℕ) → ((i : ℕ) → count i ≤ most) → fold (λ a x. a + count x) sum xs ≤ sum + length xs * most
sum_most_from count most [] sum each = omega arith
sum_most_from count most (x ∷ xs) sum each = let h = each x in let r = sum_most_from count most xs (sum + count x) each in omega arith

sum_is_from : (count : ℕ → ℕ) (full : ℕ) (start n sum : ℕ) → ((i : ℕ) → i < start + n → count i ≡ full) → fold (λ a x. a + count x) sum (range_with_len start n) ≡ sum + n * full
sum_is_from count full start zero sum each = omega arith
sum_is_from count full start (suc n) sum each =
    let h = each start (omega arith) in
    let r = sum_is_from count full (start + 1) n (sum + count start) (λ i less. each i (omega arith)) in omega arith

-- the total of some of at most 64 indices
pub total_gives : (s : PlainState) (indices : List ℕ) → HasPresetBounds s.preset → IsFullRegistry s → length indices ≤ 64
    → Gives (λ total. total ≤ 2_048_000_000_000) (get_total_balance s indices)
unfolding get_total_balance
total_gives s indices bounds full few =
    let sum : ℕ = sum_by (effective_balance s.validators) indices in
    let low : sum ≤ 0 + length indices * 32_000_000_000 = sum_most_from (effective_balance s.validators) 32_000_000_000 indices 0 (λ i. most_balance s.validators i full.all) in
    let inc = bounds.effective_balance_increment in
    record {
      value = max s.preset.effective_balance_increment sum;
      is = ap (λ o. bind o (λ sum. done (max s.preset.effective_balance_increment sum))) (checked_sum_fits (effective_balance s.validators) indices (omega arith));
      holds = omega arith;
    }

-- the total of all
pub total_active_is : (s : PlainState) → HasPresetBounds s.preset → IsFullRegistry s → get_current_epoch s < far_future_epoch
    → get_total_active_balance s ≡ done 2_048_000_000_000
unfolding get_total_balance
total_active_is s bounds full low =
    let sum : ℕ = sum_by (effective_balance s.validators) (range_with_len 0 64) in
    let many = full.many in
    let is : sum ≡ 0 + 64 * 32_000_000_000 = sum_is_from (effective_balance s.validators) 32_000_000_000 0 64 0 (λ i less. full_balance s.validators i full.all (omega arith)) in
    let inc = bounds.effective_balance_increment in
    ap (λ indices. bind (checked_sum_by (effective_balance s.validators) indices) (λ sum. done (max s.preset.effective_balance_increment sum))) (all_active s (get_current_epoch s) full low)
    ∙ (ap (λ o. bind o (λ sum. done (max s.preset.effective_balance_increment sum))) (checked_sum_fits (effective_balance s.validators) (range_with_len 0 64) (omega arith))
    ∙ (let e : max s.preset.effective_balance_increment sum ≡ 2_048_000_000_000 = omega arith in ap done e))

-- the base reward of all of them together
pub least_root : 1_431_083 ≤ integer_squareroot 2_048_000_000_000
least_root = (root_is_root 2_048_000_000_000).greatest 1_431_083 (omega arith)

pub base_is_low : 2_048_000_000_000 / integer_squareroot 2_048_000_000_000 / 4 ≤ 357_771
base_is_low =
    let root : ℕ = integer_squareroot 2_048_000_000_000 in
    let first : 2_048_000_000_000 / root ≤ 1_431_085 = div-le_of_le-mul root (let h = least_root in omega arith) in
    omega arith
