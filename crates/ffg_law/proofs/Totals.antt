-- What a state sums is what sets weigh: a checked sum over ascending indices is the weight of the set that they name.
use Rattle.std.proofs.Common.{◌≡◌, ◌∙◌, ℕ, suc, ◌+◌, ◌-◌, ◌<◌, ◌≤◌, inl, inr, max, Bool, true, if◌then◌else◌, List, [], ◌∷◌, slice_index, refl, sym, ap, subst, arith}
use Rattle.std.proofs.lemmas.Bool.{cases_order, ne_eqb, eq-eqb}
use Rattle.bc_words.specs.Outcome.{done, checked_add, checked_sum_from, checked_sum_by}
use Rattle.spec_state.specs.declared.plain.PlainState.{PlainState}
use Rattle.spec_state.specs.Misc.{effective_balance}
use Rattle.spec_state.specs.Accessors.{get_total_balance}
use Rattle.spec_blocks.proofs.Done.{on_the_way, same_value, sum_is}
use Rattle.ffg_law.specs.Weights.{weight_from, among, AscendsFrom, IsSet}
use Rattle.ffg_law.specs.Links.{IsOneOf}
use Rattle.ffg_law.specs.Histories.{total_of}
use Rattle.ffg_law.proofs.Weights.{absent}

-- ---- sums

abbrev pub plain_total : {A : Type 0} → (A → ℕ) → List A → ℕ
plain_total count [] = 0
plain_total count (x ∷ xs) = count x + plain_total count xs

sum_done : {A : Type 0} (count : A → ℕ) (xs : List A) (so_far n : ℕ) → checked_sum_from count so_far xs ≡ done n → n ≡ so_far + plain_total count xs
unfolding checked_sum_from
sum_done count [] so_far n is = let same = same_value so_far n is in omega arith
sum_done count (x ∷ xs) so_far n is =
    let more = on_the_way (checked_add so_far (count x)) _ n is in
    let one = sum_is so_far (count x) more.value more.first in
    let rest = sum_done count xs more.value n more.then_done in
    omega arith

-- a total that was done
pub total_done : (s : PlainState) (indices : List ℕ) (n : ℕ) → get_total_balance s indices ≡ done n → n ≡ max s.preset.effective_balance_increment (plain_total (effective_balance s.validators) indices)
unfolding get_total_balance checked_sum_by
total_done s indices n is =
    let all = on_the_way (checked_sum_by (effective_balance s.validators) indices) _ n is in
    let sum = sum_done (effective_balance s.validators) indices 0 all.value all.first in
    let same : max s.preset.effective_balance_increment all.value ≡ n = same_value _ n all.then_done in
    sym same ∙ ap (λ (k : ℕ). max s.preset.effective_balance_increment k) (let e : all.value ≡ plain_total (effective_balance s.validators) indices = omega arith in e)

-- ---- weights by index

from_low : (low : ℕ) (indices : List ℕ) (i : ℕ) → AscendsFrom low indices → IsOneOf i indices → low ≤ i
from_low low [] i ascends listed = absurd listed
from_low low (j ∷ indices) i ascends (inl is) = let first : low ≤ j = ascends.0 in omega arith
from_low low (j ∷ indices) i ascends (inr listed) = let first : low ≤ j = ascends.0 in let rest = from_low (j + 1) indices i ascends.1 listed in omega arith

same_from : (a b : ℕ → Bool) (index : ℕ) (weights : List ℕ) → ((k : ℕ) → index ≤ k → a k ≡ b k) → weight_from a index weights ≡ weight_from b index weights
unfolding weight_from
same_from a b index [] same = refl
same_from a b index (w ∷ weights) same =
    ap (λ (p : Bool). (if p then w else 0) + weight_from a (index + 1) weights) (same index (omega arith))
    ∙ ap (λ (n : ℕ). (if b index then w else 0) + n) (same_from a b (index + 1) weights (λ k more. same k (omega arith)))

total_zero : (count : ℕ → ℕ) (indices : List ℕ) → ((i : ℕ) → IsOneOf i indices → count i ≡ 0) → plain_total count indices ≡ 0
total_zero count [] none = refl
total_zero count (i ∷ indices) none = let one = none i (inl refl) in let rest = total_zero count indices (λ j listed. none j (inr listed)) in omega arith

among_first : (i : ℕ) (indices : List ℕ) → among (i ∷ indices) i ≡ true
unfolding among
among_first i indices = rw (eq-eqb i i refl) refl

among_behind : (i k : ℕ) (indices : List ℕ) → i < k → among (i ∷ indices) k ≡ among indices k
unfolding among
among_behind i k indices less = rw (ne_eqb i k (λ e. omega arith)) refl

weigh_nothing : (index : ℕ) (weights : List ℕ) → weight_from (among []) index weights ≡ 0
unfolding weight_from among
weigh_nothing index [] = refl
weigh_nothing index (w ∷ weights) = let rest = weigh_nothing (index + 1) weights in omega arith

behind : (w : ℕ) (weights : List ℕ) (i low : ℕ) → low + 1 ≤ i → slice_index (w ∷ weights) (i - low) ≡ slice_index weights (i - (low + 1))
behind w weights i low more = ap (slice_index (w ∷ weights)) (let e : i - low ≡ suc (i - (low + 1)) = omega arith in e)

-- what ascending indices count, where each counts what the list has at its place, is what the set weighs
pub weigh_list : (weights : List ℕ) (low : ℕ) (indices : List ℕ) (count : ℕ → ℕ) → AscendsFrom low indices → ((i : ℕ) → IsOneOf i indices → count i ≡ slice_index weights (i - low))
    → plain_total count indices ≡ weight_from (among indices) low weights
unfolding weight_from
weigh_list [] low indices count ascends counts = total_zero count indices counts
weigh_list (w ∷ weights) low [] count ascends counts = sym (weigh_nothing low (w ∷ weights))
weigh_list (w ∷ weights) low (i ∷ indices) count ascends counts = elim (cases_order low i) [
  | inl here ↦
      let first : count i ≡ slice_index (w ∷ weights) (i - low) = counts i (inl refl) in
      let zero_is : i - low ≡ 0 = omega arith in
      let is_w : count i ≡ w = first ∙ ap (slice_index (w ∷ weights)) zero_is in
      let rest_ascends : AscendsFrom (low + 1) indices = subst (λ (k : ℕ). AscendsFrom (k + 1) indices) (sym here) ascends.1 in
      let rest = weigh_list weights (low + 1) indices count rest_ascends (λ j listed. counts j (inr listed) ∙ behind w weights j low (from_low (low + 1) indices j rest_ascends listed)) in
      let same = same_from (among (i ∷ indices)) (among indices) (low + 1) weights (λ k more. among_behind i k indices (omega arith)) in
      let listed : among (i ∷ indices) low ≡ true = subst (λ (k : ℕ). among (i ∷ indices) k ≡ true) (sym here) (among_first i indices) in
      rw listed (let sum_is : count i + plain_total count indices ≡ w + weight_from (among (i ∷ indices)) (low + 1) weights = omega arith in sum_is)
  | inr (inl later) ↦
      let lifted : AscendsFrom (low + 1) (i ∷ indices) = (omega arith, ascends.1) in
      let rest = weigh_list weights (low + 1) (i ∷ indices) count lifted (λ j listed. counts j listed ∙ behind w weights j low (from_low (low + 1) (i ∷ indices) j lifted listed)) in
      rw (absent (low + 1) low (i ∷ indices) lifted (omega arith)) (let sum_is : plain_total count (i ∷ indices) ≡ 0 + weight_from (among (i ∷ indices)) (low + 1) weights = omega arith in sum_is)
  | inr (inr before) ↦ absurd (let least : low ≤ i = ascends.0 in omega arith)
]

-- the total of a set, where the weights are the effective balances of its validators
pub total_is : (s : PlainState) (weights indices : List ℕ) (n : ℕ) → IsSet indices → ((i : ℕ) → IsOneOf i indices → effective_balance s.validators i ≡ slice_index weights i)
    → get_total_balance s indices ≡ done n → n ≡ total_of s.preset.effective_balance_increment weights indices
unfolding total_of
total_is s weights indices n set same is =
    let counts : (i : ℕ) → IsOneOf i indices → effective_balance s.validators i ≡ slice_index weights (i - 0) = λ i listed. same i listed ∙ ap (slice_index weights) (let e : i ≡ i - 0 = omega arith in e) in
    total_done s indices n is ∙ ap (λ (k : ℕ). max s.preset.effective_balance_increment k) (weigh_list weights 0 indices (effective_balance s.validators) set counts)
