-- Changes of effective balances as changes of their groups.
use Rattle.std.proofs.Common.{◌≡◌, ℕ, zero, suc, ◌+◌, ◌/◌, ◌%◌, ◌<◌, List, [], ◌∷◌, ◌++◌, length, take, drop, refl, sym, ap, subst, ◌∙◌, arith}
use Rattle.std.specs.Prelude.{slice_get, slice_set, Some}
use Rattle.beacon_types.specs.declared.validator.Validator.{Validator}
use Rattle.tree_nodes.specs.Changes.{AreChanges, changed}
use Rattle.tree_nodes.proofs.Changes.{changed_push}
use Rattle.tree_nodes.proofs.Climbs.{take_next}
use Rattle.tree_nodes.proofs.Many.{all_before, wider}
pub use Rattle.tree_nodes.proofs.Changes.{untouched as balance_untouched}
pub use Rattle.tree_nodes.proofs.Many.{held_facts as balance_held}
use Rattle.validator_registry.specs.Registries.{with_balance, with_balances}
use Rattle.validator_registry.specs.inside.Groups.{joined, AreGroups}
use Rattle.validator_registry.proofs.Groups.{room, length_balance, balance_in_group, groups_balance}

module _ {A : Type 0} where
  first_places : (low len k : ℕ) (cs : List (ℕ × A)) → AreChanges low len cs → AreChanges low len (take k cs)
  first_places low len zero cs h = tt
  first_places low len (suc k) [] h = tt
  first_places low len (suc k) (c ∷ cs) h = (h.0, h.1, first_places (suc c.0) len k cs h.2)

  -- the changes before one of them are before its place, which is below the length
  pub balance_next : (len k : ℕ) (cs rest : List (ℕ × A)) (c : ℕ × A) → AreChanges 0 len cs → drop k cs ≡ c ∷ rest → AreChanges 0 c.0 (take k cs) × (c.0 < len)
  balance_next len k cs rest c h is =
      all_before 0 len (take k cs) c (subst (λ (r : List (ℕ × A)). AreChanges 0 len r) (take_next cs k c rest is) (first_places 0 len (k + 1) cs h))

  -- where the groups changed reach as far as the last change, they are before the end of what has the changes
  pub balance_places : {B : Type 0} (at next : ℕ) (v : A) (cs front : List (ℕ × A)) (groups : List (ℕ × B)) → cs ≡ front ++ (at, v) ∷ [] → AreChanges 0 (at / 16 + 1) groups → AreChanges 0 next cs → AreChanges 0 ((next + 15) / 16) groups
  balance_places at next v cs front groups is so_far h =
      let ends = all_before 0 next front (at, v) (subst (λ (r : List (ℕ × A)). AreChanges 0 next r) is h) in
      let below : at < next = ends.1 in
      wider 0 (at / 16 + 1) ((next + 15) / 16) groups (omega arith) so_far

balance_swap : (vs : List Validator) (i j b c : ℕ) → i < j → with_balance (with_balance vs i b) j c ≡ with_balance (with_balance vs j c) i b
unfolding with_balance
balance_swap [] i j b c h = refl
balance_swap (v ∷ vs) zero zero b c h = absurd (omega arith)
balance_swap (v ∷ vs) zero (suc j) b c h = refl
balance_swap (v ∷ vs) (suc i) zero b c h = absurd (omega arith)
balance_swap (v ∷ vs) (suc i) (suc j) b c h = ap (λ (r : List Validator). v ∷ r) (balance_swap vs i j b c (omega arith))

balance_last : (vs : List Validator) (cs : List (ℕ × ℕ)) (c : ℕ × ℕ) → with_balances vs (cs ++ c ∷ []) ≡ with_balances (with_balance vs c.0 c.1) cs
unfolding with_balances
balance_last vs [] c = refl
balance_last vs (d ∷ cs) c = ap (λ (l : List Validator). with_balance l d.0 d.1) (balance_last vs cs c)

balance_over : (vs : List Validator) (low k b : ℕ) (cs : List (ℕ × ℕ)) → AreChanges low k cs → with_balances (with_balance vs k b) cs ≡ with_balance (with_balances vs cs) k b
unfolding with_balances
balance_over vs low k b [] h = refl
balance_over vs low k b (c ∷ cs) h = ap (λ (l : List Validator). with_balance l c.0 c.1) (balance_over vs (suc c.0) k b cs h.2) ∙ sym (balance_swap (with_balances vs cs) c.0 k c.1 b h.1)

-- a balance behind all that change
pub balance_push : (vs : List Validator) (low k b : ℕ) (cs : List (ℕ × ℕ)) → AreChanges low k cs → with_balances vs (cs ++ (k, b) ∷ []) ≡ with_balance (with_balances vs cs) k b
balance_push vs low k b cs h = balance_last vs cs (k, b) ∙ balance_over vs low k b cs h

pub balance_lengths : (vs : List Validator) (cs : List (ℕ × ℕ)) → length (with_balances vs cs) ≡ length vs
unfolding with_balances
balance_lengths vs [] = refl
balance_lengths vs (c ∷ cs) = length_balance (with_balances vs cs) c.0 c.1 ∙ balance_lengths vs cs

-- no change of balances
pub balance_none : (vs : List Validator) (cs : List (ℕ × ℕ)) → length cs ≡ 0 → with_balances vs cs ≡ vs
unfolding with_balances
balance_none vs [] h = refl
balance_none vs (c ∷ cs) h = absurd (omega arith)

-- what reaches as far as the validators is within the groups
pub balance_reach : {B : Type 0} (gs : List (List Validator)) (cs : List (ℕ × B)) → AreGroups gs → AreChanges 0 ((length (joined gs) + 15) / 16) cs → AreChanges 0 (length gs) cs
balance_reach gs cs h reach = wider 0 ((length (joined gs) + 15) / 16) (length gs) cs (omega (arith, room gs h)) reach

-- a balance that is put into a group
pub balance_added : (gs : List (List Validator)) (at b : ℕ) (g new : List Validator) (old front now : List (ℕ × List Validator)) → AreGroups (changed gs old) → at < length (joined (changed gs old)) → AreChanges 0 (at / 16) front → slice_get (changed gs old) (at / 16) ≡ Some g
    → ((h : List Validator) → slice_set (changed gs front) (at / 16) h ≡ slice_set (changed gs old) (at / 16) h) → new ≡ with_balance g (at % 16) b → now ≡ front ++ (at / 16, new) ∷ []
    → AreGroups (changed gs now) × (joined (changed gs now) ≡ with_balance (joined (changed gs old)) at b)
balance_added gs at b g new old front now groups within places held set with is =
    let changes : changed gs now ≡ slice_set (changed gs old) (at / 16) new = ap (λ (cs : List (ℕ × List Validator)). changed gs cs) is ∙ (changed_push gs 0 (at / 16) front new places ∙ set new) in (
      subst (λ (l : List (List Validator)). AreGroups l) (sym changes) (groups_balance (changed gs old) at g new b groups held with),
      ap joined changes ∙ balance_in_group (changed gs old) at g new b groups held within with,
    )
