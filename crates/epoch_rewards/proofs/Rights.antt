-- The attestations that have a vote right, chosen one at a time, are the published list.
use Rattle.std.proofs.Common.{◌≡◌, ℕ, Bool, true, ◌&&◌, cond, List, [], ◌∷◌, filter, refl, ap, ◌∙◌, inl, inr}
use Rattle.std.proofs.lemmas.Bool.{cases_Bool}
use Rattle.spec_state.specs.declared.plain.PlainState.{PlainState}
use Rattle.spec_state.specs.Genesis.{same_root}
use Rattle.spec_state.specs.Accessors.{get_block_root, get_block_root_at_slot}
use Rattle.spec_epochs.specs.Helpers.{get_matching_source_attestations, get_matching_target_attestations, get_matching_head_attestations}
use Rattle.epoch_rewards.specs.declared.matching.Vote.{Vote}
use Rattle.epoch_rewards.specs.declared.matching.Vote.TheVariants.{Source, Target, Head}
use Rattle.epoch_rewards.specs.inside.Votes.{counts_for, matching}

filter_all : {A : Type 0} (xs : List A) → filter (λ x. true) xs ≡ xs
filter_all [] = refl
filter_all (x ∷ xs) = ap (λ ys. x ∷ ys) (filter_all xs)

filter_both : {A : Type 0} (p q : A → Bool) (xs : List A) → filter (λ x. p x && q x) xs ≡ filter q (filter p xs)
filter_both p q [] = refl
filter_both p q (x ∷ xs) = elim (cases_Bool (p x)) as (λ _. filter (λ y. p y && q y) (x ∷ xs) ≡ filter q (filter p (x ∷ xs))) [
  | inl t ↦ rw (t) (ap (λ ys. cond (q x) (x ∷ ys) ys) (filter_both p q xs))
  | inr f ↦ rw (f) (filter_both p q xs)
]

chosen_are : (state : PlainState) (vote : Vote) (epoch : ℕ) → filter (counts_for state vote (get_block_root state epoch)) (get_matching_source_attestations state epoch) ≡ matching state vote epoch
unfolding counts_for matching get_matching_target_attestations get_matching_head_attestations
chosen_are state Source epoch = filter_all _
chosen_are state Target epoch = refl
chosen_are state Head epoch = filter_both (λ a. same_root a.content.target.root (get_block_root state epoch)) (λ a. same_root a.content.beacon_block_root (get_block_root_at_slot state a.content.slot)) (get_matching_source_attestations state epoch)

pub right_are : (state : PlainState) (vote : Vote) (epoch : ℕ) (root : List ℕ) → root ≡ get_block_root state epoch
    → filter (counts_for state vote root) (get_matching_source_attestations state epoch) ≡ matching state vote epoch
right_are state vote epoch root is = ap (λ r. filter (counts_for state vote r) (get_matching_source_attestations state epoch)) is ∙ chosen_are state vote epoch
