-- Each record is what weighing makes of the one before, by computing it; no link of one chain has a target of the other's.
use Rattle.std.proofs.Common.{◌≡◌, ◌∙◌, inl, inr, refl, sym, ap, arith}
use Rattle.bc_words.specs.Outcome.{checked_mul}
use Rattle.spec_epochs.specs.Weigh.{weigh, reaches_two_thirds, shifted, justified_where, finalized_by, finalizing}
use Rattle.ffg_law.specs.Weights.{weight_from, among}
use Rattle.beacon_types.specs.declared.checkpoint.Checkpoint.{Checkpoint}
use Rattle.ffg_law.specs.declared.link.Link.{Link}
use Rattle.ffg_law.specs.Links.{AreApart, links_of}
use Rattle.ffg_law.specs.Histories.{IsHistory, have_enough, made_by, total_of, total_of_all}
use Rattle.ffg_law.specs.inside.TwoHistories.{first_history, second_history, four_weights}
use Rattle.ffg_law.proofs.example.two_histories.Goals as goal

first_is : IsHistory 1 four_weights first_history
unfolding checked_mul weigh reaches_two_thirds shifted justified_where finalized_by finalizing weight_from among total_of total_of_all
first_is = (refl, refl, refl, (refl, refl, refl, (refl, refl, refl, (refl, refl, refl, (refl, refl, refl, tt)))))

second_is : IsHistory 1 four_weights second_history
unfolding checked_mul weigh reaches_two_thirds shifted justified_where finalized_by finalizing weight_from among total_of total_of_all
second_is = (refl, refl, refl, (refl, refl, refl, (refl, refl, refl, (refl, refl, refl, (refl, refl, refl, tt)))))

-- two links to different epochs have different targets
other_epochs : (x y a b : Link) → x ≡ a → y ≡ b → (x.target.epoch ≡ y.target.epoch → ⊥) → a.target ≡ b.target → ⊥
other_epochs x y a b x_is y_is other same =
    other (ap (λ (l : Link). l.target.epoch) x_is ∙ (ap (λ (k : Checkpoint). k.epoch) same ∙ sym (ap (λ (l : Link). l.target.epoch) y_is)))

are_apart : AreApart 2 (links_of (made_by 1 four_weights first_history)) (links_of (made_by 1 four_weights second_history))
unfolding have_enough weight_from among total_of total_of_all
are_apart a b (inl one) (inl two) from same = other_epochs _ _ a b one two (λ e. omega arith) same
are_apart a b (inl one) (inr (inl two)) from same = other_epochs _ _ a b one two (λ e. omega arith) same
are_apart a b (inl one) (inr (inr none)) from same = none
are_apart a b (inr (inl one)) (inl two) from same = other_epochs _ _ a b one two (λ e. omega arith) same
are_apart a b (inr (inl one)) (inr (inl two)) from same = other_epochs _ _ a b one two (λ e. omega arith) same
are_apart a b (inr (inl one)) (inr (inr none)) from same = none
are_apart a b (inr (inr none)) two from same = none

pub returns-clause-convicted : goal.returns-clause-convicted
returns-clause-convicted c = c.a_third_is_convicted.ensures 1 four_weights first_history second_history (omega arith) first_is second_is (omega arith) (omega arith) are_apart

pub returns-clause-first : goal.returns-clause-first
returns-clause-first c = first_is

pub returns-clause-second : goal.returns-clause-second
returns-clause-second c = second_is
