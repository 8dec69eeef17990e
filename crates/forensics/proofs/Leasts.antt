-- The least that passes, one by one.
use Rattle.std.proofs.Common.{◌≡◌, ◌∙◌, ℕ, zero, suc, ◌+◌, ◌<◌, ◌≤◌, Bool, true, false, List, [], ◌∷◌, length, get_or, drop, Option, refl, ap, arith, add-one, drop-cons}
use Rattle.forensics.specs.Spans.{lesser, least_of}

pub least_opens : (test : ℕ → Bool) (best : Option ℕ) (votes : List ℕ) (i : ℕ) → i < length votes → least_of test best (drop i votes) ≡ least_of test (lesser (test (get_or votes i 0)) best (get_or votes i 0)) (drop (i + 1) votes)
unfolding least_of
least_opens test best votes i inside = rw (add-one, drop-cons votes i 0) refl

module _ (test : ℕ → Bool) (votes : List ℕ) (i : ℕ) (inside : i < length votes) where
  pub least_skips : (best : Option ℕ) → test (get_or votes i 0) ≡ false → least_of test best (drop i votes) ≡ least_of test best (drop (i + 1) votes)
  unfolding lesser
  least_skips best fails = least_opens test best votes i inside ∙ ap (λ b. least_of test (lesser b best (get_or votes i 0)) (drop (i + 1) votes)) fails

  pub least_takes : (best : Option ℕ) → test (get_or votes i 0) ≡ true → least_of test best (drop i votes) ≡ least_of test (lesser true best (get_or votes i 0)) (drop (i + 1) votes)
  least_takes best is = least_opens test best votes i inside ∙ ap (λ b. least_of test (lesser b best (get_or votes i 0)) (drop (i + 1) votes)) is

pub least_ends : (test : ℕ → Bool) (best : Option ℕ) (votes : List ℕ) (i : ℕ) → length votes ≤ i → least_of test best (drop i votes) ≡ best
unfolding least_of
least_ends test best [] zero over = refl
least_ends test best [] (suc i) over = refl
least_ends test best (v ∷ votes) zero over = absurd (omega arith)
least_ends test best (v ∷ votes) (suc i) over = least_ends test best votes i (omega arith)

pub ruleset least_step = (least_skips, least_takes, least_ends)
