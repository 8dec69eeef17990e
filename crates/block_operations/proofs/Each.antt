-- Slashing one validator after another of those whose indices are in two lists.
use Rattle.std.proofs.Common.{◌≡◌, ℕ, zero, suc, ◌+◌, ◌<◌, ◌≤◌, Bool, true, false, cond, List, [], ◌∷◌, length, get_or, drop, refl, ap, ◌∙◌, arith}
use Rattle.std.proofs.Math.ListN.{drop_of_length-le}
use Rattle.std.specs.Prelude.{◌==◌}
use Rattle.std.specs.List.{list_any}
use Rattle.bc_words.specs.Outcome.{Outcome, done, bind, Stops}
use Rattle.bc_words.specs.declared.stop.Stop.{Stop}
use Rattle.bc_words.proofs.Outcomes.{stops_bound}
use Rattle.spec_blocks.specs.Checks.{each_of}
use Rattle.spec_blocks.specs.ProcessAttesterSlashing.{in_both}

abbrev among : List ℕ → ℕ → Bool
among second index = list_any (λ other. other == index) second

opens : (first second : List ℕ) (index : ℕ) → in_both (index ∷ first) second ≡ cond (among second index) (index ∷ in_both first second) (in_both first second)
unfolding in_both
opens first second index = refl

none_in_both : (second : List ℕ) → in_both [] second ≡ []
unfolding in_both
none_in_both second = refl

at : (first second : List ℕ) (i : ℕ) → i < length first → in_both (drop i first) second ≡ cond (among second (get_or first i 0)) (get_or first i 0 ∷ in_both (drop (i + 1) first) second) (in_both (drop (i + 1) first) second)
at [] second i h = absurd (omega arith)
at (index ∷ first) second zero h = opens first second index
at (index ∷ first) second (suc i) h = at first second i (omega arith) ∙ ap (λ k. cond (among second (get_or first i 0)) (get_or first i 0 ∷ in_both (drop k (index ∷ first)) second) (in_both (drop k (index ∷ first)) second)) (let e : suc (i + 1) ≡ suc i + 1 = omega arith in e)

pub not_in_both : (first second : List ℕ) (i : ℕ) → i < length first → among second (get_or first i 0) ≡ false → in_both (drop i first) second ≡ in_both (drop (i + 1) first) second
not_in_both first second i h not_there = at first second i h ∙ ap (λ b. cond b (get_or first i 0 ∷ in_both (drop (i + 1) first) second) (in_both (drop (i + 1) first) second)) not_there

here : (first second : List ℕ) (i : ℕ) → i < length first → among second (get_or first i 0) ≡ true → in_both (drop i first) second ≡ get_or first i 0 ∷ in_both (drop (i + 1) first) second
here first second i h there = at first second i h ∙ ap (λ b. cond b (get_or first i 0 ∷ in_both (drop (i + 1) first) second) (in_both (drop (i + 1) first) second)) there

each_opens : {S : Type 0} (step : S → ℕ → Outcome S) (state : S) (index : ℕ) (rest : List ℕ) → each_of step state (index ∷ rest) ≡ bind (step state index) (λ next. each_of step next rest)
unfolding each_of
each_opens step state index rest = refl

each_none : {S : Type 0} (step : S → ℕ → Outcome S) (state : S) → each_of step state [] ≡ done state
unfolding each_of
each_none step state = refl

module _ {S : Type 0} (step : S → ℕ → Outcome S) where
  each_here : (first second : List ℕ) (i : ℕ) (state : S) → i < length first → among second (get_or first i 0) ≡ true → each_of step state (in_both (drop i first) second) ≡ bind (step state (get_or first i 0)) (λ next. each_of step next (in_both (drop (i + 1) first) second))
  each_here first second i state h there = ap (each_of step state) (here first second i h there) ∙ each_opens step state (get_or first i 0) (in_both (drop (i + 1) first) second)

  pub one_slashed : (first second : List ℕ) (i : ℕ) (state next : S) → i < length first → among second (get_or first i 0) ≡ true → step state (get_or first i 0) ≡ done next → each_of step state (in_both (drop i first) second) ≡ each_of step next (in_both (drop (i + 1) first) second)
  one_slashed first second i state next h there e = each_here first second i state h there ∙ ap (λ o. bind o (λ s. each_of step s (in_both (drop (i + 1) first) second))) e

  pub one_stops : (first second : List ℕ) (i : ℕ) (state : S) (stop : Stop) → i < length first → among second (get_or first i 0) ≡ true → Stops stop (step state (get_or first i 0)) → Stops stop (each_of step state (in_both (drop i first) second))
  one_stops first second i state stop h there e = rw (each_here first second i state h there) (stops_bound stop (step state (get_or first i 0)) (λ s. each_of step s (in_both (drop (i + 1) first) second)) e)

  pub all_ended : (first second : List ℕ) (i : ℕ) (state : S) → length first ≤ i → each_of step state (in_both (drop i first) second) ≡ done state
  all_ended first second i state past = ap (λ xs. each_of step state (in_both xs second)) (drop_of_length-le first past) ∙ ap (each_of step state) (none_in_both second) ∙ each_none step state

  pub all_begin : (first second : List ℕ) (state : S) → each_of step state (in_both (drop 0 first) second) ≡ each_of step state (in_both first second)
  all_begin first second state = refl

-- what the loop over the first list needs
pub ruleset slashing = (all_begin, all_ended, not_in_both, one_slashed, one_stops)
