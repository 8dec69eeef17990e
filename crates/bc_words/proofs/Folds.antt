-- A fold over indices, one step at a time. A loop over i below n that steps names `each_index` in its
-- #[tactic(auto, using(..))] and has the invariant `each_from step (n - i) i state ≡ each_from step n 0 old`.
use Rattle.std.proofs.Common.{◌≡◌, ℕ, zero, suc, ◌+◌, ◌-◌, ◌<◌, ◌≤◌, ap, ◌∙◌, arith}
use Rattle.bc_words.specs.Outcome.{Outcome, done, bind, each_from, Stops}
use Rattle.bc_words.specs.declared.stop.Stop.{Stop}
use Rattle.bc_words.proofs.Outcomes.{stops_bound}

opens : {S : Type 0} (step : ℕ → S → Outcome S) (n i : ℕ) (state : S) → i < n → each_from step (n - i) i state ≡ bind (step i state) (each_from step (n - (i + 1)) (i + 1))
unfolding each_from
opens step n i state less = let e : n - i ≡ suc (n - (i + 1)) = omega arith in ap (λ k. each_from step k i state) e

-- past the last index the state is the value
pub each_ends : {S : Type 0} (step : ℕ → S → Outcome S) (n i : ℕ) (state : S) → n ≤ i → each_from step (n - i) i state ≡ done state
unfolding each_from
each_ends step n i state over = let e : n - i ≡ zero = omega arith in ap (λ k. each_from step k i state) e

-- a step that gives a state leaves the steps behind it
pub each_steps : {S : Type 0} (step : ℕ → S → Outcome S) (n i : ℕ) (state next : S) → i < n → step i state ≡ done next → each_from step (n - i) i state ≡ each_from step (n - (i + 1)) (i + 1) next
each_steps step n i state next less e = opens step n i state less ∙ ap (λ o. bind o (each_from step (n - (i + 1)) (i + 1))) e

-- a step that stops is the stop of all
pub each_stops : {S : Type 0} (step : ℕ → S → Outcome S) (n i : ℕ) (state : S) (stop : Stop) → i < n → Stops stop (step i state) → Stops stop (each_from step (n - i) i state)
each_stops step n i state stop less e = rw (opens step n i state less) (stops_bound stop (step i state) (each_from step (n - (i + 1)) (i + 1)) e)

-- the three of a loop
pub ruleset each_index = (each_ends, each_steps, each_stops)
