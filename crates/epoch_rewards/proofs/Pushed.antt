-- A loop that puts a number behind the others for each index below n, in order, and stops with the first that stops.
use Rattle.std.proofs.Common.{◌≡◌, ℕ, ◌+◌, ◌<◌, List, [], ◌∷◌, ◌++◌, Result, Ok, Err, sym, ap, subst, ◌∙◌}
use Rattle.std.specs.Prelude.{IsOkAnd, MatchResult}
use Rattle.bc_words.specs.Outcome.{Outcome, GivesExactly, Stops, StopsExactly}
use Rattle.bc_words.specs.declared.stop.Stop.{Stop}
use Rattle.bc_words.specs.declared.stop.Stop.TheVariants.{NoMemory}
use Rattle.bc_words.proofs.Outcomes.{stops_exactly}
use Rattle.spec_epochs.proofs.Each.{made_from, made_more, made_stops}

pub pushed_more : (make : ℕ → Outcome ℕ) (n i : ℕ) (numbers more : List ℕ) (made : Result ℕ Stop) → i < n → GivesExactly made (make i) → IsOkAnd made (λ number. more ≡ numbers ++ number ∷ [])
    → made_from make n (i + 1) more ≡ made_from make n i numbers
pushed_more make n i numbers more (Ok number) less gives pushed = ap (made_from make n (i + 1)) pushed ∙ sym (made_more make n i numbers number less gives)
pushed_more make n i numbers more (Err stop) less gives pushed = elim pushed [ ]

pub pushed_stops : (make : ℕ → Outcome ℕ) (n i : ℕ) (numbers : List ℕ) (made : Result ℕ Stop) (stop : Stop) → i < n → GivesExactly made (make i) → MatchResult made (λ _. stop ≡ NoMemory) (λ why. stop ≡ why)
    → Stops stop (made_from make n i numbers)
pushed_stops make n i numbers (Ok number) stop less gives same = subst (λ (s : Stop). Stops s (made_from make n i numbers)) (sym same) tt
pushed_stops make n i numbers (Err why) stop less gives same =
    made_stops make n i numbers stop less (stops_exactly stop (make i) (subst (λ (s : Stop). StopsExactly s (make i)) (sym same) gives))
