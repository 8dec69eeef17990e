-- One attester stands once in a list of one.
use Rattle.std.proofs.Common.{◌≡◌, ◌≤◌, ◌==◌, ℕ, Bool, true, false, List, [], ◌∷◌, refl, arith}
use Rattle.std.specs.Prelude.{count_by}
use Rattle.std.specs.List.{All}
use Rattle.std.proofs.lemmas.List.Elements.{All-nil, All-cons}
use Rattle.forensics.specs.Room.{StandOnce, all_of}

at_most_one : (validator other : ℕ) (same : Bool) → (validator == other) ≡ same → count_by (λ a. a == other) (validator ∷ []) ≤ 1
at_most_one validator other true is = rw is (omega arith)
at_most_one validator other false is = rw is (omega arith)

alone_once : (validator other : ℕ) → all_of (validator ∷ []) other ≤ 1
unfolding all_of
alone_once validator other = at_most_one validator other (validator == other) refl

pub stands_once : (validator : ℕ) → StandOnce ((validator ∷ []) ∷ [])
stands_once validator = record { once = All-cons (λ attesters. (other : ℕ) → all_of attesters other ≤ 1) (validator ∷ []) [] (alone_once validator) (All-nil (λ attesters. (other : ℕ) → all_of attesters other ≤ 1)) }
