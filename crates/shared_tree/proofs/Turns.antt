-- What is left of a walk over numbers.
use Rattle.std.proofs.Common.{◌≡◌, ℕ, List, [], ◌++◌, take, ap, ◌∙◌}
use Rattle.std.specs.List.{flat_map}
use Rattle.shared_tree.specs.declared.four.Four.{Four}
use Rattle.shared_tree.specs.inside.Fours.{numbers_in}
use Rattle.shared_tree.specs.inside.Turns.{numbers_left}

pub numbers_all : (len : ℕ) (rest : List ℕ) (fours now : List Four) → rest ≡ [] → fours ≡ now → numbers_left len rest fours ≡ numbers_in len now
unfolding numbers_in
numbers_all len rest fours now none e =
    ap (λ (xs : List ℕ). take len (xs ++ flat_map (λ f. f.numbers) fours)) none
    ∙ ap (λ (fs : List Four). take len (flat_map (λ f. f.numbers) fs)) e
