-- Numbers in chunks of four.
use Rattle.std.specs.Prelude.{ℕ, List, [], ◌∷◌, get_or, take}
use Rattle.std.specs.List.{flat_map}
use Rattle.shared_tree.specs.declared.four.Four.{Four}

abbrev pub four : ℕ → ℕ → ℕ → ℕ → Four
four a b c d = record { numbers = a ∷ b ∷ c ∷ d ∷ [] }

-- the first four numbers, where those that are missing are 0
abbrev pub first_four : List ℕ → Four
first_four numbers = four (get_or numbers 0 0) (get_or numbers 1 0) (get_or numbers 2 0) (get_or numbers 3 0)

-- the numbers in chunks
unfoldable pub packed : List ℕ → List Four
packed [] = []
packed (a ∷ []) = four a 0 0 0 ∷ []
packed (a ∷ b ∷ []) = four a b 0 0 ∷ []
packed (a ∷ b ∷ c ∷ []) = four a b c 0 ∷ []
packed (a ∷ b ∷ c ∷ d ∷ numbers) = four a b c d ∷ packed numbers

-- the first numbers of the chunks
unfoldable pub numbers_in : ℕ → List Four → List ℕ
numbers_in len fours = take len (flat_map (λ f. f.numbers) fours)
