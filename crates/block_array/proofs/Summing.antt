-- The weight of a node, summed over what is counted.
use Rattle.std.proofs.Common.{◌≡◌, ℕ, zero, suc, ◌+◌, ◌<◌, ◌≤◌, Bool, cond, List, [], ◌∷◌, length, drop, ap, ◌∙◌, arith}
use Rattle.std.specs.List.{All}
use Rattle.std.proofs.lemmas.List.{drop_all}
use Rattle.std.proofs.lemmas.List.Elements.{All-head, All-tail}
use Rattle.block_array.specs.declared.tally.Counted.{Counted}
use Rattle.block_array.specs.inside.Counts.{counted_of, counted_at, IsBelow}
use Rattle.block_array.proofs.Counting.{counted_cons}

-- each of some is counted at a node
pub counted_below : (nodes : ℕ) (cs : List Counted) (i : ℕ) → All (IsBelow nodes) cs → i < length cs → (counted_of cs i).node < nodes
unfolding counted_of
counted_below nodes [] i all inside = absurd (omega arith)
counted_below nodes (c ∷ cs) zero all inside = All-head (IsBelow nodes) c cs all
counted_below nodes (c ∷ cs) (suc i) all inside = counted_below nodes cs i (All-tail (IsBelow nodes) c cs all) (omega arith)

counted_open : (test : ℕ → Bool) (cs : List Counted) (i : ℕ) → i < length cs → counted_at test (drop i cs) ≡ cond (test (counted_of cs i).node) (counted_of cs i).balance 0 + counted_at test (drop (suc i) cs)
unfolding counted_of
counted_open test [] i inside = absurd (omega arith)
counted_open test (c ∷ cs) zero inside = counted_cons test c cs
counted_open test (c ∷ cs) (suc i) inside = counted_open test cs i (omega arith)

-- one of them and those behind it
pub counted_drop : (test : ℕ → Bool) (cs : List Counted) (i : ℕ) → i < length cs → counted_at test (drop i cs) ≡ cond (test (counted_of cs i).node) (counted_of cs i).balance 0 + counted_at test (drop (i + 1) cs)
counted_drop test cs i inside =
    counted_open test cs i inside
    ∙ ap (λ k. cond (test (counted_of cs i).node) (counted_of cs i).balance 0 + counted_at test (drop k cs)) (let e : suc i ≡ i + 1 = omega arith in e)

-- and none behind the last
pub counted_none : (test : ℕ → Bool) (cs : List Counted) (i : ℕ) → length cs ≤ i → counted_at test (drop i cs) ≡ 0
unfolding counted_at
counted_none test cs i past = ap (counted_at test) (drop_all i cs past)
