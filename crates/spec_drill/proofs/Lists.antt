-- What holds of each number of a list.
use Rattle.std.proofs.Common.{ℕ, zero, suc, ◌+◌, ◌<◌, List, [], ◌∷◌, length, slice_index, arith}
use Rattle.std.specs.List.{range_with_len, AllByRecursion}

pub index_holds : (P : ℕ → Type 0) (xs : List ℕ) (i : ℕ) → AllByRecursion P xs → i < length xs → P (slice_index xs i)
index_holds P [] i all less = absurd (omega arith)
index_holds P (x ∷ xs) zero all less = all.0
index_holds P (x ∷ xs) (suc i) all less = index_holds P xs i all.1 (omega arith)

pub range_all : (P : ℕ → Type 0) (start n : ℕ) → ((i : ℕ) → i < start + n → P i) → AllByRecursion P (range_with_len start n)
range_all P start zero each = tt
range_all P start (suc n) each = (each start (omega arith), range_all P (start + 1) n (λ i less. each i (omega arith)))
