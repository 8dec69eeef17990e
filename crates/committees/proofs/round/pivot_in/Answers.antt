-- The pivot is read from the first bytes of the hash.
use Rattle.std.proofs.Common.{ℕ, List, take, ◌%◌, ap, ◌∙◌}
use Rattle.std.specs.Int.{from_le_bytes, w64}
use Rattle.committees.specs.Shuffling.{pivot_of}
use Rattle.committees.proofs.round.pivot_in.Goals as goal

pub returns-clause-pivot : goal.returns-clause-pivot
unfolding pivot_of
returns-clause-pivot c = λ seed round is.
    ap (λ n. n % c.args.count) (c.first_number.ensures ∙ ap (λ (hash : List ℕ). from_le_bytes w64 (take 8 hash)) is)
