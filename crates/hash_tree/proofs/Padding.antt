-- The rounds of the block of padding, whose numbers are computed.
use Rattle.std.proofs.Common.{◌≡◌, ◌∙◌, ℕ, zero, suc, ◌+◌, List, [], ◌∷◌, length, slice_index, refl, ap, arith}
use Rattle.sha2.specs.Sha256.{add32, big_sigma1, ch, first_words, round, rounds, schedule}
use Rattle.hash_tree.specs.declared.constants.TheConstants.{PADDING_SUMS, ROUND_CONSTANTS}
use Rattle.hash_tree.specs.inside.Lanes.{padding_block}
use Rattle.hash_tree.proofs.Schedules.{next_round, schedule_length}
use Rattle.hash_tree.proofs.SumOrder.{round_from}

-- the sums of two lists of words, place by place
sums : List ℕ → List ℕ → List ℕ
sums (x ∷ xs) (y ∷ ys) = add32 x y ∷ sums xs ys
sums xs ys = []

sum_at : (xs ys : List ℕ) (t : ℕ) → length xs ≡ length ys → slice_index (sums xs ys) t ≡ add32 (slice_index xs t) (slice_index ys t)
unfolding sums
sum_at [] [] t same = refl
sum_at [] (y ∷ ys) t same = absurd (omega arith)
sum_at (x ∷ xs) [] t same = absurd (omega arith)
sum_at (x ∷ xs) (y ∷ ys) zero same = refl
sum_at (x ∷ xs) (y ∷ ys) (suc t) same = sum_at xs ys t (omega arith)

padding_sums : PADDING_SUMS ≡ sums ROUND_CONSTANTS (schedule padding_block 48)
unfolding sums schedule first_words padding_block
padding_sums = refl

padding_sum : (t : ℕ) → slice_index PADDING_SUMS t ≡ add32 (slice_index ROUND_CONSTANTS t) (slice_index (schedule padding_block 48) t)
padding_sum t =
    ap (λ (xs : List ℕ). slice_index xs t) padding_sums
    ∙ sum_at ROUND_CONSTANTS (schedule padding_block 48) t (omega (arith, schedule_length padding_block 48))

-- a number that was added before
joined : (x k w : ℕ) → add32 (add32 x (add32 k w)) 0 ≡ add32 (add32 x k) w
joined x k w = omega arith

round_joined : (v : List ℕ) (k w : ℕ) → round v (add32 k w) 0 ≡ round v k w
round_joined v k w = ap (round_from v) (joined (add32 (add32 (slice_index v 7) (big_sigma1 (slice_index v 4))) (ch (slice_index v 4) (slice_index v 5) (slice_index v 6))) k w)

-- one more round of the padding
pub padding_round : (h v : List ℕ) (t : ℕ) (next : List ℕ) → v ≡ rounds h (schedule padding_block 48) t → next ≡ round v (slice_index PADDING_SUMS t) 0 → next ≡ rounds h (schedule padding_block 48) (t + 1)
padding_round h v t next before made =
    let word = slice_index (schedule padding_block 48) t in
    next_round h (schedule padding_block 48) v t word next before refl (made ∙ (rw (padding_sum t) (round_joined v (slice_index ROUND_CONSTANTS t) word)))
