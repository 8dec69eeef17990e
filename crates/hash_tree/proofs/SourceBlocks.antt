-- The words of the blocks that begin with a seed.
use Rattle.std.proofs.Common.{◌≡◌, ◌≢◌, ◌∙◌, ℕ, zero, suc, ◌+◌, ◌-◌, ◌*◌, ◌^◌, ◌<◌, ◌≤◌, List, ◌++◌, length, slice_index, refl, sym, ap, inl, inr, arith}
use Rattle.std.proofs.lemmas.List.{get_or_append_left, get_or-append_right}
use Rattle.std.proofs.lemmas.Bool.{cases_lt}
use Rattle.sha2.specs.Sha256.{word_at, schedule, rounds}
use Rattle.hash_tree.proofs.Lanes.{below_eight}
use Rattle.hash_tree.proofs.Schedules.{block_word, further_word, same_next, same_rounds}
use Rattle.hash_tree.specs.inside.Lanes.{source_block, source_tail}

byte_of_seed : (seed tail : List ℕ) (k : ℕ) → length seed ≡ 32 → k < 32 → slice_index (seed ++ tail) k ≡ slice_index seed k
byte_of_seed seed tail k long less = get_or_append_left seed tail 0 k (omega arith)

byte_behind : (seed tail : List ℕ) (k : ℕ) → length seed ≡ 32 → 32 ≤ k → slice_index (seed ++ tail) k ≡ slice_index tail (k - 32)
byte_behind seed tail k long more = get_or-append_right seed tail 32 k 0 long more

-- a word of the seed
pub seed_word : (seed tail : List ℕ) (k : ℕ) → length seed ≡ 32 → k < 8 → word_at (seed ++ tail) (4 * k) ≡ word_at seed (4 * k)
seed_word seed tail k long less =
    rw (
      byte_of_seed seed tail (4 * k) long (omega arith),
      byte_of_seed seed tail (4 * k + 1) long (omega arith),
      byte_of_seed seed tail (4 * k + 2) long (omega arith),
      byte_of_seed seed tail (4 * k + 3) long (omega arith),
    ) refl

-- a word behind the seed
pub word_behind : (seed tail : List ℕ) (k : ℕ) → length seed ≡ 32 → 8 ≤ k → word_at (seed ++ tail) (4 * k) ≡ word_at tail (4 * (k - 8))
word_behind seed tail k long more =
    let zero : 4 * k - 32 ≡ 4 * (k - 8) = omega arith in
    let one : 4 * k + 1 - 32 ≡ 4 * (k - 8) + 1 = omega arith in
    let two : 4 * k + 2 - 32 ≡ 4 * (k - 8) + 2 = omega arith in
    let three : 4 * k + 3 - 32 ≡ 4 * (k - 8) + 3 = omega arith in
    rw (
      byte_behind seed tail (4 * k) long (omega arith),
      byte_behind seed tail (4 * k + 1) long (omega arith),
      byte_behind seed tail (4 * k + 2) long (omega arith),
      byte_behind seed tail (4 * k + 3) long (omega arith),
      zero,
      one,
      two,
      three,
    ) refl

-- the first eight rounds are the same for each block that begins with the seed
pub begun_alike : (seed tail tail′ h : List ℕ) → length seed ≡ 32
    → rounds h (schedule (seed ++ tail) 48) 8 ≡ rounds h (schedule (seed ++ tail′) 48) 8
begun_alike seed tail tail′ h long =
    same_rounds h (schedule (seed ++ tail) 48) (schedule (seed ++ tail′) 48) 8 (λ k less.
    block_word (seed ++ tail) 48 k (omega arith)
    ∙ seed_word seed tail k long less
    ∙ sym (seed_word seed tail′ k long less)
    ∙ sym (block_word (seed ++ tail′) 48 k (omega arith)))

-- the word of a page below 2 ^ 24 that holds its last byte
near_word : (round page : ℕ) → page < 2 ^ 24 → word_at (source_tail round page) 4 ≡ 8388608
unfolding source_tail
near_word round page near = omega arith

-- the words behind the seed but the first, by computing them
tail_alike : (round page round′ page′ : ℕ) → page < 2 ^ 24 → page′ < 2 ^ 24 → (i : ℕ) → i < 8 → i ≢ 0
    → word_at (source_tail round page) (4 * i) ≡ word_at (source_tail round′ page′) (4 * i)
unfolding source_tail
tail_alike round page round′ page′ near near′ =
    below_eight (λ (i : ℕ). i ≢ 0 → word_at (source_tail round page) (4 * i) ≡ word_at (source_tail round′ page′) (4 * i))
    (λ apart. absurd (apart refl))
    (λ _. near_word round page near ∙ sym (near_word round′ page′ near′))
    (λ _. refl) (λ _. refl) (λ _. refl) (λ _. refl) (λ _. refl) (λ _. refl)

module _ (seed : List ℕ) (round page round′ page′ : ℕ) (long : length seed ≡ 32) (near : page < 2 ^ 24) (near′ : page′ < 2 ^ 24) where
  abbrev one : List ℕ
  one = source_block seed round page

  abbrev other : List ℕ
  other = source_block seed round′ page′

  block_alike : (k : ℕ) → k < 16 → k ≢ 8 → word_at one (4 * k) ≡ word_at other (4 * k)
  block_alike k less apart = elim (cases_lt k 8) [
    | inl low ↦ seed_word seed (source_tail round page) k long low ∙ sym (seed_word seed (source_tail round′ page′) k long low)
    | inr more ↦
        word_behind seed (source_tail round page) k long more
        ∙ tail_alike round page round′ page′ near near′ (k - 8) (omega arith) (omega arith)
        ∙ sym (word_behind seed (source_tail round′ page′) k long more)
  ]

  -- the words before a place
  alike : (n : ℕ) → n ≤ 23 → (k : ℕ) → k < n → k ≢ 8 → slice_index (schedule one 48) k ≡ slice_index (schedule other 48) k
  alike zero fits k less apart = absurd (omega arith)
  alike (suc n) fits k less apart = elim (cases_lt k n) [
    | inl before ↦ alike n (omega arith) k before apart
    | inr last ↦ elim (cases_lt k 16) [
      | inl low ↦ block_word one 48 k low ∙ block_alike k low apart ∙ sym (block_word other 48 k low)
      | inr high ↦
          further_word one 48 k high (omega arith)
          ∙ same_next (schedule one 48) (schedule other 48) k
          (alike n (omega arith) (k - 2) (omega arith) (omega arith)) (alike n (omega arith) (k - 7) (omega arith) (omega arith))
          (alike n (omega arith) (k - 15) (omega arith) (omega arith)) (alike n (omega arith) (k - 16) (omega arith) (omega arith))
          ∙ sym (further_word other 48 k high (omega arith))
    ]
  ]

  -- the words before place 23 but one are the same for each round and each page below 2 ^ 24 of a seed
  pub common_alike : (k : ℕ) → k < 23 → k ≢ 8 → slice_index (schedule one 48) k ≡ slice_index (schedule other 48) k
  common_alike = alike 23 (omega arith)
