-- A set of validators by its bits.
use Rattle.std.proofs.Common.{◌≡◌, ℕ, zero, suc, ◌+◌, ◌*◌, ◌/◌, ◌%◌, ◌^◌, ◌<◌, ◌≤◌, ◌⊎◌, inl, inr, Bool, true, false, cond, ◌||◌, eqb, List, [], ◌∷◌, ◌++◌, length, filter, get_or, set, refl, sym, ap, ◌∙◌, arith, length-append}
use Rattle.std.specs.Prelude.{bit_or, bit_and}
use Rattle.std.specs.Int.{bit_at, w64}
use Rattle.std.specs.List.{list_any, range_with_len}
use Rattle.std.proofs.Math.ListN.{length-set}
use Rattle.std.proofs.lemmas.Bool.{cases_eq, cases_lt, eq-eqb, ne_eqb, lt-ltb, le-ltb}
use Rattle.std.proofs.lemmas.List.{get_or-set_same, get_or-set_other, get_or_past}
use Rattle.std.proofs.lemmas.Nat.Bits.{shr_and_one, bit_at-zero, bit_at_set_same, bit_at_set_other}
use Rattle.block_array.specs.PlainArray.{is_listed}
use Rattle.bc_words.specs.Indices.{with_index}
use Rattle.block_array.specs.inside.Silenced.{has_bit, indices_in}

-- ---- the numbers of a range that pass a test

module _ (p : ℕ → Bool) where
  listed_low : (n first k : ℕ) → k < first → is_listed (filter p (range_with_len first n)) k ≡ false
  unfolding is_listed
  listed_low zero first k low = refl
  listed_low (suc n) first k low = by (p first) (listed_low n (first + 1) k (omega arith))
    where
      rest : List ℕ
      rest = filter p (range_with_len (first + 1) n)

      by : (b : Bool) → list_any (λ other. eqb other k) rest ≡ false → list_any (λ other. eqb other k) (cond b (first ∷ rest) rest) ≡ false
      by true again = ap (λ b. b || list_any (λ other. eqb other k) rest) (ne_eqb first k (λ e. omega arith)) ∙ again
      by false again = again

  listed_range : (n first k : ℕ) → first ≤ k → (k < first + n) ⊎ (p k ≡ false) → is_listed (filter p (range_with_len first n)) k ≡ p k
  unfolding is_listed
  listed_range zero first k from (inl inside) = absurd (omega arith)
  listed_range zero first k from (inr none) = sym none
  listed_range (suc n) first k from inside = by (p first) refl (cases_eq first k) (λ l i. listed_range n (first + 1) k l i)
    where
      rest : List ℕ
      rest = filter p (range_with_len (first + 1) n)

      behind : (k < first + suc n) ⊎ (p k ≡ false) → (first ≡ k → ⊥) → (k < first + 1 + n) ⊎ (p k ≡ false)
      behind (inl less) other = inl (omega arith)
      behind (inr none) other = inr none

      later : (first ≡ k → ⊥) → first + 1 ≤ k
      later other = elim (cases_lt first k) [ inl less ↦ omega arith | inr low ↦ absurd (other (omega arith)) ]

      by : (b : Bool) → p first ≡ b → (first ≡ k) ⊎ (first ≡ k → ⊥) → (first + 1 ≤ k → (k < first + 1 + n) ⊎ (p k ≡ false) → list_any (λ other. eqb other k) rest ≡ p k) → list_any (λ other. eqb other k) (cond b (first ∷ rest) rest) ≡ p k
      by true is (inl same) again = ap (λ b. b || list_any (λ other. eqb other k) rest) (eq-eqb first k same) ∙ sym is ∙ ap p same
      by false is (inl same) again = listed_low n (first + 1) k (omega arith) ∙ sym is ∙ ap p same
      by true is (inr other) again = ap (λ b. b || list_any (λ other. eqb other k) rest) (ne_eqb first k other) ∙ again (later other) (behind inside other)
      by false is (inr other) again = again (later other) (behind inside other)

  none_from : (n first : ℕ) → ((k : ℕ) → first ≤ k → p k ≡ false) → filter p (range_with_len first n) ≡ []
  none_from zero first none = refl
  none_from (suc n) first none = ap (λ b. cond b (first ∷ filter p (range_with_len (first + 1) n)) (filter p (range_with_len (first + 1) n))) (none first (omega arith)) ∙ none_from n (first + 1) (λ k h. none k (omega arith))

  -- a longer range, of whose further numbers none passes it
  longer : (n m first : ℕ) → ((k : ℕ) → first + n ≤ k → p k ≡ false) → filter p (range_with_len first (n + m)) ≡ filter p (range_with_len first n)
  longer zero m first none = ap (λ k. filter p (range_with_len first k)) (let e : 0 + m ≡ m = omega arith in e) ∙ none_from m first (λ k h. none k (omega arith))
  longer (suc n) m first none =
      ap (λ k. filter p (range_with_len first k)) (let e : suc n + m ≡ suc (n + m) = omega arith in e)
      ∙ ap (λ rest. cond (p first) (first ∷ rest) rest) (longer n m (first + 1) (λ k h. none k (omega arith)))

  with_low : (n first v : ℕ) → v < first → with_index (filter p (range_with_len first n)) v ≡ v ∷ filter p (range_with_len first n)
  unfolding with_index
  with_low zero first v low = refl
  with_low (suc n) first v low = by (p first) (with_low n (first + 1) v (omega arith))
    where
      rest : List ℕ
      rest = filter p (range_with_len (first + 1) n)

      by : (b : Bool) → with_index rest v ≡ v ∷ rest → with_index (cond b (first ∷ rest) rest) v ≡ v ∷ cond b (first ∷ rest) rest
      by true again = ap (λ b. cond b (v ∷ first ∷ rest) (cond (eqb first v) (first ∷ rest) (first ∷ with_index rest v))) (lt-ltb v first low)
      by false again = again

-- two tests that agree from a number on
same_from : (p q : ℕ → Bool) (n first : ℕ) → ((k : ℕ) → first ≤ k → q k ≡ p k) → filter q (range_with_len first n) ≡ filter p (range_with_len first n)
same_from p q zero first same = refl
same_from p q (suc n) first same =
    ap (λ b. cond b (first ∷ filter q (range_with_len (first + 1) n)) (filter q (range_with_len (first + 1) n))) (same first (omega arith))
    ∙ ap (λ rest. cond (p first) (first ∷ rest) rest) (same_from p q n (first + 1) (λ k h. same k (omega arith)))

-- and two of which one passes one number more
module _ (p q : ℕ → Bool) (v : ℕ) (here : q v ≡ true) (other : (k : ℕ) → (k ≡ v → ⊥) → q k ≡ p k) where
  with_range : (n first : ℕ) → first ≤ v → v < first + n → filter q (range_with_len first n) ≡ with_index (filter p (range_with_len first n)) v
  unfolding with_index
  with_range zero first from inside = absurd (omega arith)
  with_range (suc n) first from inside = by (cases_eq first v) (p first) refl (λ l i. with_range n (first + 1) l i)
    where
      rest : List ℕ
      rest = filter p (range_with_len (first + 1) n)

      more : List ℕ
      more = filter q (range_with_len (first + 1) n)

      at : (b : Bool) → q first ≡ b → cond (q first) (first ∷ more) more ≡ cond b (first ∷ more) more
      at b is = ap (λ b. cond b (first ∷ more) more) is

      later : (first ≡ v → ⊥) → first < v
      later other = elim (cases_lt first v) [ inl less ↦ less | inr low ↦ absurd (other (omega arith)) ]

      by : (first ≡ v) ⊎ (first ≡ v → ⊥) → (b : Bool) → p first ≡ b → (first + 1 ≤ v → v < first + 1 + n → more ≡ with_index rest v) → cond (q first) (first ∷ more) more ≡ with_index (cond (p first) (first ∷ rest) rest) v
      by (inl same) b is again =
          at true (ap q same ∙ here)
          ∙ ap (λ xs. first ∷ xs) (same_from p q n (first + 1) (λ k h. other k (λ e. omega arith)))
          ∙ by_same b
          ∙ ap (λ b. with_index (cond b (first ∷ rest) rest) v) (sym is)
        where
          by_same : (b : Bool) → first ∷ rest ≡ with_index (cond b (first ∷ rest) rest) v
          by_same true = sym (ap (λ b. cond b (v ∷ first ∷ rest) (cond (eqb first v) (first ∷ rest) (first ∷ with_index rest v))) (le-ltb v first (omega arith)) ∙ ap (λ b. cond b (first ∷ rest) (first ∷ with_index rest v)) (eq-eqb first v same))
          by_same false = ap (λ k. k ∷ rest) same ∙ sym (with_low p n (first + 1) v (omega arith))
      by (inr isnt) true is again =
          at true (other first isnt ∙ is)
          ∙ ap (λ xs. first ∷ xs) (again (let l = later isnt in omega arith) (omega arith))
          ∙ sym (ap (λ b. cond b (v ∷ first ∷ rest) (cond (eqb first v) (first ∷ rest) (first ∷ with_index rest v))) (le-ltb v first from) ∙ ap (λ b. cond b (first ∷ rest) (first ∷ with_index rest v)) (ne_eqb first v isnt))
          ∙ ap (λ b. with_index (cond b (first ∷ rest) rest) v) (sym is)
      by (inr isnt) false is again =
          at false (other first isnt ∙ is)
          ∙ again (let l = later isnt in omega arith) (omega arith)
          ∙ ap (λ b. with_index (cond b (first ∷ rest) rest) v) (sym is)

-- ---- bits

-- no bit is set behind the words
bit_past : (words : List ℕ) (k : ℕ) → 64 * length words ≤ k → has_bit words k ≡ false
unfolding has_bit
bit_past words k high =
    ap (λ word. eqb (bit_at word (k % 64)) 1) (get_or_past words (k / 64) 0 (omega arith))
    ∙ ap (λ b. eqb b 1) (bit_at-zero (k % 64))

pub listed_bit : (words : List ℕ) (k : ℕ) → is_listed (indices_in words) k ≡ has_bit words k
unfolding indices_in
listed_bit words k = listed_range (has_bit words) (64 * length words) 0 k (omega arith) (by (cases_lt k (64 * length words)))
  where
    by : (k < 64 * length words) ⊎ (64 * length words ≤ k) → (k < 0 + 64 * length words) ⊎ (has_bit words k ≡ false)
    by (inl inside) = inl (omega arith)
    by (inr high) = inr (bit_past words k high)

pub bit_read : (words : List ℕ) (k word : ℕ) → word ≡ get_or words (k / 64) 0 → eqb (bit_and (word / 2 ^ (k % 64)) 1) 1 ≡ is_listed (indices_in words) k
unfolding has_bit
bit_read words k word is =
    ap (λ b. eqb b 1) (shr_and_one word (k % 64) ∙ ap (λ w. bit_at w (k % 64)) is)
    ∙ sym (listed_bit words k)

pub nobody : (words : List ℕ) → words ≡ [] → indices_in words ≡ []
unfolding indices_in
nobody words none = ap indices_in none

pub ruleset beginning = (nobody)

word_more : (words : List ℕ) (i : ℕ) → get_or (words ++ 0 ∷ []) i 0 ≡ get_or words i 0
word_more [] zero = refl
word_more [] (suc i) = refl
word_more (word ∷ words) zero = refl
word_more (word ∷ words) (suc i) = word_more words i

-- one more word without a bit
pub padded : (words : List ℕ) → indices_in (words ++ 0 ∷ []) ≡ indices_in words
unfolding indices_in has_bit
padded words =
    same_from (has_bit words) (has_bit (words ++ 0 ∷ [])) (64 * length (words ++ 0 ∷ [])) 0 (λ k h. ap (λ word. eqb (bit_at word (k % 64)) 1) (word_more words (k / 64)))
    ∙ ap (λ n. filter (has_bit words) (range_with_len 0 n)) (let l = length-append words (0 ∷ []) in let e : 64 * length (words ++ 0 ∷ []) ≡ 64 * length words + 64 = omega arith in e)
    ∙ longer (has_bit words) (64 * length words) 64 0 (λ k h. bit_past words k (omega arith))

-- a word that was read, whatever stands where there is none
pub word_is : (words : List ℕ) (i word : ℕ) → i < length words → word ≡ get_or words i word → word ≡ get_or words i 0
word_is [] i word inside is = absurd (omega arith)
word_is (w ∷ words) zero word inside is = is
word_is (w ∷ words) (suc i) word inside is = word_is words i word (omega arith) is

-- one more bit
pub inserted : (words : List ℕ) (v : ℕ) → v / 64 < length words → indices_in (set words (v / 64) (bit_or (get_or words (v / 64) 0) (1 * 2 ^ (v % 64) % 2 ^ 64))) ≡ with_index (indices_in words) v
unfolding indices_in has_bit
inserted words v inside =
    ap (λ n. filter (has_bit next) (range_with_len 0 (64 * n))) (length-set words (v / 64) word)
    ∙ with_range (has_bit words) (has_bit next) v here other (64 * length words) 0 (omega arith) (omega arith)
  where
    word : ℕ
    word = bit_or (get_or words (v / 64) 0) (1 * 2 ^ (v % 64) % 2 ^ 64)

    next : List ℕ
    next = set words (v / 64) word

    here : has_bit next v ≡ true
    here =
        ap (λ w. eqb (bit_at w (v % 64)) 1) (get_or-set_same words (v / 64) word 0 inside)
        ∙ ap (λ b. eqb b 1) (bit_at_set_same w64 (get_or words (v / 64) 0) (v % 64) (omega arith))

    in_word : (k : ℕ) → (k ≡ v → ⊥) → (k / 64 ≡ v / 64) ⊎ (k / 64 ≡ v / 64 → ⊥) → has_bit next k ≡ has_bit words k
    in_word k isnt (inl same) =
        ap (λ i. eqb (bit_at (get_or next i 0) (k % 64)) 1) same
        ∙ ap (λ w. eqb (bit_at w (k % 64)) 1) (get_or-set_same words (v / 64) word 0 inside)
        ∙ ap (λ b. eqb b 1) (bit_at_set_other w64 (get_or words (v / 64) 0) (v % 64) (omega arith) (k % 64) (λ e. isnt (omega arith)))
        ∙ ap (λ i. eqb (bit_at (get_or words i 0) (k % 64)) 1) (sym same)
    in_word k isnt (inr apart) = ap (λ w. eqb (bit_at w (k % 64)) 1) (get_or-set_other words (v / 64) (k / 64) word 0 apart)

    other : (k : ℕ) → (k ≡ v → ⊥) → has_bit next k ≡ has_bit words k
    other k isnt = in_word k isnt (cases_eq (k / 64) (v / 64))
