-- How many numbers below one pass a test.
use Rattle.std.proofs.Common.{◌≡◌, ℕ, zero, suc, ◌+◌, ◌<◌, ◌≤◌, ◌⊎◌, inl, inr, Bool, true, false, cond, ◌||◌, ◌&&◌, eqb, List, [], ◌∷◌, length, take, get_or, refl, sym, ap, ◌∙◌, arith}
use Rattle.std.specs.List.{count_by}
use Rattle.std.proofs.lemmas.Bool.{cases_eq, cases_lt, eq-eqb, ne_eqb}
use Rattle.std.proofs.lemmas.List.{get_or_past, take_all}
use Rattle.std.proofs.lemmas.List.Sums.{sum_by_more, sum_by-cons}
use Rattle.block_array.specs.PlainArray.{is_listed}

unfoldable pub upto : (ℕ → Bool) → ℕ → ℕ
upto test zero = 0
upto test (suc n) = upto test n + cond (test n) 1 0

pub upto_same : (p q : ℕ → Bool) → ((v : ℕ) → p v ≡ q v) → (n : ℕ) → upto p n ≡ upto q n
unfolding upto
upto_same p q same zero = refl
upto_same p q same (suc n) = ap (λ x. x + cond (p n) 1 0) (upto_same p q same n) ∙ ap (λ b. upto q n + cond b 1 0) (same n)

pub upto_either : (p q r : ℕ → Bool) → ((v : ℕ) → cond (p v) 1 0 ≤ cond (q v) 1 0 + cond (r v) 1 0) → (n : ℕ) → upto p n ≤ upto q n + upto r n
unfolding upto
upto_either p q r one zero = omega arith
upto_either p q r one (suc n) = let rest = upto_either p q r one n in let here = one n in omega arith

-- as many as items of a list pass it
pub upto_list : {A : Type 0} (test : A → Bool) (xs : List A) (d : A) → test d ≡ false → (n : ℕ) → upto (λ v. test (get_or xs v d)) n ≡ count_by test (take n xs)
unfolding upto
upto_list test xs d none zero = refl
upto_list test xs d none (suc n) = by (cases_lt n (length xs)) (upto_list test xs d none n)
  where
    by : (n < length xs) ⊎ (length xs ≤ n) → upto (λ v. test (get_or xs v d)) n ≡ count_by test (take n xs) → upto (λ v. test (get_or xs v d)) n + cond (test (get_or xs n d)) 1 0 ≡ count_by test (take (suc n) xs)
    by (inl inside) rest =
        let more : count_by test (take (n + 1) xs) ≡ count_by test (take n xs) + cond (test (get_or xs n d)) 1 0 = sum_by_more (λ x. cond (test x) 1 0) xs n d inside in
        let same : count_by test (take (suc n) xs) ≡ count_by test (take (n + 1) xs) = ap (λ k. count_by test (take k xs)) (let e : suc n ≡ n + 1 = omega arith in e) in
        omega arith
    by (inr past) rest =
        let z : cond (test (get_or xs n d)) 1 0 ≡ (let z : ℕ = 0 in z) = ap (λ x. cond (test x) 1 0) (get_or_past xs n d past) ∙ ap (λ b. cond b 1 0) none in
        let same : count_by test (take (suc n) xs) ≡ count_by test (take n xs) = ap (count_by test) (take_all (suc n) xs (omega arith) ∙ sym (take_all n xs past)) in
        omega arith

-- no more than members of a list pass it, of those that are listed
module _ (test : ℕ → Bool) (x : ℕ) where
  abbrev only : ℕ → Bool
  only v = test v && eqb x v

  and_false : (b : Bool) → (b && false) ≡ false
  and_false true = refl
  and_false false = refl

  before : (n : ℕ) → n ≤ x → upto only n ≡ 0
  unfolding upto
  before zero low = refl
  before (suc n) low =
      let rest : upto only n ≡ 0 = before n (omega arith) in
      let z : cond (only n) 1 0 ≡ (let z : ℕ = 0 in z) = ap (λ b. cond (test n && b) 1 0) (ne_eqb x n (λ e. omega arith)) ∙ ap (λ b. cond b 1 0) (and_false (test n)) in
      omega arith

  one : (n : ℕ) → upto only n ≤ cond (test x) 1 0
  unfolding upto
  one zero = omega arith
  one (suc n) = by (cases_eq x n) (one n)
    where
      and_true : (b : Bool) → (b && true) ≡ b
      and_true true = refl
      and_true false = refl

      by : (x ≡ n) ⊎ (x ≡ n → ⊥) → upto only n ≤ cond (test x) 1 0 → upto only n + cond (only n) 1 0 ≤ cond (test x) 1 0
      by (inl same) below =
          let rest : upto only n ≡ 0 = before n (omega arith) in
          let here : cond (only n) 1 0 ≡ (let k : ℕ = cond (test x) 1 0 in k) = ap (λ b. cond (test n && b) 1 0) (eq-eqb x n same) ∙ ap (λ b. cond b 1 0) (and_true (test n)) ∙ ap (λ k. cond (test k) 1 0) (sym same) in
          omega arith
      by (inr other) below =
          let z : cond (only n) 1 0 ≡ (let z : ℕ = 0 in z) = ap (λ b. cond (test n && b) 1 0) (ne_eqb x n other) ∙ ap (λ b. cond b 1 0) (and_false (test n)) in
          omega arith

pub upto_listed : (test : ℕ → Bool) (xs : List ℕ) (n : ℕ) → upto (λ v. test v && is_listed xs v) n ≤ count_by test xs
unfolding is_listed upto
upto_listed test [] n = let z : upto (λ v. test v && false) n ≡ 0 = none n in omega arith
  where
    none : (n : ℕ) → upto (λ v. test v && false) n ≡ 0
    none zero = refl
    none (suc n) =
        let rest : upto (λ v. test v && false) n ≡ 0 = none n in
        let z : cond (test n && false) 1 0 ≡ (let z : ℕ = 0 in z) = ap (λ b. cond b 1 0) (and_false test 0 (test n)) in
        omega arith
upto_listed test (x ∷ xs) n =
    let split : upto (λ v. test v && (eqb x v || is_listed xs v)) n ≤ upto (λ v. test v && eqb x v) n + upto (λ v. test v && is_listed xs v) n =
    upto_either (λ v. test v && (eqb x v || is_listed xs v)) (λ v. test v && eqb x v) (λ v. test v && is_listed xs v) (λ v. two (test v) (eqb x v) (is_listed xs v)) n in
    let first : upto (λ v. test v && eqb x v) n ≤ cond (test x) 1 0 = one test x n in
    let rest : upto (λ v. test v && is_listed xs v) n ≤ count_by test xs = upto_listed test xs n in
    let all : count_by test (x ∷ xs) ≡ cond (test x) 1 0 + count_by test xs = sum_by-cons (λ k. cond (test k) 1 0) x xs in
    omega arith
  where
    two : (t a b : Bool) → cond (t && (a || b)) 1 0 ≤ cond (t && a) 1 0 + cond (t && b) 1 0
    two false a b = omega arith
    two true true b = omega arith
    two true false b = omega arith
