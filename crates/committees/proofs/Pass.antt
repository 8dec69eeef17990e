-- How a pass over pairs of mirror images goes on.
use Rattle.std.proofs.Common.{◌≡◌, ℕ, ◌+◌, ◌-◌, ◌<◌, ◌≤◌, List, Bool, true, false, cond, ◌==◌, slice_index}
use Rattle.std.proofs.Common.{refl, ap, sym, ◌∙◌, ◌⊎◌, arith, inl, inr}
use Rattle.std.specs.Int.{bit_at}
use Rattle.std.proofs.lemmas.Bool.{cases_lt}
use Rattle.committees.specs.Shuffling.{pivot_of, bit_in, bit_of, after_round}
use Rattle.committees.proofs.Rounds.{flip_of}
use Rattle.committees.specs.inside.Pass.{later, by_word, by_source, Passed}

-- nothing is passed yet
pub begin : (take : ℕ → ℕ) (sum first : ℕ) (old : List ℕ) → Passed take sum first first old old
begin take sum first old = record {
  inside = λ place more less. absurd (omega arith);
  outside = λ place out. refl;
}

-- two passes, one after the other. Each place takes its item from its own pair
pub join : (take also : ℕ → ℕ) (sum first middle last : ℕ) (old list new : List ℕ) → first ≤ middle → middle ≤ last → Passed take sum first middle old list → Passed also sum middle last list new → ((place : ℕ) → middle ≤ later sum place → later sum place < last → (also place ≡ take place) × (later sum (take place) ≡ later sum place)) → Passed take sum first last old new
join take also sum first middle last old list new one two before after agree = record {
  inside = λ place more less. elim (cases_lt (later sum place) middle) [
    | inl low ↦ after.outside place (inl low) ∙ before.inside place more low
    | inr high ↦
        let fits = agree place high less in
        let at : middle ≤ later sum (take place) = rw fits.1 high in
        after.inside place high less ∙ ap (slice_index list) fits.0 ∙ before.outside (take place) (inr at)
  ];
  outside = λ place out. elim out [
    | inl low ↦ after.outside place (inl (omega arith)) ∙ before.outside place (inl low)
    | inr high ↦ after.outside place (inr high) ∙ before.outside place (inr (omega arith))
  ];
}

later_same : (sum place : ℕ) (b : Bool) → place ≤ sum → later sum (cond b (sum - place) place) ≡ later sum place
later_same sum place true fits = omega arith
later_same sum place false fits = refl

-- a pass by one page's bits goes on by more of them
pub join_source : (source : List ℕ) (sum first middle last : ℕ) (old list new : List ℕ) → first ≤ middle → middle ≤ last → last ≤ sum + 1 → Passed (by_source source sum) sum first middle old list → Passed (by_source source sum) sum middle last list new → Passed (by_source source sum) sum first last old new
join_source source sum first middle last old list new one two fits before after =
    join (by_source source sum) (by_source source sum) sum first middle last old list new one two before after
    (λ place more less. (refl, later_same sum place (bit_in source (later sum place) == 1) (omega arith)))

-- likewise, where sixteen of them stand in a word
pub join_word : (source : List ℕ) (sum first middle bits : ℕ) (old list new : List ℕ) → first ≤ middle → middle + 16 ≤ sum + 1 → ((j : ℕ) → j < 16 → bit_at bits j ≡ bit_in source (middle + j)) → Passed (by_source source sum) sum first middle old list → Passed (by_word bits middle sum) sum middle (middle + 16) list new → Passed (by_source source sum) sum first (middle + 16) old new
join_word source sum first middle bits old list new one fits same before after =
    join (by_source source sum) (by_word bits middle sum) sum first middle (middle + 16) old list new one (omega arith) before after
    (λ place more less.
    let at : middle + (later sum place - middle) ≡ later sum place = omega arith in
    let bit : bit_at bits (later sum place - middle) ≡ bit_in source (later sum place) = same (later sum place - middle) (omega arith) ∙ ap (bit_in source) at in
    (ap (λ b. cond (b == 1) (sum - place) place) bit, later_same sum place (bit_in source (later sum place) == 1) (omega arith)))

-- one of two that are equal to two others, each
pub either_of : (b : Bool) (x y u v : ℕ) → x ≡ u → y ≡ v → cond b x y ≡ cond b u v
either_of true x y u v one two = one
either_of false x y u v one two = two

item_of : (b : Bool) (list : List ℕ) (m n : ℕ) → cond b (slice_index list m) (slice_index list n) ≡ slice_index list (cond b m n)
item_of true list m n = refl
item_of false list m n = refl

-- Sixteen items that were written over, first the later ones and then the earlier ones, are passed by the bits of a word.
pub swapped_word : (bits sum first images : ℕ) (old mid new : List ℕ) → sum < first + first → first + 16 ≤ sum + 1 → images ≡ sum - first - 15
    → ((j : ℕ) → j < 16 → slice_index mid (first + j) ≡ cond (bit_at bits j == 1) (slice_index old (images + (15 - j))) (slice_index old (first + j)))
    → ((index : ℕ) → (index < first) ⊎ (first + 16 ≤ index) → slice_index mid index ≡ slice_index old index)
    → ((j : ℕ) → j < 16 → slice_index new (images + j) ≡ cond (bit_at bits (15 - j) == 1) (slice_index old (first + (15 - j))) (slice_index old (images + (15 - (15 - j)))))
    → ((index : ℕ) → (index < images) ⊎ (images + 16 ≤ index) → slice_index new index ≡ slice_index mid index)
    → Passed (by_word bits first sum) sum first (first + 16) old new
swapped_word bits sum first images old mid new earlier fits at high high_else low low_else = record {
  inside = λ index more less. elim (cases_lt index first) [
    | inl below ↦
        let j : ℕ = index - images in
        let here : images + j ≡ index = omega arith in
        let bit : 15 - j ≡ later sum index - first = omega arith in
        let other : first + (15 - j) ≡ sum - index = omega arith in
        let same : images + (15 - (15 - j)) ≡ index = omega arith in
        ap (slice_index new) (sym here) ∙ low j (omega arith) ∙ item_of (bit_at bits (15 - j) == 1) old (first + (15 - j)) (images + (15 - (15 - j)))
        ∙ ap (slice_index old) (ap (λ k. cond (bit_at bits k == 1) (first + (15 - j)) (images + (15 - (15 - j)))) bit ∙ either_of (bit_at bits (later sum index - first) == 1) _ _ _ _ other same)
    | inr above ↦
        let j : ℕ = index - first in
        let here : first + j ≡ index = omega arith in
        let bit : j ≡ later sum index - first = omega arith in
        let other : images + (15 - j) ≡ sum - index = omega arith in
        low_else index (inr (omega arith)) ∙ ap (slice_index mid) (sym here) ∙ high j (omega arith) ∙ item_of (bit_at bits j == 1) old (images + (15 - j)) (first + j)
        ∙ ap (slice_index old) (ap (λ k. cond (bit_at bits k == 1) (images + (15 - j)) (first + j)) bit ∙ either_of (bit_at bits (later sum index - first) == 1) _ _ _ _ other here)
  ];
  outside = λ index out. elim (cases_lt index first) [
    | inl below ↦ elim (cases_lt index images) [
      | inl less ↦ low_else index (inl less) ∙ high_else index (inl below)
      | inr more ↦ low_else index (inr (omega (arith, out))) ∙ high_else index (inl below)
    ]
    | inr above ↦ low_else index (inr (omega arith)) ∙ high_else index (inr (omega (arith, out)))
  ];
}

-- a round takes the item for a place from where its page's bit says
pub same_choice : (seed source : List ℕ) (round count sum place : ℕ) → place ≤ sum → flip_of (pivot_of seed round count) count place ≡ sum - place → bit_in source (later sum place) ≡ bit_of seed round (later sum place) → (by_source source sum place ≡ after_round seed round count place) × (later sum (after_round seed round count place) ≡ later sum place)
unfolding after_round
same_choice seed source round count sum place fits flip bit =
    let chosen : by_source source sum place ≡ after_round seed round count place = rw (bit, flip) refl in
    (chosen, rw (← chosen) (later_same sum place (bit_in source (later sum place) == 1) fits))
