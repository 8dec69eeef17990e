-- Weights of sets: two sets of two thirds share a third.
use Rattle.std.proofs.Common.{◌≡◌, ℕ, ◌+◌, ◌<◌, ◌≤◌, Bool, true, false, ◌&&◌, if◌then◌else◌, nat_eq, List, [], ◌∷◌, length, drop, get_or, sum, refl, ap, ◌∙◌, add-one, drop-cons, arith}
use Rattle.std.proofs.lemmas.List.Sums.{sum_by-cons}
use Rattle.std.proofs.lemmas.Bool.{ne_eqb}
use Rattle.std.proofs.lemmas.List.{drop_all}
use Rattle.ffg_law.specs.Weights.{weight_from, among, both, AscendsFrom, IsTwoThirds, IsThird}

part_grows : (p q : Bool) (w m n : ℕ) → (p ≡ true → q ≡ true) → m ≤ n → (if p then w else 0) + m ≤ (if q then w else 0) + n
part_grows true true w m n h le = omega arith
part_grows true false w m n h le = absurd (let e = h refl in cc)
part_grows false true w m n h le = omega arith
part_grows false false w m n h le = omega arith

-- a set within another weighs no more
pub weight_grows : (a b : ℕ → Bool) → ((i : ℕ) → a i ≡ true → b i ≡ true) → (index : ℕ) (weights : List ℕ) → weight_from a index weights ≤ weight_from b index weights
unfolding weight_from
weight_grows a b within index [] = omega arith
weight_grows a b within index (w ∷ ws) =
    part_grows (a index) (b index) w (weight_from a (index + 1) ws) (weight_from b (index + 1) ws) (within index) (weight_grows a b within (index + 1) ws)

parts_overlap : (p q : Bool) (w m n both all : ℕ) → m + n ≤ all + both → ((if p then w else 0) + m) + ((if q then w else 0) + n) ≤ (w + all) + ((if p && q then w else 0) + both)
parts_overlap true true w m n both all le = omega arith
parts_overlap true false w m n both all le = omega arith
parts_overlap false true w m n both all le = omega arith
parts_overlap false false w m n both all le = omega arith

-- what two sets weigh is no more than all weight and what both share
pub weights_overlap : (a b : ℕ → Bool) (index : ℕ) (weights : List ℕ) → weight_from a index weights + weight_from b index weights ≤ sum weights + weight_from (both a b) index weights
unfolding weight_from
weights_overlap a b index [] = omega arith
weights_overlap a b index (w ∷ ws) =
    rw (sum_by-cons (λ (x : ℕ). x) w ws) (parts_overlap (a index) (b index) w (weight_from a (index + 1) ws) (weight_from b (index + 1) ws) (weight_from (both a b) (index + 1) ws) (sum ws) (weights_overlap a b (index + 1) ws))

-- two sets of two thirds share a third
pub third_is_shared : (weights : List ℕ) (a b : ℕ → Bool) → IsTwoThirds weights a → IsTwoThirds weights b → IsThird weights (both a b)
third_is_shared weights a b some other = omega (arith, weights_overlap a b 0 weights)

part_within : (p : Bool) (w m n : ℕ) → m ≤ n → (if p then w else 0) + m ≤ w + n
part_within true w m n le = omega arith
part_within false w m n le = omega arith

-- a set weighs no more than all
pub weight_within : (a : ℕ → Bool) (index : ℕ) (weights : List ℕ) → weight_from a index weights ≤ sum weights
unfolding weight_from
weight_within a index [] = omega arith
weight_within a index (w ∷ ws) =
    rw (sum_by-cons (λ (x : ℕ). x) w ws) (part_within (a index) w (weight_from a (index + 1) ws) (sum ws) (weight_within a (index + 1) ws))

-- an index below all is not among them
pub absent : (low index : ℕ) (indices : List ℕ) → AscendsFrom low indices → index < low → among indices index ≡ false
unfolding among
absent low index [] ascends less = refl
absent low index (i ∷ indices) ascends less =
    let here : nat_eq i index ≡ false = ne_eqb i index (λ e. let from : low ≤ i = ascends.0 in omega arith) in
    rw here (absent (i + 1) index indices ascends.1 (let from : low ≤ i = ascends.0 in omega arith))

-- so is one that is not the first of them, where none is less
pub absent_first : (first index : ℕ) (rest : List ℕ) → AscendsFrom index (first ∷ rest) → (first ≡ index → ⊥) → among (first ∷ rest) index ≡ false
absent_first first index rest ascends other = absent (index + 1) index (first ∷ rest) (let from : index ≤ first = ascends.0 in (omega arith, ascends.1)) (omega arith)

-- what a set weighs from an index on
pub next_weight : (set : ℕ → Bool) (index : ℕ) (weights : List ℕ) → index < length weights → weight_from set index (drop index weights) ≡ (if set index then get_or weights index 0 else 0) + weight_from set (index + 1) (drop (index + 1) weights)
unfolding weight_from
next_weight set index weights less = ap (weight_from set index) (drop-cons weights index 0 less) ∙ rw add-one refl

pub no_weight : (set : ℕ → Bool) (index : ℕ) (weights : List ℕ) → length weights ≤ index → weight_from set index (drop index weights) ≡ 0
unfolding weight_from
no_weight set index weights behind = rw (drop_all index weights behind) refl
