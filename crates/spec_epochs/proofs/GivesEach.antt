-- Values and sums that are made for each of many items, where nothing is refused.
use Rattle.std.proofs.Common.{◌≡◌, ◌∙◌, ℕ, zero, suc, ◌+◌, ◌*◌, ◌^◌, ◌<◌, ◌≤◌, List, [], ◌∷◌, length, Some, slice_get, refl, ap, arith}
use Rattle.std.specs.List.{range_with_len, AllByRecursion}
use Rattle.bc_words.specs.Outcome.{Outcome, done, bind, checked_add}
use Rattle.spec_blocks.specs.Gives.{Gives}
use Rattle.spec_blocks.proofs.Gives.{gives_done, gives_then, add_gives}
use Rattle.spec_epochs.specs.Each.{checked_map, checked_total_from}

-- values of which something holds, as many as indices
pub record Are {B : Type 0} (P : B → Type 0) (n : ℕ) (values : List B) : Type 0 where
  pub many : length values ≡ n
  pub all : AllByRecursion P values

pub map_gives : {B : Type 0} (P : B → Type 0) (make : ℕ → Outcome B) (start n : ℕ) → ((i : ℕ) → i < start + n → Gives P (make i)) → Gives (Are P n) (checked_map make (range_with_len start n))
unfolding checked_map
map_gives P make start zero each = record { value = []; is = refl; holds = record { many = refl; all = tt } }
map_gives P make start (suc n) each =
    gives_then P (Are P (suc n)) (make start) _ (each start (omega arith)) (λ x px.
    gives_then (Are P n) (Are P (suc n)) (checked_map make (range_with_len (start + 1) n)) _ (map_gives P make (start + 1) n (λ i less. each i (omega arith))) (λ xs pxs.
    gives_done (Are P (suc n)) (x ∷ xs) (record { many = ap suc pxs.many; all = (px, pxs.all) })))

-- the list whose items are made, from an index on
pub map_same : {B : Type 0} (make : ℕ → Outcome B) (start : ℕ) (values : List B) → ((i : ℕ) (x : B) → slice_get values i ≡ Some x → make (start + i) ≡ done x) → checked_map make (range_with_len start (length values)) ≡ done values
unfolding checked_map
map_same make start [] each = refl
map_same make start (x ∷ values) each =
    let first : make start ≡ done x = (let e : start ≡ start + 0 = omega arith in ap make e) ∙ each 0 x refl in
    let rest = map_same make (start + 1) values (λ i y at. (let e : start + 1 + i ≡ start + suc i = omega arith in ap make e) ∙ each (suc i) y at) in
    ap (λ o. bind o (λ first. bind (checked_map make (range_with_len (start + 1) (length values))) (λ others. done (first ∷ others)))) first
    ∙ ap (λ o. bind o (λ others. done (x ∷ others))) rest

-- and from the first index on
pub map_all : {B : Type 0} (make : ℕ → Outcome B) (values : List B) → ((i : ℕ) (x : B) → slice_get values i ≡ Some x → make i ≡ done x) → checked_map make (range_with_len 0 (length values)) ≡ done values
map_all make values each = map_same make 0 values (λ i x at. (let e : 0 + i ≡ i = omega arith in ap make e) ∙ each i x at)

-- a sum of bounded numbers
pub total_gives : {A : Type 0} (count : A → Outcome ℕ) (most : ℕ) (P : A → Type 0) (items : List A) (sum : ℕ) → AllByRecursion P items → ((x : A) → P x → Gives (λ n. n ≤ most) (count x)) → sum + length items * most < 2 ^ 64
    → Gives (λ n. n ≤ sum + length items * most) (checked_total_from count sum items)
unfolding checked_total_from
total_gives count most P [] sum all each low = record { value = sum; is = refl; holds = omega arith }
total_gives count most P (x ∷ items) sum all each low =
    gives_then (λ n. n ≤ most) (λ n. n ≤ sum + length (x ∷ items) * most) (count x) _ (each x all.0) (λ n few.
    gives_then (λ c. c ≡ sum + n) (λ n. n ≤ sum + length (x ∷ items) * most) (checked_add sum n) _ (add_gives sum n (omega arith)) (λ c is.
    let rest = total_gives count most P items c all.1 each (omega arith) in
    record { value = rest.value; is = rest.is; holds = let more = rest.holds in omega arith }))
