-- A loop that makes a value for each index below n, in order, and stops with the first that stops. It names `made_begins`
-- in its #[tactic(auto, using(..))], has the invariant `made_from make n i values ≡ checked_map make (range_with_len 0 n)`, and its answers
-- cite `made_more`, `made_ends` and `made_stops`.
use Rattle.std.proofs.Common.{◌≡◌, ℕ, zero, suc, ◌+◌, ◌-◌, ◌<◌, ◌≤◌, List, [], ◌∷◌, ◌++◌, length, refl, sym, ap, ◌∙◌, arith, append_assoc}
use Rattle.std.specs.List.{range_with_len}
use Rattle.std.proofs.lemmas.List.{append-nil}
use Rattle.std.proofs.lemmas.List.FromFn.{length-range_with_len}
use Rattle.bc_words.specs.Outcome.{Outcome, done, refused, limited, bind, Stops, StopsExactly}
use Rattle.bc_words.specs.declared.stop.Stop.{Stop}
use Rattle.bc_words.proofs.Outcomes.{stops_bound, exactly_bound}
use Rattle.spec_epochs.specs.Each.{checked_map}

-- values and then those of the outcome
unfoldable pub behind : {B : Type 0} → List B → Outcome (List B) → Outcome (List B)
behind values rest = bind rest (λ more. done (values ++ more))

-- the values so far, and then those that are made from index i on, below n
unfoldable pub made_from : {B : Type 0} → (ℕ → Outcome B) → ℕ → ℕ → List B → Outcome (List B)
made_from make n i values = behind values (checked_map make (range_with_len i (n - i)))

behind_nothing : {B : Type 0} (rest : Outcome (List B)) → behind [] rest ≡ rest
unfolding behind
behind_nothing (done more) = refl
behind_nothing (refused why) = refl
behind_nothing (limited bound) = refl

pub made_begins : {B : Type 0} (make : ℕ → Outcome B) (n : ℕ) → made_from make n 0 [] ≡ checked_map make (range_with_len 0 n)
unfolding made_from
made_begins make n = behind_nothing _ ∙ (let e : n - 0 ≡ n = omega arith in ap (λ k. checked_map make (range_with_len 0 k)) e)

pub made_ends : {B : Type 0} (make : ℕ → Outcome B) (n i : ℕ) (values : List B) → n ≤ i → made_from make n i values ≡ done values
unfolding made_from behind checked_map
made_ends make n i values over =
    (let e : n - i ≡ zero = omega arith in ap (λ k. behind values (checked_map make (range_with_len i k))) e) ∙ ap done (append-nil values)

opens : {B : Type 0} (make : ℕ → Outcome B) (n i : ℕ) (values : List B) → i < n
    → made_from make n i values ≡ behind values (bind (make i) (λ first. bind (checked_map make (range_with_len (i + 1) (n - (i + 1)))) (λ more. done (first ∷ more))))
unfolding made_from checked_map
opens make n i values less = let e : n - i ≡ suc (n - (i + 1)) = omega arith in ap (λ k. behind values (checked_map make (range_with_len i k))) e

moved : {B : Type 0} (values : List B) (first : B) (rest : Outcome (List B)) → behind values (bind rest (λ more. done (first ∷ more))) ≡ behind (values ++ first ∷ []) rest
unfolding behind
moved values first (done more) = ap done (sym (append_assoc values (first ∷ []) more))
moved values first (refused why) = refl
moved values first (limited bound) = refl

pub made_more : {B : Type 0} (make : ℕ → Outcome B) (n i : ℕ) (values : List B) (first : B) → i < n → make i ≡ done first
    → made_from make n i values ≡ made_from make n (i + 1) (values ++ first ∷ [])
unfolding made_from
made_more make n i values first less e =
    opens make n i values less
    ∙ ap (λ o. behind values (bind o (λ x. bind (checked_map make (range_with_len (i + 1) (n - (i + 1)))) (λ more. done (x ∷ more))))) e
    ∙ moved values first (checked_map make (range_with_len (i + 1) (n - (i + 1))))

pub made_stops : {B : Type 0} (make : ℕ → Outcome B) (n i : ℕ) (values : List B) (stop : Stop) → i < n → Stops stop (make i) → Stops stop (made_from make n i values)
unfolding behind
made_stops make n i values stop less e = rw (opens make n i values less) (stops_bound stop _ _ (stops_bound stop (make i) _ e))

pub made_stops_exactly : {B : Type 0} (make : ℕ → Outcome B) (n i : ℕ) (values : List B) (stop : Stop) → i < n → StopsExactly stop (make i) → StopsExactly stop (made_from make n i values)
unfolding behind
made_stops_exactly make n i values stop less e = rw (opens make n i values less) (exactly_bound stop _ _ (exactly_bound stop (make i) _ e))

-- ---- as many values as indices

-- where two steps give a value, the first gave one, and the second gave it of that
pub bound_done : {A B : Type 0} (outcome : Outcome A) (next : A → Outcome B) (value : B) → bind outcome next ≡ done value → (first : A) × (outcome ≡ done first) × (next first ≡ done value)
bound_done (done x) next value e = (x, refl, e)
bound_done (refused why) next value e = absurd cc
bound_done (limited bound) next value e = absurd cc

pub length-checked_map : {A B : Type 0} (make : A → Outcome B) (items : List A) (values : List B) → checked_map make items ≡ done values → length values ≡ length items
unfolding checked_map
length-checked_map make [] values e = let h : values ≡ [] = cc in ap length h
length-checked_map make (item ∷ items) values e =
    let one = bound_done (make item) (λ first. bind (checked_map make items) (λ others. done (first ∷ others))) values e in
    let all = bound_done (checked_map make items) (λ others. done (one.0 ∷ others)) values one.2 in
    let h : values ≡ one.0 ∷ all.0 = cc (all.2) in
    ap length h ∙ ap suc (length-checked_map make items all.0 all.1)

-- with so many values so far and so many still to be made
pub made_few : {B : Type 0} (make : ℕ → Outcome B) (n : ℕ) (values : List B) → checked_map make (range_with_len 0 n) ≡ done values → length values ≡ n
made_few make n values e = length-checked_map make (range_with_len 0 n) values e ∙ length-range_with_len 0 n
