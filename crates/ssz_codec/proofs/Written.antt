-- What is written behind bytes that stand there already, in one step after another.
use Rattle.std.proofs.Common.{◌≡◌, ℕ, ◌+◌, ◌<◌, ◌≤◌, List, [], ◌∷◌, ◌++◌, Ok, Err, OnOk, OnErr, length, get_or, take, drop, sym, ap, ◌∙◌, append_assoc}
use Rattle.std.specs.Prelude.{Result}
use Rattle.std.specs.List.{flat_map}
use Rattle.std.proofs.lemmas.List.{take-append-drop, take_more, take_all, flat_map_more}
use Rattle.std.proofs.Math.Seq.{take-append_seam}

-- what was there stays in front of what is written
pub stays : (before written now : List ℕ) → now ≡ before ++ written → take (length before) now ≡ before
stays before written now e = ap (take (length before)) e ∙ take-append_seam before written

-- what stands in front of a longer front stays with it
pub front_stays : (before written front now : List ℕ) → front ≡ before ++ written → take (length front) now ≡ front → take (length before) now ≡ before
front_stays before written front now e h =
    let whole : now ≡ before ++ (written ++ drop (length front) now) =
    sym (take-append-drop (length front) now) ∙ ap (λ (l : List ℕ). l ++ drop (length front) now) (h ∙ e) ∙ append_assoc before written (drop (length front) now) in
    stays before (written ++ drop (length front) now) now whole

-- two steps, where the second is done
pub both_written : {U E : Type 0} (second : Result U E) (before a b front now : List ℕ) → front ≡ before ++ a → OnOk second (now ≡ front ++ b) → OnOk second (now ≡ before ++ (a ++ b))
both_written (Ok done) before a b front now e h = h ∙ ap (λ (l : List ℕ). l ++ b) e ∙ append_assoc before a b
both_written (Err refused) before a b front now e h = tt

-- two steps, where the second left what was there
pub one_written : {U E : Type 0} (second : Result U E) (before a front now : List ℕ) → front ≡ before ++ a → OnErr second (now ≡ front) → OnErr second (take (length before) now ≡ before)
one_written (Ok done) before a front now e h = tt
one_written (Err refused) before a front now e h = stays before a now (h ∙ e)

-- two steps, where the second left what was there in front
pub front_written : {U E : Type 0} (second : Result U E) (before a front now : List ℕ) → front ≡ before ++ a → OnErr second (take (length front) now ≡ front) → OnErr second (take (length before) now ≡ before)
front_written (Ok done) before a front now e h = tt
front_written (Err refused) before a front now e h = front_stays before a front now e h

-- one more value of a list
pub value_written : {A : Type 0} (f : A → List ℕ) (values : List A) (i : ℕ) (x d : A) (before front now : List ℕ) → i < length values → x ≡ get_or values i d
    → front ≡ before ++ flat_map f (take i values) → now ≡ front ++ f x → now ≡ before ++ flat_map f (take (i + 1) values)
value_written {A = A} f values i x d before front now lt is so_far e =
    let this : take i values ++ x ∷ [] ≡ take (i + 1) values = ap (λ y. take i values ++ y ∷ []) is ∙ sym (take_more values i d lt) in
    e ∙ ap (λ (l : List ℕ). l ++ f x) so_far ∙ flat_map_more f before (take i values) x ∙ ap (λ (l : List A). before ++ flat_map f l) this

-- all values of a list
pub values_written : {A : Type 0} (f : A → List ℕ) (values : List A) (i : ℕ) (before now : List ℕ) → length values ≤ i → now ≡ before ++ flat_map f (take i values) → now ≡ before ++ flat_map f values
values_written {A = A} f values i before now le e = e ∙ ap (λ (l : List A). before ++ flat_map f l) (take_all i values le)
