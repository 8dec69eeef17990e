-- The first slashable pair of votes, one vote more; and what is found in votes that ascend.
use Rattle.std.proofs.Common.{◌≡◌, ◌∙◌, ℕ, zero, suc, ◌<◌, ◌≤◌, min, ◌⊎◌, inl, inr, Bool, true, false, cond, List, [], ◌∷◌, ◌++◌, length, get_or, slice_get, Option, Some, None, is_some, refl, sym, ap, arith, append_assoc}
use Rattle.std.specs.List.{All, AllPairs, Contains, find, position_or_len}
use Rattle.std.proofs.lemmas.Bool.{cases_lt, false≢true}
use Rattle.std.proofs.lemmas.List.Elements.{All-cons}
use Rattle.std.proofs.lemmas.List.Folds.{find_at}
use Rattle.std.proofs.lemmas.List.Sums.{fails_before_first, passes_at_first}
use Rattle.beacon_types.specs.declared.attestation_data.AttestationData.{AttestationData}
use Rattle.forensics.specs.Pairs.{are_slashable_at, first_slashable}
use Rattle.spec_forensics.specs.FirstPair.{pair_or, first_pair}
use Rattle.forensics.specs.Spans.{lesser, least_of}

-- ---- one vote more

abbrev pub or_last : Option (ℕ × ℕ) → Option ℕ → ℕ → Option (ℕ × ℕ)
or_last (Some o) found vote = Some o
or_last None found vote = pair_or found vote None

append_none : (xs : List ℕ) → xs ++ [] ≡ xs
append_none [] = refl
append_none (x ∷ xs) = ap (λ ys. x ∷ ys) (append_none xs)

joins : (here : Option ℕ) (x : ℕ) (later : Option (ℕ × ℕ)) (found : Option ℕ) (vote : ℕ) → pair_or here x (or_last later found vote) ≡ or_last (pair_or here x later) found vote
unfolding pair_or
joins (Some e) x later found vote = refl
joins None x later found vote = refl

pub first_push : (contents : List AttestationData) (earlier later : List ℕ) (vote : ℕ)
    → first_slashable contents earlier (later ++ vote ∷ []) ≡ or_last (first_slashable contents earlier later) (find (λ e. are_slashable_at contents e vote) (earlier ++ later)) vote
unfolding first_pair
first_push contents earlier [] vote = ap (λ xs. pair_or (find (λ e. are_slashable_at contents e vote) xs) vote None) (sym (append_none earlier))
first_push contents earlier (x ∷ later) vote =
    ap (pair_or (find (λ e. are_slashable_at contents e x) earlier) x) (first_push contents (earlier ++ x ∷ []) later vote)
    ∙ ap (λ xs. pair_or (find (λ e. are_slashable_at contents e x) earlier) x (or_last (first_slashable contents (earlier ++ x ∷ []) later) (find (λ e. are_slashable_at contents e vote) xs) vote)) (append_assoc earlier (x ∷ []) later)
    ∙ joins (find (λ e. are_slashable_at contents e x) earlier) x (first_slashable contents (earlier ++ x ∷ []) later) (find (λ e. are_slashable_at contents e vote) (earlier ++ x ∷ later)) vote

-- ---- what is found

got : (xs : List ℕ) (k x : ℕ) → k < length xs → get_or xs k x ≡ x → slice_get xs k ≡ Some x
got [] k x h e = absurd (omega arith)
got (y ∷ xs) zero x h e = ap Some e
got (y ∷ xs) (suc k) x h e = got xs k x (omega arith) e

no_later_than : (test : ℕ → Bool) (xs : List ℕ) (k m : ℕ) → test (get_or xs k m) ≡ true → (k < position_or_len test xs) ⊎ (position_or_len test xs ≤ k) → position_or_len test xs ≤ k
no_later_than test xs k m is (inl less) = absurd (false≢true (sym (fails_before_first test xs k m less) ∙ is))
no_later_than test xs k m is (inr le) = le

same_or_less : (xs : List ℕ) (j k m : ℕ) → AllPairs (λ a b. a ≤ b) xs → j ≤ k → k < length xs → (j < k) ⊎ (k ≤ j) → get_or xs j m ≤ get_or xs k m
same_or_less xs j k m ascends le inside (inl less) = ascends j k m less inside
same_or_less xs j k m ascends le inside (inr ge) = let e : j ≡ k = omega arith in let h : get_or xs j m ≡ get_or xs k m = ap (λ i. get_or xs i m) e in omega arith

pub least_found : (test : ℕ → Bool) (xs : List ℕ) (m : ℕ) → AllPairs (λ a b. a ≤ b) xs → Contains xs m → test m ≡ true → All (λ e. test e ≡ true → m ≤ e) xs → find test xs ≡ Some m
least_found test xs m ascends among is least =
    let k : ℕ = among.0 in
    let p : ℕ = position_or_len test xs in
    let inside : k < length xs = among.1 in
    let e : get_or xs k m ≡ m = among.2 in
    let le : p ≤ k = no_later_than test xs k m (ap test e ∙ is) (cases_lt k p) in
    let low : get_or xs p m ≤ get_or xs k m = same_or_less xs p k m ascends le inside (cases_lt p k) in
    let high : m ≤ get_or xs p m = least p m (omega arith) (passes_at_first test xs m (omega arith)) in
    find_at test xs ∙ got xs p m (omega arith) (omega arith)

nothing : (test : ℕ → Bool) (x : ℕ) (xs : List ℕ) (b : Bool) → test x ≡ b → (b ≡ true → ⊥) → find test xs ≡ None → find test (x ∷ xs) ≡ None
nothing test x xs true e fails rest = absurd (fails refl)
nothing test x xs false e fails rest = ap (λ b. cond b (Some x) (find test xs)) e ∙ rest

pub none_found : (test : ℕ → Bool) (xs : List ℕ) → All (λ e. test e ≡ true → ⊥) xs → find test xs ≡ None
none_found test [] all = refl
none_found test (x ∷ xs) all = nothing test x xs (test x) refl (all 0 0 (omega arith)) (none_found test xs (λ k d h. all (suc k) d (omega arith)))

-- ---- the least of votes

pub record IsLeast (test : ℕ → Bool) (best : Option ℕ) (votes : List ℕ) (m : ℕ) : Type 0 where
  pub some : (best ≡ Some m) ⊎ (Contains votes m × (test m ≡ true))
  pub of_votes : All (λ e. test e ≡ true → m ≤ e) votes
  pub of_best : (b : ℕ) → best ≡ Some b → m ≤ b

some_is : (a b : ℕ) → Some a ≡ Some b → a ≡ b
some_is a b e = cc

pub behind : (v : ℕ) (votes : List ℕ) (m : ℕ) → Contains votes m → Contains (v ∷ votes) m
behind v votes m c = (suc c.0, let h = c.1 in omega arith, c.2)

head_of : (v m : ℕ) (votes : List ℕ) → v ≡ m → Contains (v ∷ votes) m
head_of v m votes e = (0, omega arith, e)

of_lesser : (test : ℕ → Bool) (b : Bool) (best : Option ℕ) (v : ℕ) (votes : List ℕ) (m : ℕ) → test v ≡ b → IsLeast test (lesser b best v) votes m → IsLeast test best (v ∷ votes) m
unfolding lesser
of_lesser test false best v votes m e r = record {
  some = elim r.some [ inl h ↦ inl h | inr h ↦ inr (behind v votes m h.0, h.1) ];
  of_votes = All-cons (λ e. test e ≡ true → m ≤ e) v votes (λ h. absurd (false≢true (sym e ∙ h))) r.of_votes;
  of_best = r.of_best;
}
of_lesser test true None v votes m e r = record {
  some = elim r.some [ inl h ↦ inr (head_of v m votes (some_is v m h), ap test (sym (some_is v m h)) ∙ e) | inr h ↦ inr (behind v votes m h.0, h.1) ];
  of_votes = All-cons (λ e. test e ≡ true → m ≤ e) v votes (λ h. r.of_best v refl) r.of_votes;
  of_best = λ b h. absurd (false≢true (ap is_some h));
}
of_lesser test true (Some x) v votes m e r = record {
  some = elim r.some [
    | inl h ↦ let is : min x v ≡ m = some_is (min x v) m h in elim (cases_lt v x) [
      | inl less ↦ let here : v ≡ m = omega arith in inr (head_of v m votes here, ap test (sym here) ∙ e)
      | inr ge ↦ let there : x ≡ m = omega arith in inl (ap Some there)
    ]
    | inr h ↦ inr (behind v votes m h.0, h.1)
  ];
  of_votes = All-cons (λ e. test e ≡ true → m ≤ e) v votes (λ h. let l : m ≤ min x v = r.of_best (min x v) refl in omega arith) r.of_votes;
  of_best = λ b h. let l : m ≤ min x v = r.of_best (min x v) refl in let is : x ≡ b = some_is x b h in omega arith;
}

pub least_is : (test : ℕ → Bool) (best : Option ℕ) (votes : List ℕ) (m : ℕ) → least_of test best votes ≡ Some m → IsLeast test best votes m
unfolding least_of
least_is test best [] m h = record {
  some = inl h;
  of_votes = λ k d inside. absurd (omega arith);
  of_best = λ b e. let is : b ≡ m = some_is b m (sym e ∙ h) in omega arith;
}
least_is test best (v ∷ votes) m h = of_lesser test (test v) best v votes m refl (least_is test (lesser (test v) best v) votes m h)
