-- One pass in the place of many. Where nothing but an overflow stops, lists that are made one after the other and then read
-- place by place are made in one pass.
use Rattle.std.proofs.Common.{◌≡◌, ℕ, zero, suc, ◌+◌, ◌<◌, ◌≤◌, List, ◌∷◌, get_or, refl, sym, ap, ◌∙◌, arith, inl, inr}
use Rattle.std.specs.List.{range_with_len}
use Rattle.bc_words.specs.Outcome.{Outcome, done, refused, limited, bind, checked_add}
use Rattle.bc_words.specs.declared.refusal.Refusal.{Refusal}
use Rattle.bc_words.specs.declared.refusal.Refusal.TheVariants.{Overflow}
use Rattle.spec_epochs.specs.Each.{checked_map}
use Rattle.spec_epochs.proofs.Each.{bound_done}
use Rattle.epoch_rewards.specs.inside.Paid.{sum_of_four}
use Rattle.epoch_rewards.proofs.Overflows.{OnlyOverflows, bound_only, add_only}
use Rattle.epoch_rewards.proofs.Gained.{bound_refused}
use Rattle.epoch_rewards.proofs.Joined.{same_map, refused_map}

-- ---- steps one after the other

pub bound_same : {A B : Type 0} (o : Outcome A) (f g : A → Outcome B) → ((x : A) → f x ≡ g x) → bind o f ≡ bind o g
bound_same (done x) f g same = same x
bound_same (refused why) f g same = refl
bound_same (limited bound) f g same = refl

pub bound_twice : {A B C : Type 0} (o : Outcome A) (f : A → Outcome B) (g : B → Outcome C) → bind (bind o f) g ≡ bind o (λ x. bind (f x) g)
bound_twice (done x) f g = refl
bound_twice (refused why) f g = refl
bound_twice (limited bound) f g = refl

late : {A B : Type 0} (o : Outcome A) (next : A → Outcome B) (why : Refusal) → OnlyOverflows o → why ≡ Overflow → ((x : A) → next x ≡ refused why) → bind o next ≡ refused why
late (done x) next why only is e = e x
late (refused other) next why only is e = ap refused (only ∙ sym is)
late (limited bound) next why only is e = absurd only

-- ---- a list by its places

map_only : {B : Type 0} (f : ℕ → Outcome B) (start n : ℕ) → ((k : ℕ) → start ≤ k → k < start + n → OnlyOverflows (f k)) → OnlyOverflows (checked_map f (range_with_len start n))
unfolding checked_map
map_only f start zero only = tt
map_only f start (suc n) only =
    bound_only (f start) (λ first. bind (checked_map f (range_with_len (start + 1) n)) (λ others. done (first ∷ others))) (only start (omega arith) (omega arith))
    (λ first. bound_only (checked_map f (range_with_len (start + 1) n)) (λ others. done (first ∷ others)) (map_only f (start + 1) n (λ k more less. only k (omega arith) (omega arith))) (λ others. tt))

map_done : {B : Type 0} (f : ℕ → Outcome B) (start n : ℕ) (values : List B) (d : B) → checked_map f (range_with_len start n) ≡ done values → (k : ℕ) → k < n → f (start + k) ≡ done (get_or values k d)
unfolding checked_map
map_done f start zero values d e k less = absurd (omega arith)
map_done f start (suc n) values d e zero less =
    let one = bound_done (f start) (λ first. bind (checked_map f (range_with_len (start + 1) n)) (λ others. done (first ∷ others))) values e in
    let all = bound_done (checked_map f (range_with_len (start + 1) n)) (λ others. done (one.0 ∷ others)) values one.2 in
    let same : one.0 ∷ all.0 ≡ values = cc (all.2) in
    let here : start + zero ≡ start = omega arith in
    ap f here ∙ one.1 ∙ ap (λ vs. done (get_or vs zero d)) same
map_done f start (suc n) values d e (suc k) less =
    let one = bound_done (f start) (λ first. bind (checked_map f (range_with_len (start + 1) n)) (λ others. done (first ∷ others))) values e in
    let all = bound_done (checked_map f (range_with_len (start + 1) n)) (λ others. done (one.0 ∷ others)) values one.2 in
    let same : one.0 ∷ all.0 ≡ values = cc (all.2) in
    let there : start + suc k ≡ (start + 1) + k = omega arith in
    ap f there ∙ map_done f (start + 1) n all.0 d all.1 k (omega arith) ∙ ap (λ vs. done (get_or vs (suc k) d)) same

record OneRefused {B : Type 0} (f : ℕ → Outcome B) (start n : ℕ) (why : Refusal) : Type 0 where
  k : ℕ
  more : start ≤ k
  less : k < start + n
  is : f k ≡ refused why

map_refused : {B : Type 0} (f : ℕ → Outcome B) (start n : ℕ) (why : Refusal) → checked_map f (range_with_len start n) ≡ refused why → OneRefused f start n why
unfolding checked_map
map_refused f start zero why e = absurd cc
map_refused f start (suc n) why e = elim (bound_refused (f start) (λ first. bind (checked_map f (range_with_len (start + 1) n)) (λ others. done (first ∷ others))) why e) [
  | inl here ↦ record { k = start; more = omega arith; less = omega arith; is = here }
  | inr later ↦ elim (bound_refused (checked_map f (range_with_len (start + 1) n)) (λ others. done (later.0 ∷ others)) why later.2) [
    | inl rest ↦ let one = map_refused f (start + 1) n why rest in record { k = one.k; more = omega (arith, one.more); less = omega (arith, one.less); is = one.is }
    | inr never ↦ absurd (cc (never.2))
  ]
]

-- ---- a list that is made and then read place by place

module _ {C : Type 0} (n : ℕ) (f : ℕ → Outcome ℕ) (next : ℕ → ℕ → Outcome C) (only : (k : ℕ) → k < n → OnlyOverflows (f k)) (then_only : (k x : ℕ) → k < n → OnlyOverflows (next k x)) where
  placed_by : (o : Outcome (List ℕ)) → checked_map f (range_with_len 0 n) ≡ o → OnlyOverflows o → bind o (λ xs. checked_map (λ k. next k (get_or xs k 0)) (range_with_len 0 n)) ≡ checked_map (λ k. bind (f k) (next k)) (range_with_len 0 n)
  placed_by (done xs) e only_o = same_map (λ k. next k (get_or xs k 0)) (λ k. bind (f k) (next k)) 0 n
      (λ k more less. let begins : 0 + k ≡ k = omega arith in sym (ap (λ o. bind o (next k)) (ap f (sym begins) ∙ map_done f 0 n xs 0 e k (omega arith))))
  placed_by (refused why) e only_o =
      let one = map_refused f 0 n why e in
      ap refused only_o
      ∙ sym (refused_map (λ k. bind (f k) (next k)) 0 n one.k (λ k more less. bound_only (f k) (next k) (only k (omega arith)) (λ x. then_only k x (omega arith))) one.more one.less
      (ap (λ o. bind o (next one.k)) one.is ∙ ap refused only_o))
  placed_by (limited bound) e only_o = absurd only_o

  pub placed : bind (checked_map f (range_with_len 0 n)) (λ xs. checked_map (λ k. next k (get_or xs k 0)) (range_with_len 0 n)) ≡ checked_map (λ k. bind (f k) (next k)) (range_with_len 0 n)
  placed = placed_by (checked_map f (range_with_len 0 n)) refl (map_only f 0 n (λ k more less. only k (omega arith)))

four_only : (a b c d : ℕ) → OnlyOverflows (sum_of_four a b c d)
unfolding sum_of_four
four_only a b c d = bound_only (checked_add a b) _ (add_only a b) (λ two. bound_only (checked_add two c) _ (add_only two c) (λ three. add_only three d))

-- ---- eight lists, their sums, and what is made of both sums

module _ (n : ℕ) (S P T Q H O J I : ℕ → Outcome ℕ) (R : ℕ → ℕ → ℕ → Outcome ℕ) where
  -- a list of a number for each index below n
  abbrev each : (ℕ → Outcome ℕ) → Outcome (List ℕ)
  each f = checked_map f (range_with_len 0 n)

  -- at a place, in the order in which the lists come
  abbrev r8 : ℕ → ℕ → ℕ → ℕ → ℕ → ℕ → ℕ → ℕ → ℕ → Outcome ℕ
  r8 k s p t q h o j i = bind (sum_of_four s t h j) (λ gain. bind (sum_of_four p q o i) (λ loss. R k gain loss))

  abbrev r7 : ℕ → ℕ → ℕ → ℕ → ℕ → ℕ → ℕ → ℕ → Outcome ℕ
  r7 k s p t q h o j = bind (I k) (λ i. r8 k s p t q h o j i)

  abbrev r6 : ℕ → ℕ → ℕ → ℕ → ℕ → ℕ → ℕ → Outcome ℕ
  r6 k s p t q h o = bind (J k) (λ j. r7 k s p t q h o j)

  abbrev r5 : ℕ → ℕ → ℕ → ℕ → ℕ → ℕ → Outcome ℕ
  r5 k s p t q h = bind (O k) (λ o. r6 k s p t q h o)

  abbrev r4 : ℕ → ℕ → ℕ → ℕ → ℕ → Outcome ℕ
  r4 k s p t q = bind (H k) (λ h. r5 k s p t q h)

  abbrev r3 : ℕ → ℕ → ℕ → ℕ → Outcome ℕ
  r3 k s p t = bind (Q k) (λ q. r4 k s p t q)

  abbrev r2 : ℕ → ℕ → ℕ → Outcome ℕ
  r2 k s p = bind (T k) (λ t. r3 k s p t)

  abbrev r1 : ℕ → ℕ → Outcome ℕ
  r1 k s = bind (P k) (λ p. r2 k s p)

  abbrev pub r0 : ℕ → Outcome ℕ
  r0 k = bind (S k) (λ s. r1 k s)

  -- the lists, one after the other
  abbrev b8 : List ℕ → List ℕ → List ℕ → List ℕ → List ℕ → List ℕ → List ℕ → List ℕ → Outcome (List ℕ)
  b8 ss ps ts qs hs os js is =
      bind (each (λ k. sum_of_four (get_or ss k 0) (get_or ts k 0) (get_or hs k 0) (get_or js k 0))) (λ gains.
      bind (each (λ k. sum_of_four (get_or ps k 0) (get_or qs k 0) (get_or os k 0) (get_or is k 0))) (λ losses.
      each (λ k. R k (get_or gains k 0) (get_or losses k 0))))

  abbrev b7 : List ℕ → List ℕ → List ℕ → List ℕ → List ℕ → List ℕ → List ℕ → Outcome (List ℕ)
  b7 ss ps ts qs hs os js = bind (each I) (λ is. b8 ss ps ts qs hs os js is)

  abbrev pub b6 : List ℕ → List ℕ → List ℕ → List ℕ → List ℕ → List ℕ → Outcome (List ℕ)
  b6 ss ps ts qs hs os = bind (each J) (λ js. b7 ss ps ts qs hs os js)

  abbrev b5 : List ℕ → List ℕ → List ℕ → List ℕ → List ℕ → Outcome (List ℕ)
  b5 ss ps ts qs hs = bind (each O) (λ os. b6 ss ps ts qs hs os)

  abbrev b4 : List ℕ → List ℕ → List ℕ → List ℕ → Outcome (List ℕ)
  b4 ss ps ts qs = bind (each H) (λ hs. b5 ss ps ts qs hs)

  abbrev b3 : List ℕ → List ℕ → List ℕ → Outcome (List ℕ)
  b3 ss ps ts = bind (each Q) (λ qs. b4 ss ps ts qs)

  abbrev b2 : List ℕ → List ℕ → Outcome (List ℕ)
  b2 ss ps = bind (each T) (λ ts. b3 ss ps ts)

  abbrev b1 : List ℕ → Outcome (List ℕ)
  b1 ss = bind (each P) (λ ps. b2 ss ps)

  abbrev pub b0 : Outcome (List ℕ)
  b0 = bind (each S) (λ ss. b1 ss)

  module _ (s_only : (k : ℕ) → k < n → OnlyOverflows (S k)) (p_only : (k : ℕ) → k < n → OnlyOverflows (P k)) (t_only : (k : ℕ) → k < n → OnlyOverflows (T k)) (q_only : (k : ℕ) → k < n → OnlyOverflows (Q k))
      (h_only : (k : ℕ) → k < n → OnlyOverflows (H k)) (o_only : (k : ℕ) → k < n → OnlyOverflows (O k)) (j_only : (k : ℕ) → k < n → OnlyOverflows (J k)) (i_only : (k : ℕ) → k < n → OnlyOverflows (I k))
      (end_only : (k gain loss : ℕ) → k < n → OnlyOverflows (R k gain loss)) where
    only8 : (k s p t q h o j i : ℕ) → k < n → OnlyOverflows (r8 k s p t q h o j i)
    only8 k s p t q h o j i less =
        bound_only (sum_of_four s t h j) (λ gain. bind (sum_of_four p q o i) (λ loss. R k gain loss)) (four_only s t h j)
        (λ gain. bound_only (sum_of_four p q o i) (λ loss. R k gain loss) (four_only p q o i) (λ loss. end_only k gain loss less))

    only7 : (k s p t q h o j : ℕ) → k < n → OnlyOverflows (r7 k s p t q h o j)
    only7 k s p t q h o j less = bound_only (I k) (r8 k s p t q h o j) (i_only k less) (λ i. only8 k s p t q h o j i less)

    only6 : (k s p t q h o : ℕ) → k < n → OnlyOverflows (r6 k s p t q h o)
    only6 k s p t q h o less = bound_only (J k) (r7 k s p t q h o) (j_only k less) (λ j. only7 k s p t q h o j less)

    only5 : (k s p t q h : ℕ) → k < n → OnlyOverflows (r5 k s p t q h)
    only5 k s p t q h less = bound_only (O k) (r6 k s p t q h) (o_only k less) (λ o. only6 k s p t q h o less)

    only4 : (k s p t q : ℕ) → k < n → OnlyOverflows (r4 k s p t q)
    only4 k s p t q less = bound_only (H k) (r5 k s p t q) (h_only k less) (λ h. only5 k s p t q h less)

    only3 : (k s p t : ℕ) → k < n → OnlyOverflows (r3 k s p t)
    only3 k s p t less = bound_only (Q k) (r4 k s p t) (q_only k less) (λ q. only4 k s p t q less)

    only2 : (k s p : ℕ) → k < n → OnlyOverflows (r2 k s p)
    only2 k s p less = bound_only (T k) (r3 k s p) (t_only k less) (λ t. only3 k s p t less)

    only1 : (k s : ℕ) → k < n → OnlyOverflows (r1 k s)
    only1 k s less = bound_only (P k) (r2 k s) (p_only k less) (λ p. only2 k s p less)

    joined8 : (ss ps ts qs hs os js is : List ℕ) → b8 ss ps ts qs hs os js is ≡ each (λ k. r8 k (get_or ss k 0) (get_or ps k 0) (get_or ts k 0) (get_or qs k 0) (get_or hs k 0) (get_or os k 0) (get_or js k 0) (get_or is k 0))
    joined8 ss ps ts qs hs os js is =
        bound_same (each (λ k. sum_of_four (get_or ss k 0) (get_or ts k 0) (get_or hs k 0) (get_or js k 0)))
        (λ gains. bind (each (λ k. sum_of_four (get_or ps k 0) (get_or qs k 0) (get_or os k 0) (get_or is k 0))) (λ losses. each (λ k. R k (get_or gains k 0) (get_or losses k 0))))
        (λ gains. each (λ k. bind (sum_of_four (get_or ps k 0) (get_or qs k 0) (get_or os k 0) (get_or is k 0)) (R k (get_or gains k 0))))
        (λ gains. placed n (λ k. sum_of_four (get_or ps k 0) (get_or qs k 0) (get_or os k 0) (get_or is k 0)) (λ k. R k (get_or gains k 0)) (λ k less. four_only (get_or ps k 0) (get_or qs k 0) (get_or os k 0) (get_or is k 0)) (λ k loss less. end_only k (get_or gains k 0) loss less))
        ∙ placed n (λ k. sum_of_four (get_or ss k 0) (get_or ts k 0) (get_or hs k 0) (get_or js k 0)) (λ k gain. bind (sum_of_four (get_or ps k 0) (get_or qs k 0) (get_or os k 0) (get_or is k 0)) (R k gain)) (λ k less. four_only (get_or ss k 0) (get_or ts k 0) (get_or hs k 0) (get_or js k 0))
        (λ k gain less. bound_only (sum_of_four (get_or ps k 0) (get_or qs k 0) (get_or os k 0) (get_or is k 0)) (R k gain) (four_only (get_or ps k 0) (get_or qs k 0) (get_or os k 0) (get_or is k 0)) (λ loss. end_only k gain loss less))

    joined7 : (ss ps ts qs hs os js : List ℕ) → b7 ss ps ts qs hs os js ≡ each (λ k. r7 k (get_or ss k 0) (get_or ps k 0) (get_or ts k 0) (get_or qs k 0) (get_or hs k 0) (get_or os k 0) (get_or js k 0))
    joined7 ss ps ts qs hs os js = bound_same (each I) (b8 ss ps ts qs hs os js) (λ is. each (λ k. r8 k (get_or ss k 0) (get_or ps k 0) (get_or ts k 0) (get_or qs k 0) (get_or hs k 0) (get_or os k 0) (get_or js k 0) (get_or is k 0))) (joined8 ss ps ts qs hs os js)
        ∙ placed n I (λ k. r8 k (get_or ss k 0) (get_or ps k 0) (get_or ts k 0) (get_or qs k 0) (get_or hs k 0) (get_or os k 0) (get_or js k 0)) i_only (λ k i less. only8 k (get_or ss k 0) (get_or ps k 0) (get_or ts k 0) (get_or qs k 0) (get_or hs k 0) (get_or os k 0) (get_or js k 0) i less)

    joined6 : (ss ps ts qs hs os : List ℕ) → b6 ss ps ts qs hs os ≡ each (λ k. r6 k (get_or ss k 0) (get_or ps k 0) (get_or ts k 0) (get_or qs k 0) (get_or hs k 0) (get_or os k 0))
    joined6 ss ps ts qs hs os = bound_same (each J) (b7 ss ps ts qs hs os) (λ js. each (λ k. r7 k (get_or ss k 0) (get_or ps k 0) (get_or ts k 0) (get_or qs k 0) (get_or hs k 0) (get_or os k 0) (get_or js k 0))) (joined7 ss ps ts qs hs os)
        ∙ placed n J (λ k. r7 k (get_or ss k 0) (get_or ps k 0) (get_or ts k 0) (get_or qs k 0) (get_or hs k 0) (get_or os k 0)) j_only (λ k j less. only7 k (get_or ss k 0) (get_or ps k 0) (get_or ts k 0) (get_or qs k 0) (get_or hs k 0) (get_or os k 0) j less)

    joined5 : (ss ps ts qs hs : List ℕ) → b5 ss ps ts qs hs ≡ each (λ k. r5 k (get_or ss k 0) (get_or ps k 0) (get_or ts k 0) (get_or qs k 0) (get_or hs k 0))
    joined5 ss ps ts qs hs = bound_same (each O) (b6 ss ps ts qs hs) (λ os. each (λ k. r6 k (get_or ss k 0) (get_or ps k 0) (get_or ts k 0) (get_or qs k 0) (get_or hs k 0) (get_or os k 0))) (joined6 ss ps ts qs hs)
        ∙ placed n O (λ k. r6 k (get_or ss k 0) (get_or ps k 0) (get_or ts k 0) (get_or qs k 0) (get_or hs k 0)) o_only (λ k o less. only6 k (get_or ss k 0) (get_or ps k 0) (get_or ts k 0) (get_or qs k 0) (get_or hs k 0) o less)

    joined4 : (ss ps ts qs : List ℕ) → b4 ss ps ts qs ≡ each (λ k. r4 k (get_or ss k 0) (get_or ps k 0) (get_or ts k 0) (get_or qs k 0))
    joined4 ss ps ts qs = bound_same (each H) (b5 ss ps ts qs) (λ hs. each (λ k. r5 k (get_or ss k 0) (get_or ps k 0) (get_or ts k 0) (get_or qs k 0) (get_or hs k 0))) (joined5 ss ps ts qs)
        ∙ placed n H (λ k. r5 k (get_or ss k 0) (get_or ps k 0) (get_or ts k 0) (get_or qs k 0)) h_only (λ k h less. only5 k (get_or ss k 0) (get_or ps k 0) (get_or ts k 0) (get_or qs k 0) h less)

    joined3 : (ss ps ts : List ℕ) → b3 ss ps ts ≡ each (λ k. r3 k (get_or ss k 0) (get_or ps k 0) (get_or ts k 0))
    joined3 ss ps ts = bound_same (each Q) (b4 ss ps ts) (λ qs. each (λ k. r4 k (get_or ss k 0) (get_or ps k 0) (get_or ts k 0) (get_or qs k 0))) (joined4 ss ps ts)
        ∙ placed n Q (λ k. r4 k (get_or ss k 0) (get_or ps k 0) (get_or ts k 0)) q_only (λ k q less. only4 k (get_or ss k 0) (get_or ps k 0) (get_or ts k 0) q less)

    joined2 : (ss ps : List ℕ) → b2 ss ps ≡ each (λ k. r2 k (get_or ss k 0) (get_or ps k 0))
    joined2 ss ps = bound_same (each T) (b3 ss ps) (λ ts. each (λ k. r3 k (get_or ss k 0) (get_or ps k 0) (get_or ts k 0))) (joined3 ss ps)
        ∙ placed n T (λ k. r3 k (get_or ss k 0) (get_or ps k 0)) t_only (λ k t less. only3 k (get_or ss k 0) (get_or ps k 0) t less)

    joined1 : (ss : List ℕ) → b1 ss ≡ each (λ k. r1 k (get_or ss k 0))
    joined1 ss = bound_same (each P) (b2 ss) (λ ps. each (λ k. r2 k (get_or ss k 0) (get_or ps k 0))) (joined2 ss)
        ∙ placed n P (λ k. r2 k (get_or ss k 0)) p_only (λ k p less. only2 k (get_or ss k 0) p less)

    pub joined0 : b0 ≡ each (λ k. r0 k)
    joined0 = bound_same (each S) b1 (λ ss. each (λ k. r1 k (get_or ss k 0))) joined1
        ∙ placed n S (λ k. r1 k) s_only (λ k s less. only1 k s less)

-- ---- the same, where what some lists are made by comes up between them

module _ (n : ℕ) (S P Q O I : ℕ → Outcome ℕ) (T H : ℕ → ℕ → Outcome ℕ) (J : List ℕ → ℕ → Outcome ℕ) (R : ℕ → ℕ → ℕ → Outcome ℕ) where
  abbrev list : (ℕ → Outcome ℕ) → Outcome (List ℕ)
  list f = checked_map f (range_with_len 0 n)

  abbrev pub apart : Outcome ℕ → Outcome ℕ → Outcome (List ℕ) → Outcome (List ℕ)
  apart A B G =
      bind (list S) (λ ss. bind (list P) (λ ps.
      bind A (λ a. bind (list (T a)) (λ ts. bind (list Q) (λ qs.
      bind B (λ b. bind (list (H b)) (λ hs. bind (list O) (λ os.
      bind G (λ gains. b6 n S P (T a) Q (H b) O (J gains) I R ss ps ts qs hs os)))))))))

  abbrev pub at_once : Outcome ℕ → Outcome ℕ → Outcome (List ℕ) → Outcome (List ℕ)
  at_once A B G = bind A (λ a. bind B (λ b. bind G (λ gains. list (r0 n S P (T a) Q (H b) O (J gains) I R))))

  module _ (s_only : (k : ℕ) → k < n → OnlyOverflows (S k)) (p_only : (k : ℕ) → k < n → OnlyOverflows (P k)) (t_only : (a k : ℕ) → k < n → OnlyOverflows (T a k)) (q_only : (k : ℕ) → k < n → OnlyOverflows (Q k))
      (h_only : (b k : ℕ) → k < n → OnlyOverflows (H b k)) (o_only : (k : ℕ) → k < n → OnlyOverflows (O k)) (j_only : (gains : List ℕ) (k : ℕ) → k < n → OnlyOverflows (J gains k)) (i_only : (k : ℕ) → k < n → OnlyOverflows (I k))
      (end_only : (k gain loss : ℕ) → k < n → OnlyOverflows (R k gain loss)) where
    list_only : (f : ℕ → Outcome ℕ) → ((k : ℕ) → k < n → OnlyOverflows (f k)) → OnlyOverflows (list f)
    list_only f only = map_only f 0 n (λ k more less. only k (omega arith))

    pub at_once_is : (A B : Outcome ℕ) (G : Outcome (List ℕ)) → OnlyOverflows A → OnlyOverflows B → OnlyOverflows G → apart A B G ≡ at_once A B G
    at_once_is (done a) (done b) (done gains) a_only b_only g_only = joined0 n S P (T a) Q (H b) O (J gains) I R s_only p_only (t_only a) q_only (h_only b) o_only (j_only gains) i_only end_only
    at_once_is (done a) (done b) (refused why) a_only b_only g_only =
        late (list S) _ why (list_only S s_only) g_only (λ ss. late (list P) _ why (list_only P p_only) g_only
        (λ ps. late (list (T a)) _ why (list_only (T a) (t_only a)) g_only (λ ts. late (list Q) _ why (list_only Q q_only) g_only
        (λ qs. late (list (H b)) _ why (list_only (H b) (h_only b)) g_only (λ hs. late (list O) _ why (list_only O o_only) g_only (λ os. refl))))))
    at_once_is (done a) (done b) (limited bound) a_only b_only g_only = absurd g_only
    at_once_is (done a) (refused why) G a_only b_only g_only =
        late (list S) _ why (list_only S s_only) b_only (λ ss. late (list P) _ why (list_only P p_only) b_only
        (λ ps. late (list (T a)) _ why (list_only (T a) (t_only a)) b_only (λ ts. late (list Q) _ why (list_only Q q_only) b_only (λ qs. refl))))
    at_once_is (done a) (limited bound) G a_only b_only g_only = absurd b_only
    at_once_is (refused why) B G a_only b_only g_only = late (list S) _ why (list_only S s_only) a_only (λ ss. late (list P) _ why (list_only P p_only) a_only (λ ps. refl))
    at_once_is (limited bound) B G a_only b_only g_only = absurd a_only
