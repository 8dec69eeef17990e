-- A state whose validators stay as they are at genesis, place by place, is steady.
use Rattle.std.proofs.Common.{◌≡◌, ◌∙◌, ℕ, suc, ◌+◌, ◌<◌, ◌==◌, nat_eq, Bool, true, false, not, cond, ◌&&◌, List, [], ◌∷◌, map, Option, Some, None, refl, sym, ap, arith}
use Rattle.std.proofs.lemmas.Bool.{eq-eqb, ne_eqb}
use Rattle.std.specs.Cmp.Lexicographic.{pointwise}
use Rattle.std.specs.Iterator.{YieldsFirst}
use Rattle.beacon_types.specs.declared.validator.Validator.{Validator}
use Rattle.spec_state.specs.declared.plain.PlainState.{PlainState}
use Rattle.spec_state.specs.Misc.{effective_balance}
use Rattle.spec_state.specs.Predicates.{is_active_validator}
use Rattle.spec_state.specs.Accessors.{indices_from, get_current_epoch, get_previous_epoch, get_active_validator_indices}
use Rattle.spec_forensics.specs.Steady.{is_steady_in, is_steady_at}
use Rattle.forensics.specs.inside.SideBySide.{stays_in, stay_in, stays, stay}

-- ---- lists of indices

module _ (test : Validator → Bool) where
  none_before : (i j : ℕ) (vs : List Validator) (xs : List ℕ) → i < j → pointwise nat_eq (indices_from test j vs) (i ∷ xs) ≡ false
  unfolding indices_from
  none_before i j [] xs less = refl
  none_before i j (v ∷ vs) xs less = elim (test v) as (λ b. pointwise nat_eq (cond b (j ∷ indices_from test (suc j) vs) (indices_from test (suc j) vs)) (i ∷ xs) ≡ false) [
    | true ↦ ap (λ b. b && pointwise nat_eq (indices_from test (suc j) vs) xs) (ne_eqb j i (λ e. omega arith))
    | false ↦ none_before i (suc j) vs xs (omega arith)
  ]

  none_behind : (i j : ℕ) (vs : List Validator) (xs : List ℕ) → i < j → pointwise nat_eq (i ∷ xs) (indices_from test j vs) ≡ false
  unfolding indices_from
  none_behind i j [] xs less = refl
  none_behind i j (v ∷ vs) xs less = elim (test v) as (λ b. pointwise nat_eq (i ∷ xs) (cond b (j ∷ indices_from test (suc j) vs) (indices_from test (suc j) vs)) ≡ false) [
    | true ↦ ap (λ b. b && pointwise nat_eq xs (indices_from test (suc j) vs)) (ne_eqb i j (λ e. omega arith))
    | false ↦ none_behind i (suc j) vs xs (omega arith)
  ]

regroup : (a x b y : Bool) → (a && x) && (b && y) ≡ (a && b) && (x && y)
regroup true true true y = refl
regroup true true false y = refl
regroup true false true y = refl
regroup true false false y = refl
regroup false x b y = refl

-- ---- one epoch

module _ (epoch : ℕ) where
  abbrev active : Validator → Bool
  active v = is_active_validator v epoch

  abbrev active_before : Validator → Bool
  active_before v = is_active_validator v 0

  -- both lists agree, from an index on
  abbrev agree : (ℕ → ℕ) → (ℕ → ℕ) → ℕ → List Validator → List Validator → Bool
  agree now before i owns vs =
      pointwise nat_eq (indices_from active i vs) (indices_from active_before i owns)
      && pointwise nat_eq (map now (indices_from active_before i owns)) (map before (indices_from active_before i owns))

  -- the balances that are read are those of what is left
  abbrev Reads : (ℕ → ℕ) → ℕ → List Validator → Type 0
  Reads read i vs = (k : ℕ) → read (i + k) ≡ effective_balance vs k

  reads_more : (read : ℕ → ℕ) (i : ℕ) (v : Validator) (vs : List Validator) → Reads read i (v ∷ vs) → Reads read (suc i) vs
  unfolding effective_balance
  reads_more read i v vs reads k = let e : suc i + k ≡ i + suc k = omega arith in ap read e ∙ reads (suc k)

  reads_first : (read : ℕ → ℕ) (i : ℕ) (v : Validator) (vs : List Validator) → Reads read i (v ∷ vs) → read i ≡ v.effective_balance
  unfolding effective_balance
  reads_first read i v vs reads = let e : i ≡ i + 0 = omega arith in ap read e ∙ reads 0

  reads_past : (read : ℕ → ℕ) (i : ℕ) → Reads read i [] → Reads read (suc i) []
  unfolding effective_balance
  reads_past read i reads k = let e : suc i + k ≡ i + suc k = omega arith in ap read e ∙ reads (suc k)

  -- one place
  at_place : (now before : ℕ → ℕ) (i : ℕ) (own v : Validator) (owns vs : List Validator) → now i ≡ v.effective_balance → before i ≡ own.effective_balance
      → agree now before (suc i) owns vs ≡ stay_in epoch owns vs → (a b : Bool)
      → pointwise nat_eq (cond b (i ∷ indices_from active (suc i) vs) (indices_from active (suc i) vs)) (cond a (i ∷ indices_from active_before (suc i) owns) (indices_from active_before (suc i) owns))
      && pointwise nat_eq (map now (cond a (i ∷ indices_from active_before (suc i) owns) (indices_from active_before (suc i) owns))) (map before (cond a (i ∷ indices_from active_before (suc i) owns) (indices_from active_before (suc i) owns)))
      ≡ cond a (b && (v.effective_balance == own.effective_balance)) (not b) && stay_in epoch owns vs
  at_place now before i own v owns vs reads reads_before rest true true =
      let indices : List ℕ = indices_from active_before (suc i) owns in
      let first : Bool = pointwise nat_eq (indices_from active (suc i) vs) indices in
      let second : Bool = pointwise nat_eq (map now indices) (map before indices) in
      ap (λ b. (b && first) && (nat_eq (now i) (before i) && second)) (eq-eqb i i refl)
      ∙ ap (λ n. (true && first) && (nat_eq n (before i) && second)) reads
      ∙ ap (λ n. (true && first) && (nat_eq v.effective_balance n && second)) reads_before
      ∙ regroup true first (nat_eq v.effective_balance own.effective_balance) second
      ∙ ap (λ b. (true && nat_eq v.effective_balance own.effective_balance) && b) rest
  at_place now before i own v owns vs reads reads_before rest true false =
      ap (λ b. b && pointwise nat_eq (map now (i ∷ indices_from active_before (suc i) owns)) (map before (i ∷ indices_from active_before (suc i) owns))) (none_before active i (suc i) vs (indices_from active_before (suc i) owns) (omega arith))
  at_place now before i own v owns vs reads reads_before rest false true =
      ap (λ b. b && pointwise nat_eq (map now (indices_from active_before (suc i) owns)) (map before (indices_from active_before (suc i) owns))) (none_behind active_before i (suc i) owns (indices_from active (suc i) vs) (omega arith))
  at_place now before i own v owns vs reads reads_before rest false false = rest

  side_by_side : (now before : ℕ → ℕ) (i : ℕ) (owns vs : List Validator) → Reads now i vs → Reads before i owns → agree now before i owns vs ≡ stay_in epoch owns vs
  unfolding indices_from stay_in stays_in
  side_by_side now before i [] [] reads reads_before = refl
  side_by_side now before i [] (v ∷ vs) reads reads_before = elim (active v) as (λ b. pointwise nat_eq (cond b (i ∷ indices_from active (suc i) vs) (indices_from active (suc i) vs)) [] && true ≡ not b && stay_in epoch [] vs) [
    | true ↦ refl
    | false ↦ side_by_side now before (suc i) [] vs (reads_more now i v vs reads) (reads_past before i reads_before)
  ]
  side_by_side now before i (own ∷ owns) [] reads reads_before = elim (active_before own) as (λ a. pointwise nat_eq [] (cond a (i ∷ indices_from active_before (suc i) owns) (indices_from active_before (suc i) owns))
      && pointwise nat_eq (map now (cond a (i ∷ indices_from active_before (suc i) owns) (indices_from active_before (suc i) owns))) (map before (cond a (i ∷ indices_from active_before (suc i) owns) (indices_from active_before (suc i) owns)))
      ≡ not a && stay_in epoch owns []) [
        | true ↦ refl
        | false ↦ side_by_side now before (suc i) owns [] (reads_past now i reads) (reads_more before i own owns reads_before)
      ]
  side_by_side now before i (own ∷ owns) (v ∷ vs) reads reads_before =
      at_place now before i own v owns vs (reads_first now i v vs reads) (reads_first before i own owns reads_before)
      (side_by_side now before (suc i) owns vs (reads_more now i v vs reads) (reads_more before i own owns reads_before))
      (active_before own) (active v)

  itself : (vs : List Validator) → Reads (effective_balance vs) 0 vs
  itself vs k = let e : 0 + k ≡ k = omega arith in ap (effective_balance vs) e

  steady_in : (genesis state : PlainState) → is_steady_in genesis state epoch ≡ stay_in epoch genesis.validators state.validators
  unfolding is_steady_in get_active_validator_indices
  steady_in genesis state = side_by_side (effective_balance state.validators) (effective_balance genesis.validators) 0 genesis.validators state.validators (itself state.validators) (itself genesis.validators)

-- ---- two epochs

twice : (n x y : Bool) → n && (x && y) ≡ (n && x) && (n && y)
twice true x y = refl
twice false x y = refl

module _ (previous current : ℕ) where
  in_both : (owns vs : List Validator) → stay previous current owns vs ≡ stay_in previous owns vs && stay_in current owns vs
  unfolding stay stay_in stays
  in_both [] [] = refl
  in_both [] (v ∷ vs) =
      ap (λ b. (stays_in previous None v && stays_in current None v) && b) (in_both [] vs)
      ∙ regroup (stays_in previous None v) (stays_in current None v) (stay_in previous [] vs) (stay_in current [] vs)
  in_both (own ∷ owns) [] =
      ap (λ b. not (is_active_validator own 0) && b) (in_both owns [])
      ∙ twice (not (is_active_validator own 0)) (stay_in previous owns []) (stay_in current owns [])
  in_both (own ∷ owns) (v ∷ vs) =
      ap (λ b. (stays_in previous (Some own) v && stays_in current (Some own) v) && b) (in_both owns vs)
      ∙ regroup (stays_in previous (Some own) v) (stays_in current (Some own) v) (stay_in previous owns vs) (stay_in current owns vs)

-- ---- as code comes by it

pub walk_begins : (genesis state : PlainState) (previous current : ℕ) → previous ≡ get_previous_epoch state → current ≡ get_current_epoch state → stay previous current genesis.validators state.validators ≡ is_steady_at genesis state
unfolding is_steady_at
walk_begins genesis state previous current one other =
    ap (λ e. stay e current genesis.validators state.validators) one
    ∙ ap (λ e. stay (get_previous_epoch state) e genesis.validators state.validators) other
    ∙ in_both (get_previous_epoch state) (get_current_epoch state) genesis.validators state.validators
    ∙ ap (λ b. b && stay_in (get_current_epoch state) genesis.validators state.validators) (sym (steady_in (get_previous_epoch state) genesis state))
    ∙ ap (λ b. is_steady_in genesis state (get_previous_epoch state) && b) (sym (steady_in (get_current_epoch state) genesis state))

-- the next place
pub next_place : (previous current : ℕ) (old now : List Validator) (own : Option Validator) (v : Validator) (result : Bool) → YieldsFirst (λ (x : List Validator). x) old own now → result ≡ stays previous current own v
    → (left : List Validator) → stay previous current old (v ∷ left) ≡ result && stay previous current now left
unfolding stay
next_place previous current old now None v result gives is left =
    ap (λ (xs : List Validator). stay previous current xs (v ∷ left)) gives.0
    ∙ ap (λ b. b && stay previous current [] left) (sym is)
    ∙ ap (λ (xs : List Validator). result && stay previous current xs left) (sym gives.1)
next_place previous current old now (Some own) v result gives is left =
    ap (λ (xs : List Validator). stay previous current xs (v ∷ left)) gives
    ∙ ap (λ b. b && stay previous current now left) (sym is)

-- those of genesis alone
pub idle_ends : (previous current : ℕ) → stay previous current [] [] ≡ true
unfolding stay
idle_ends previous current = refl

pub idle_stops : (previous current : ℕ) (own : Validator) (owns : List Validator) → is_active_validator own 0 ≡ true → stay previous current (own ∷ owns) [] ≡ false
unfolding stay
idle_stops previous current own owns is = ap (λ b. not b && stay previous current owns []) is

pub idle_goes : (previous current : ℕ) (own : Validator) (owns : List Validator) → is_active_validator own 0 ≡ false → stay previous current (own ∷ owns) [] ≡ stay previous current owns []
unfolding stay
idle_goes previous current own owns is = ap (λ b. not b && stay previous current owns []) is

pub ruleset idling = (idle_ends, idle_stops, idle_goes)

pub ruleset walking = (walk_begins)
