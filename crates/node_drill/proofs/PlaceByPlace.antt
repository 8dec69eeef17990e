-- The order of delivery, place by place, is that of the events as they come one after the other.
use Rattle.std.proofs.Common.{◌≡◌, ℕ, zero, suc, ◌+◌, ◌-◌, ◌<◌, ◌≤◌, Bool, true, false, not, cond, nat_lt, ◌==◌, ◌&&◌, List, [], ◌∷◌, ◌++◌, length, get_or, drop, filter, flat_map, slice_get, refl, ap, sym, inl, inr, ◌∙◌, arith, append-nil}
use Rattle.std.specs.List.{range_with_len}
use Rattle.std.specs.Option.{option_map_or}
use Rattle.std.proofs.lemmas.Bool.{cases_Bool, cases_eq, cases_lt, eq-eqb, ne_eqb, lt-ltb, le-ltb, and_right}
use Rattle.std.proofs.lemmas.List.{drop_more, drop_all}
use Rattle.std.proofs.lemmas.List.Elements.{filter-append}
use Rattle.std.proofs.lemmas.List.Sums.{prefix_len-drop_yes, prefix_len-drop_no, prefix_len-drop_all}
use Rattle.std.proofs.lemmas.Option.{slice_get-get_or, slice_get_past}
use Rattle.node_drill.specs.declared.delivery.Delivery.{Delivery}
use Rattle.node_drill.specs.declared.delivery.Delivery.TheVariants.{Tick, Once, Twice, Late}
use Rattle.record_file.specs.declared.event.Event.{Event}
use Rattle.node_drill.specs.Deliveries.{comes_as_tick, comes_late, in_place, next_tick, comes_late_here, delivered_here, in_order, deliveries, delivered_places}
use Rattle.node_drill.specs.inside.Arrivals.{arrivals}

-- ---- filters over places

-- two tests that agree on these places
same_filter : (p q : ℕ → Bool) (n from : ℕ) → ((k : ℕ) → from ≤ k → k < from + n → p k ≡ q k) → filter p (range_with_len from n) ≡ filter q (range_with_len from n)
same_filter p q zero from same = refl
same_filter p q (suc n) from same =
    let rest = same_filter p q n (from + 1) (λ k low high. same k (omega arith) (omega arith)) in
    rw (same from (omega arith) (omega arith), rest) refl

-- no place passes
no_filter : (p : ℕ → Bool) (n from : ℕ) → ((k : ℕ) → from ≤ k → k < from + n → p k ≡ false) → filter p (range_with_len from n) ≡ []
no_filter p zero from none = refl
no_filter p (suc n) from none =
    let rest = no_filter p n (from + 1) (λ k low high. none k (omega arith) (omega arith)) in
    rw (none from (omega arith) (omega arith)) rest

range_joined : (n m from : ℕ) → range_with_len from (n + m) ≡ range_with_len from n ++ range_with_len (from + n) m
range_joined zero m from = let e : from + 0 ≡ from = omega arith in let f : 0 + m ≡ m = omega arith in rw (e, f) refl
range_joined (suc n) m from =
    let e : from + suc n ≡ from + 1 + n = omega arith in
    let f : suc n + m ≡ suc (n + m) = omega arith in
    rw (e, f) (ap (λ (xs : List ℕ). from ∷ xs) (range_joined n m (from + 1)))

-- ---- the next tick

ends_at : (ds : List Delivery) (place : ℕ) → length ds ≤ place → next_tick ds place ≡ place
unfolding next_tick
ends_at ds place past = let none = prefix_len-drop_all (λ d. not (comes_as_tick d)) ds place past in omega (arith, none)

tick_here : (ds : List Delivery) (place : ℕ) → place < length ds → comes_as_tick (get_or ds place Tick) ≡ true → next_tick ds place ≡ place
unfolding next_tick
tick_here ds place low tick =
    let none = prefix_len-drop_no (λ d. not (comes_as_tick d)) ds place Tick low (ap not tick) in
    omega (arith, none)

tick_later : (ds : List Delivery) (place : ℕ) → place < length ds → comes_as_tick (get_or ds place Tick) ≡ false → next_tick ds place ≡ next_tick ds (place + 1)
unfolding next_tick
tick_later ds place low other =
    let more = prefix_len-drop_yes (λ d. not (comes_as_tick d)) ds place Tick low (ap not other) in
    omega (arith, more)

-- it isn't before the place
not_before : (ds : List Delivery) (place : ℕ) → place ≤ next_tick ds place
unfolding next_tick
not_before ds place = omega arith

-- where a tick or the end is, the next one of an earlier place isn't behind it
stops_by : (k : ℕ) (ds : List Delivery) (place stop : ℕ) → place + k ≡ stop → next_tick ds stop ≡ stop → next_tick ds place ≤ stop
stops_by zero ds place stop e at = let same : place ≡ stop = omega arith in rw same (omega (arith, at))
stops_by (suc k) ds place stop e at =
    elim (cases_lt place (length ds)) [
      | inl low ↦
          elim (cases_Bool (comes_as_tick (get_or ds place Tick))) [
            | inl tick ↦ let here = tick_here ds place low tick in omega (arith, here)
            | inr other ↦
                let later = tick_later ds place low other in
                let rest = stops_by k ds (place + 1) stop (omega arith) at in
                omega (arith, later, rest)
          ]
      | inr past ↦ let end = ends_at ds place past in omega (arith, end)
    ]

-- where neither is, it isn't that of an earlier place either
passes_by : (k : ℕ) (ds : List Delivery) (place other : ℕ) → place + k ≡ other → other < length ds → comes_as_tick (get_or ds other Tick) ≡ false → next_tick ds place ≡ other → ⊥
passes_by zero ds place other e low none at =
    let same : place ≡ other = omega arith in
    let later = tick_later ds other low none in
    let behind = not_before ds (other + 1) in
    let here : next_tick ds other ≡ other = rw same at at in
    omega (arith, later, behind, here)
passes_by (suc k) ds place other e low none at =
    elim (cases_Bool (comes_as_tick (get_or ds place Tick))) [
      | inl tick ↦ let here = tick_here ds place (omega arith) tick in omega (arith, here, at)
      | inr next ↦
          let later = tick_later ds place (omega arith) next in
          passes_by k ds (place + 1) other (omega arith) low none (sym later ∙ at)
    ]

-- ---- what waits

-- whether the event at a place waits still, where the events before this other place came
abbrev waits : List Delivery → ℕ → ℕ → Bool
waits ds here place = option_map_or comes_late (slice_get ds place) false && not (nat_lt (next_tick ds place) here)

abbrev waiting : List Delivery → ℕ → List ℕ
waiting ds here = filter (waits ds here) (range_with_len 0 here)

late_at : (ds : List Delivery) (place : ℕ) → place < length ds → option_map_or comes_late (slice_get ds place) false ≡ comes_late (get_or ds place Tick)
late_at ds place low = ap (λ o. option_map_or comes_late o false) (slice_get-get_or ds place Tick low)

and_true : (b : Bool) → (b && true) ≡ b
and_true true = refl
and_true false = refl

is_there : (t here : ℕ) → t ≤ here → (t == here) ≡ not (nat_lt t here)
is_there t here most =
    elim (cases_eq t here) [
      | inl same ↦ eq-eqb t here same ∙ sym (ap not (le-ltb t here (omega arith)))
      | inr apart ↦ ne_eqb t here apart ∙ sym (ap not (lt-ltb t here (omega arith)))
    ]

-- at a tick, or at the end, all that waits comes
all_come : (ds : List Delivery) (here m : ℕ) → here + m ≡ length ds → next_tick ds here ≡ here → (here < length ds → comes_late (get_or ds here Tick) ≡ false)
    → filter (comes_late_here ds here) (range_with_len 0 (length ds)) ≡ waiting ds here
unfolding comes_late_here
all_come ds here m e at not_late =
    let p : ℕ → Bool = comes_late_here ds here in
    let parts : filter p (range_with_len 0 (here + m)) ≡ filter p (range_with_len 0 here) ++ filter p (range_with_len (0 + here) m) =
    ap (filter p) (range_joined here m 0) ∙ filter-append p (range_with_len 0 here) (range_with_len (0 + here) m) in
    let early : filter p (range_with_len 0 here) ≡ waiting ds here =
    same_filter p (waits ds here) here 0 (λ k low high.
    ap (λ b. option_map_or comes_late (slice_get ds k) false && b) (is_there (next_tick ds k) here (stops_by (here - k) ds k here (omega arith) at))) in
    let late : filter p (range_with_len (0 + here) m) ≡ [] =
    no_filter p m (0 + here) (λ k low high.
    elim (cases_eq k here) [
      | inl same ↦ rw same (rw (late_at ds here (omega arith), not_late (omega arith)) refl)
      | inr apart ↦
          let behind = not_before ds k in
          and_right (option_map_or comes_late (slice_get ds k) false) (next_tick ds k == here) (ne_eqb (next_tick ds k) here (λ (is : next_tick ds k ≡ here). omega (arith, behind, is)))
    ]) in
    let joined : filter p (range_with_len 0 (here + m)) ≡ waiting ds here ++ [] = rw early at (rw late at parts) in
    rw (sym e) (joined ∙ append-nil (waiting ds here))

-- elsewhere none comes
none_comes : (ds : List Delivery) (here : ℕ) → here < length ds → comes_as_tick (get_or ds here Tick) ≡ false
    → filter (comes_late_here ds here) (range_with_len 0 (length ds)) ≡ []
unfolding comes_late_here
none_comes ds here low other =
    no_filter (comes_late_here ds here) (length ds) 0 (λ k least high.
    and_right (option_map_or comes_late (slice_get ds k) false) (next_tick ds k == here) (ne_eqb (next_tick ds k) here (λ (is : next_tick ds k ≡ here).
    elim (cases_lt here k) [
      | inl behind ↦ let later = not_before ds k in omega (arith, behind, later, is)
      | inr before ↦ passes_by (here - k) ds k here (omega arith) low other is
    ])))

-- behind a tick nothing waits
none_waits : (ds : List Delivery) (here : ℕ) → next_tick ds here ≡ here → waiting ds (here + 1) ≡ []
none_waits ds here at =
    no_filter (waits ds (here + 1)) (here + 1) 0 (λ k least high.
    let soon = stops_by (here - k) ds k here (omega arith) at in
    and_right (option_map_or comes_late (slice_get ds k) false) (not (nat_lt (next_tick ds k) (here + 1))) (ap not (lt-ltb (next_tick ds k) (here + 1) (omega (arith, soon)))))

-- behind another event what waited waits still, and the event if it comes late
still_wait : (ds : List Delivery) (here : ℕ) → here < length ds → comes_as_tick (get_or ds here Tick) ≡ false
    → waiting ds (here + 1) ≡ waiting ds here ++ cond (comes_late (get_or ds here Tick)) (here ∷ []) []
still_wait ds here low other =
    let p : ℕ → Bool = waits ds (here + 1) in
    let parts : filter p (range_with_len 0 (here + 1)) ≡ filter p (range_with_len 0 here) ++ filter p (range_with_len (0 + here) 1) =
    ap (filter p) (range_joined here 1 0) ∙ filter-append p (range_with_len 0 here) (range_with_len (0 + here) 1) in
    let early : filter p (range_with_len 0 here) ≡ waiting ds here =
    same_filter p (waits ds here) here 0 (λ k least high.
    ap (λ b. option_map_or comes_late (slice_get ds k) false && not b)
    (elim (cases_lt (next_tick ds k) here) [
      | inl soon ↦ lt-ltb (next_tick ds k) (here + 1) (omega (arith, soon)) ∙ sym (lt-ltb (next_tick ds k) here soon)
      | inr far ↦
          le-ltb (next_tick ds k) (here + 1) (elim (cases_eq (next_tick ds k) here) [
            | inl is ↦ elim (passes_by (here - k) ds k here (omega arith) low other is) [ ]
            | inr apart ↦ omega (arith, far, apart)
          ])
          ∙ sym (le-ltb (next_tick ds k) here far)
    ])) in
    let far : nat_lt (next_tick ds here) (here + 1) ≡ false =
    let later = tick_later ds here low other in
    let behind = not_before ds (here + 1) in
    le-ltb (next_tick ds here) (here + 1) (omega (arith, later, behind)) in
    let own : p here ≡ comes_late (get_or ds here Tick) = rw (late_at ds here low, far) (and_true (comes_late (get_or ds here Tick))) in
    let last : filter p (range_with_len (0 + here) 1) ≡ cond (comes_late (get_or ds here Tick)) (here ∷ []) [] =
    let from : 0 + here ≡ here = omega arith in
    rw (from, own) refl in
    parts ∙ rw (early, last) refl

-- ---- place by place

-- what comes in the place of an event
own_place : (ds : List Delivery) (here : ℕ) (d : Delivery) → here < length ds → get_or ds here Tick ≡ d → option_map_or (in_place here) (slice_get ds here) [] ≡ in_place here d
own_place ds here d low is = ap (λ o. option_map_or (in_place here) o []) (slice_get-get_or ds here Tick low) ∙ ap (in_place here) is

-- what comes from a place on
abbrev from_place : List Delivery → ℕ → ℕ → List ℕ
from_place ds here many = flat_map (delivered_here ds) (range_with_len here many)

one_place : (ds : List Delivery) (here k : ℕ) (d : Delivery) → here < length ds → get_or ds here Tick ≡ d
    → arrivals (waiting ds (here + 1)) (here + 1) (drop (here + 1) ds) ≡ from_place ds (here + 1) k
    → arrivals (waiting ds here) here (d ∷ drop (here + 1) ds) ≡ delivered_here ds here ++ from_place ds (here + 1) k
unfolding arrivals delivered_here
one_place ds here k Tick low is rest =
    let at : next_tick ds here ≡ here = tick_here ds here low (ap comes_as_tick is) in
    let come = all_come ds here (length ds - here) (omega arith) at (λ l. ap comes_late is) in
    let none : waiting ds (here + 1) ≡ [] = none_waits ds here at in
    let later : arrivals [] (here + 1) (drop (here + 1) ds) ≡ from_place ds (here + 1) k = rw none at rest in
    rw (own_place ds here Tick low is, come, later) refl
one_place ds here k Once low is rest =
    let none = none_comes ds here low (ap comes_as_tick is) in
    let still : waiting ds (here + 1) ≡ waiting ds here = still_wait ds here low (ap comes_as_tick is) ∙ (rw is (append-nil (waiting ds here))) in
    let later : arrivals (waiting ds here) (here + 1) (drop (here + 1) ds) ≡ from_place ds (here + 1) k = rw still at rest in
    rw (own_place ds here Once low is, none, later) refl
one_place ds here k Twice low is rest =
    let none = none_comes ds here low (ap comes_as_tick is) in
    let still : waiting ds (here + 1) ≡ waiting ds here = still_wait ds here low (ap comes_as_tick is) ∙ (rw is (append-nil (waiting ds here))) in
    let later : arrivals (waiting ds here) (here + 1) (drop (here + 1) ds) ≡ from_place ds (here + 1) k = rw still at rest in
    rw (own_place ds here Twice low is, none, later) refl
one_place ds here k Late low is rest =
    let none = none_comes ds here low (ap comes_as_tick is) in
    let still : waiting ds (here + 1) ≡ waiting ds here ++ here ∷ [] = still_wait ds here low (ap comes_as_tick is) ∙ (rw is refl) in
    let later : arrivals (waiting ds here ++ here ∷ []) (here + 1) (drop (here + 1) ds) ≡ from_place ds (here + 1) k = rw still at rest in
    rw (own_place ds here Late low is, none, later) refl

by_places : (k : ℕ) (ds : List Delivery) (here : ℕ) → here + k ≡ length ds → arrivals (waiting ds here) here (drop here ds) ≡ from_place ds here (k + 1)
unfolding arrivals delivered_here
by_places zero ds here e =
    let past : length ds ≤ here = omega (arith, e) in
    let come = all_come ds here 0 e (ends_at ds here past) (λ low. absurd (omega (arith, past, low))) in
    rw (drop_all here ds past, slice_get_past ds here past, come) (sym (append-nil (waiting ds here)))
by_places (suc k) ds here e =
    let low : here < length ds = omega (arith, e) in
    let many : suc k + 1 ≡ suc (k + 1) = omega arith in
    rw (drop_more ds here Tick low, many) (one_place ds here (k + 1) (get_or ds here Tick) low refl (by_places k ds (here + 1) (omega (arith, e))))

one_by_one : (ds : List Delivery) → in_order ds ≡ arrivals [] 0 ds
unfolding in_order
one_by_one ds = sym (by_places (length ds) ds 0 (omega arith))

pub as_they_arrive : (number node : ℕ) (events : List Event) → delivered_places number node events ≡ arrivals [] 0 (deliveries number node 1 events)
unfolding delivered_places
as_they_arrive number node events = one_by_one (deliveries number node 1 events)
