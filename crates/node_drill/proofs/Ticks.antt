-- Ticks are delivered once each, and in their order.
use Rattle.std.proofs.Common.{◌≡◌, ℕ, suc, ◌+◌, Bool, true, false, cond, nat_lt, List, [], ◌∷◌, ◌++◌, length, filter, refl, ap, sym, ◌∙◌, arith, add-zero}
use Rattle.std.specs.List.{range_with_len}
use Rattle.std.proofs.lemmas.List.Elements.{filter-append}
use Rattle.record_file.specs.declared.event.Event.{Event}
use Rattle.node_drill.specs.declared.delivery.Delivery.{Delivery}
use Rattle.node_drill.specs.declared.delivery.Delivery.TheVariants.{Tick, Once, Twice, Late}
use Rattle.node_drill.specs.Deliveries.{delivery_byte, delivery_by, delivery_of, deliveries, delivered_places, comes_as_tick, is_tick, is_tick_at, AreTicksInOrder}
use Rattle.node_drill.specs.inside.Arrivals.{arrivals}
use Rattle.node_drill.proofs.PlaceByPlace.{as_they_arrive}
use Rattle.node_drill.proofs.Copies.{length-deliveries}

-- a test passes at the ticks alone
abbrev Agrees : (ℕ → Bool) → ℕ → List Delivery → Type 0
Agrees test place [] = Unit {0}
Agrees test place (d ∷ later) = (test place ≡ comes_as_tick d) × Agrees test (place + 1) later

in_turn : (ds : List Delivery) (test : ℕ → Bool) (waiting : List ℕ) (place : ℕ) → Agrees test place ds → filter test waiting ≡ []
    → filter test (arrivals waiting place ds) ≡ filter test (range_with_len place (length ds))
unfolding arrivals
in_turn [] test waiting place agree none = none
in_turn (Tick ∷ later) test waiting place agree none =
    let rest = in_turn later test [] (place + 1) agree.1 refl in
    let same : filter test (waiting ++ arrivals [] (place + 1) later) ≡ filter test (range_with_len (place + 1) (length later)) =
    filter-append test waiting (arrivals [] (place + 1) later) ∙ rw none rest in
    ap (λ (xs : List ℕ). cond (test place) (place ∷ xs) xs) same
in_turn (Once ∷ later) test waiting place agree none =
    let rest = in_turn later test waiting (place + 1) agree.1 none in
    ap (λ (xs : List ℕ). cond (test place) (place ∷ xs) xs) rest
in_turn (Twice ∷ later) test waiting place agree none =
    let rest = in_turn later test waiting (place + 1) agree.1 none in
    let fails : test place ≡ false = agree.0 in
    rw fails rest
in_turn (Late ∷ later) test waiting place agree none =
    let fails : test place ≡ false = agree.0 in
    let still : filter test (waiting ++ place ∷ []) ≡ [] = filter-append test waiting (place ∷ []) ∙ rw (none, fails) in
    let rest = in_turn later test (waiting ++ place ∷ []) (place + 1) agree.1 still in
    rw fails rest

by_byte : (byte : ℕ) → comes_as_tick (delivery_by byte) ≡ false
by_byte byte =
    elim (nat_lt byte 64) as (λ low. comes_as_tick (cond low Late (cond (nat_lt byte 240) Once Twice)) ≡ false) [
      | true ↦ refl
      | false ↦ elim (nat_lt byte 240) as (λ low. comes_as_tick (cond low Once Twice) ≡ false) [ true ↦ refl | false ↦ refl ]
    ]

tick_comes : (number node i : ℕ) (event : Event) → comes_as_tick (delivery_of number node i event) ≡ is_tick event
unfolding delivery_of
tick_comes number node i event =
    elim (is_tick event) as (λ tick. comes_as_tick (cond tick Tick (delivery_by (delivery_byte number node i))) ≡ tick) [
      | true ↦ refl
      | false ↦ by_byte (delivery_byte number node i)
    ]

agrees : (events : List Event) (number node i place : ℕ) (test : ℕ → Bool) → ((k : ℕ) → test (place + k) ≡ is_tick_at events k) → Agrees test place (deliveries number node i events)
unfolding deliveries
agrees [] number node i place test same = tt
agrees (event ∷ later) number node i place test same =
    let here : test place ≡ is_tick event = rw add-zero at (same 0) in (
      here ∙ sym (tick_comes number node i event),
      agrees later number node (i + 1) (place + 1) test (λ k. let at : place + 1 + k ≡ place + suc k = omega arith in rw at (same (suc k))),
    )

pub ticks_in_order : (number node : ℕ) (events : List Event) → AreTicksInOrder events (delivered_places number node events)
ticks_in_order number node events = record {
  ticks = ap (filter (is_tick_at events)) (as_they_arrive number node events)
      ∙ in_turn (deliveries number node 1 events) (is_tick_at events) [] 0 (agrees events number node 1 0 (is_tick_at events) (λ k. let at : 0 + k ≡ k = omega arith in rw at refl)) refl
      ∙ ap (λ (n : ℕ). filter (is_tick_at events) (range_with_len 0 n)) (length-deliveries events number node 1);
}
