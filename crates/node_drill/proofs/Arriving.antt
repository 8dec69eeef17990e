-- What is delivered when one event more comes, and then of later ones.
use Rattle.std.proofs.Common.{◌≡◌, ℕ, ◌+◌, ◌<◌, ◌≤◌, List, [], ◌∷◌, ◌++◌, length, get_or, drop, refl, ap, sym, ◌∙◌, append_assoc}
use Rattle.std.proofs.lemmas.List.{drop_more, drop_all}
use Rattle.record_file.specs.declared.event.Event.{Event}
use Rattle.node_drill.specs.declared.delivery.Delivery.{Delivery}
use Rattle.node_drill.specs.declared.delivery.Delivery.TheVariants.{Tick, Once, Twice, Late}
use Rattle.node_drill.specs.Deliveries.{delivery_of, deliveries}
use Rattle.node_drill.specs.inside.Arrivals.{arrivals}

-- what was delivered before, and then the rest
pub tick_comes : (before waiting : List ℕ) (place : ℕ) (later : List Delivery) → ((before ++ place ∷ []) ++ waiting) ++ arrivals [] (place + 1) later ≡ before ++ arrivals waiting place (Tick ∷ later)
unfolding arrivals
tick_comes before waiting place later =
    append_assoc (before ++ place ∷ []) waiting (arrivals [] (place + 1) later) ∙ append_assoc before (place ∷ []) (waiting ++ arrivals [] (place + 1) later)

pub once_comes : (before waiting : List ℕ) (place : ℕ) (later : List Delivery) → (before ++ place ∷ []) ++ arrivals waiting (place + 1) later ≡ before ++ arrivals waiting place (Once ∷ later)
unfolding arrivals
once_comes before waiting place later = append_assoc before (place ∷ []) (arrivals waiting (place + 1) later)

pub twice_comes : (before waiting : List ℕ) (place : ℕ) (later : List Delivery)
    → ((before ++ place ∷ []) ++ place ∷ []) ++ arrivals waiting (place + 1) later ≡ before ++ arrivals waiting place (Twice ∷ later)
unfolding arrivals
twice_comes before waiting place later =
    append_assoc (before ++ place ∷ []) (place ∷ []) (arrivals waiting (place + 1) later) ∙ append_assoc before (place ∷ []) (place ∷ arrivals waiting (place + 1) later)

pub late_comes : (before waiting : List ℕ) (place : ℕ) (later : List Delivery) → before ++ arrivals (waiting ++ place ∷ []) (place + 1) later ≡ before ++ arrivals waiting place (Late ∷ later)
unfolding arrivals
late_comes before waiting place later = refl

-- the events from a place on, of which this is the first
pub next_delivery : (events : List Event) (number node i : ℕ) (event : Event) → deliveries number node i (event ∷ events) ≡ delivery_of number node i event ∷ deliveries number node (i + 1) events
unfolding deliveries
next_delivery events number node i event = refl

pub all_came : (number node i place : ℕ) (waiting : List ℕ) → arrivals waiting place (deliveries number node i []) ≡ waiting
unfolding deliveries arrivals
all_came number node i place waiting = refl

-- the event at a place is the first of those from there on
pub one_more : (events : List Event) (number node place : ℕ) (event : Event) (delivery : Delivery) → place < length events → event ≡ get_or events place event
    → delivery ≡ delivery_of number node (place + 1) event
    → delivery ∷ deliveries number node (place + 1 + 1) (drop (place + 1) events) ≡ deliveries number node (place + 1) (drop place events)
one_more events number node place event delivery low is comes =
    let later : List Event = drop (place + 1) events in
    let from : drop place events ≡ event ∷ later = drop_more events place event low ∙ ap (λ (e : Event). e ∷ later) (sym is) in
    ap (λ (d : Delivery). d ∷ deliveries number node (place + 1 + 1) later) comes
    ∙ (sym (next_delivery later number node (place + 1) event) ∙ ap (deliveries number node (place + 1)) (sym from))

-- behind the last event what waits still comes
pub what_waits : (events : List Event) (number node place : ℕ) (waiting : List ℕ) → length events ≤ place
    → waiting ≡ arrivals waiting place (deliveries number node (place + 1) (drop place events))
what_waits events number node place waiting end =
    sym (ap (λ (later : List Event). arrivals waiting place (deliveries number node (place + 1) later)) (drop_all place events end) ∙ all_came number node (place + 1) place waiting)
