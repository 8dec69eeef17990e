-- How often each event is delivered.
use Rattle.std.proofs.Common.{◌≡◌, ℕ, suc, ◌+◌, ◌*◌, ◌<◌, ◌≤◌, Bool, true, false, cond, ◌==◌, List, [], ◌∷◌, ◌++◌, length, All, count_by, refl, ap, sym, inl, inr, arith, add-zero, mul-zero, eq-eqb, ne_eqb}
use Rattle.std.proofs.lemmas.Bool.{cases_eq}
use Rattle.std.proofs.lemmas.List.{length-append}
use Rattle.std.proofs.lemmas.List.Sums.{sum_by-cons, sum_by-append, sum_by_push}
use Rattle.std.proofs.lemmas.List.Elements.{All-nil, All-cons, All-append, All-push}
use Rattle.record_file.specs.declared.event.Event.{Event}
use Rattle.node_drill.specs.declared.delivery.Delivery.{Delivery}
use Rattle.node_drill.specs.declared.delivery.Delivery.TheVariants.{Tick, Once, Twice, Late}
use Rattle.node_drill.specs.Deliveries.{deliveries, delivered_places, IsEachOnceOrTwice}
use Rattle.node_drill.specs.inside.Arrivals.{arrivals}
use Rattle.node_drill.proofs.PlaceByPlace.{as_they_arrive}

-- how often an event is delivered that comes so
abbrev times : Delivery → ℕ
times Tick = 1
times Once = 1
times Twice = 2
times Late = 1

times_few : (d : Delivery) → (1 ≤ times d) × (times d ≤ 2)
times_few Tick = (omega arith, omega arith)
times_few Once = (omega arith, omega arith)
times_few Twice = (omega arith, omega arith)
times_few Late = (omega arith, omega arith)

-- how often a test passes of what is delivered
abbrev copies : (ℕ → Bool) → ℕ → List Delivery → ℕ
copies test place [] = 0
copies test place (d ∷ later) = times d * cond (test place) 1 0 + copies test (place + 1) later

counted : (ds : List Delivery) (test : ℕ → Bool) (waiting : List ℕ) (place : ℕ) → count_by test (arrivals waiting place ds) ≡ count_by test waiting + copies test place ds
unfolding arrivals
counted [] test waiting place = sym (add-zero (count_by test waiting))
counted (Tick ∷ later) test waiting place =
    let pass : ℕ → ℕ = λ x. cond (test x) 1 0 in
    let rest : List ℕ = arrivals [] (place + 1) later in
    let whole = sum_by-cons pass place (waiting ++ rest) in
    let parts = sum_by-append pass waiting rest in
    let others = counted later test [] (place + 1) in
    omega (arith, whole, parts, others)
counted (Once ∷ later) test waiting place =
    let pass : ℕ → ℕ = λ x. cond (test x) 1 0 in
    let rest : List ℕ = arrivals waiting (place + 1) later in
    let whole = sum_by-cons pass place rest in
    let others = counted later test waiting (place + 1) in
    omega (arith, whole, others)
counted (Twice ∷ later) test waiting place =
    let pass : ℕ → ℕ = λ x. cond (test x) 1 0 in
    let rest : List ℕ = arrivals waiting (place + 1) later in
    let whole = sum_by-cons pass place (place ∷ rest) in
    let again = sum_by-cons pass place rest in
    let others = counted later test waiting (place + 1) in
    omega (arith, whole, again, others)
counted (Late ∷ later) test waiting place =
    let pass : ℕ → ℕ = λ x. cond (test x) 1 0 in
    let more = sum_by_push pass waiting place in
    let others = counted later test (waiting ++ place ∷ []) (place + 1) in
    omega (arith, more, others)

-- the test whether a place is this one
abbrev is_at : ℕ → ℕ → Bool
is_at place other = other == place

no_copy : (ds : List Delivery) (place from : ℕ) → place < from → copies (is_at place) from ds ≡ 0
no_copy [] place from low = refl
no_copy (d ∷ later) place from low =
    let other : (from == place) ≡ false = ne_eqb from place (λ same. omega arith) in
    let none = no_copy later place (from + 1) (omega arith) in
    rw (other, mul-zero) (omega (arith, none))

-- the copies of an event that is one of these
some_copies : (ds : List Delivery) (place from : ℕ) → from ≤ place → place < from + length ds → (1 ≤ copies (is_at place) from ds) × (copies (is_at place) from ds ≤ 2)
some_copies [] place from low high = absurd (omega arith)
some_copies (d ∷ later) place from low high =
    elim (cases_eq from place) [
      | inl same ↦
          let here : (from == place) ≡ true = eq-eqb from place same in
          let none = no_copy later place (from + 1) (omega arith) in
          let few = times_few d in
          rw (here, none) (omega (arith, few.0), omega (arith, few.1))
      | inr apart ↦
          let other : (from == place) ≡ false = ne_eqb from place apart in
          let rest = some_copies later place (from + 1) (omega arith) (omega arith) in
          rw (other, mul-zero) (omega (arith, rest.0), omega (arith, rest.1))
    ]

-- nothing else is delivered
stay_within : (ds : List Delivery) (waiting : List ℕ) (place end : ℕ) → place + length ds ≤ end → All (λ p. p < end) waiting → All (λ p. p < end) (arrivals waiting place ds)
unfolding arrivals
stay_within [] waiting place end low all = all
stay_within (Tick ∷ later) waiting place end low all =
    All-cons (λ p. p < end) place (waiting ++ arrivals [] (place + 1) later) (omega arith) (All-append (λ p. p < end) waiting (arrivals [] (place + 1) later) all (stay_within later [] (place + 1) end (omega arith) (All-nil (λ p. p < end))))
stay_within (Once ∷ later) waiting place end low all =
    All-cons (λ p. p < end) place (arrivals waiting (place + 1) later) (omega arith) (stay_within later waiting (place + 1) end (omega arith) all)
stay_within (Twice ∷ later) waiting place end low all =
    All-cons (λ p. p < end) place (place ∷ arrivals waiting (place + 1) later) (omega arith) (All-cons (λ p. p < end) place (arrivals waiting (place + 1) later) (omega arith) (stay_within later waiting (place + 1) end (omega arith) all))
stay_within (Late ∷ later) waiting place end low all =
    stay_within later (waiting ++ place ∷ []) (place + 1) end (omega arith) (All-push (λ p. p < end) waiting place all (omega arith))

pub length-deliveries : (events : List Event) (number node i : ℕ) → length (deliveries number node i events) ≡ length events
unfolding deliveries
length-deliveries [] number node i = refl
length-deliveries (event ∷ later) number node i = ap (λ n. suc n) (length-deliveries later number node (i + 1))

-- each event is delivered once or twice, and nothing else is
pub each_once_or_twice : (number node : ℕ) (events : List Event) → IsEachOnceOrTwice (length events) (delivered_places number node events)
each_once_or_twice number node events =
    let ds : List Delivery = deliveries number node 1 events in
    let many : length ds ≡ length events = length-deliveries events number node 1 in
    rw (as_they_arrive number node events) record {
      once = λ place low.
          let all = counted ds (is_at place) [] 0 in
          let some = some_copies ds place 0 (omega arith) (omega arith) in
          omega (arith, all, some.0);
      twice = λ place low.
          let all = counted ds (is_at place) [] 0 in
          let some = some_copies ds place 0 (omega arith) (omega arith) in
          omega (arith, all, some.1);
      within = stay_within ds [] 0 (length events) (omega arith) (All-nil (λ p. p < length events));
    }

-- ---- how many places there are

not_many : (ds : List Delivery) (waiting : List ℕ) (place : ℕ) → length (arrivals waiting place ds) ≤ length waiting + 2 * length ds
unfolding arrivals
not_many [] waiting place = omega arith
not_many (Tick ∷ later) waiting place =
    let joined : length (waiting ++ arrivals [] (place + 1) later) ≡ length waiting + length (arrivals [] (place + 1) later) = length-append waiting (arrivals [] (place + 1) later) in
    let rest = not_many later [] (place + 1) in
    omega (arith, joined, rest)
not_many (Once ∷ later) waiting place = let rest = not_many later waiting (place + 1) in omega (arith, rest)
not_many (Twice ∷ later) waiting place = let rest = not_many later waiting (place + 1) in omega (arith, rest)
not_many (Late ∷ later) waiting place =
    let joined : length (waiting ++ place ∷ []) ≡ length waiting + 1 = length-append waiting (place ∷ []) in
    let rest = not_many later (waiting ++ place ∷ []) (place + 1) in
    omega (arith, joined, rest)

pub few_places : (number node : ℕ) (events : List Event) → length (delivered_places number node events) ≤ 2 * length events
few_places number node events =
    let many : length (deliveries number node 1 events) ≡ length events = length-deliveries events number node 1 in
    let most = not_many (deliveries number node 1 events) [] 0 in
    rw (as_they_arrive number node events) (omega (arith, many, most))
