-- The events are taken one after the other.
use Rattle.std.proofs.Common.{◌≡◌, ◌+◌, ◌<◌, ℕ, List, ◌∷◌, length, get_or, drop, filter_map, slice_get, true, refl, arith}
use Rattle.std.proofs.lemmas.List.Elements.{All-get_or}
use Rattle.record_file.specs.Record.{is_kind}
use Rattle.record_file.specs.declared.event.Event.{Event}
use Rattle.node_drill.specs.Deliveries.{IsEachOnceOrTwice, delivered}
use Rattle.beacon_node.proofs.Delivering.{all_followed, all_line, has_run, next_event, none_left, none_taken, one_more_taken, opening_ends_node, own_config, stops_inside, taken_over}
use Rattle.beacon_node.proofs.node.delivered_node.Goals as goal

inside : (items places : List ℕ) (many i : ℕ) → items ≡ places → IsEachOnceOrTwice many places → i < length items → get_or items i 0 < many
inside items places many i same each low = rw same (All-get_or (λ (place : ℕ). place < many) places i 0 (rw same at low) each.within)

step : (events : List Event) (items places : List ℕ) (i : ℕ) (event : Event) → items ≡ places → IsEachOnceOrTwice (length events) places → i < length items → event ≡ get_or events (get_or items i 0) event
    → filter_map (slice_get events) (drop i items) ≡ event ∷ filter_map (slice_get events) (drop (i + 1) items)
step events items places i event same each low is = next_event events items i (get_or items i 0) event low refl (inside items places (length events) i same each low) is

pub loop-index-init : goal.loop-index-init
unfolding delivered
loop-index-init c =
    none_taken c.args.config.now c.args.genesis.now c.args.node (delivered c.args.number c.args.node c.args.events.now) (filter_map (slice_get c.args.events.now) c.deref-place-items.result.now) c.in-Ok-new.given
    (rw (c.deref-place-items.ensures.value, c.in-Ok.ensures.exact, c.from.ensures) refl) c.in-Ok-new.ensures.number c.in-Ok-new.ensures.is c.in-Ok-new.ensures.opened c.in-Ok-new.ensures.blocks c.in-Ok-new.ensures.accepted
    c.in-Ok-new.ensures.lines

pub take-requires-clause-kind : goal.take-requires-clause-kind
take-requires-clause-kind c =
    rw c.index-events-place.is
    (All-get_or (λ (event : Event). is_kind event.kind ≡ true) c.args.events.now (get_or c.deref-place-items.result.now c.loop-index.index 0) c.index-events-place.result
    (inside c.deref-place-items.result.now c.in-Ok.places.items (length c.args.events.now) c.loop-index.index c.deref-place-items.ensures.value c.in-Ok.ensures.each c.loop-index-test.true)
    c.requires.kinds)

pub take-requires-clause-is : goal.take-requires-clause-is
take-requires-clause-is c = own_config c.args.config.now c.args.genesis.now c.loop-index.given c.loop-index.invariant.is

pub returns-in-Err-new-clause-over : goal.returns-in-Err-new-clause-over
returns-in-Err-new-clause-over c = opening_ends_node c.args.genesis.now c.in-Err-new.status _ c.requires.none c.in-Err-new.ensures.over

pub returns-in-Err-take-clause-over : goal.returns-in-Err-take-clause-over
returns-in-Err-take-clause-over c =
    let next = step c.args.events.now c.deref-place-items.result.now c.in-Ok.places.items c.loop-index.index c.index-events-place.result c.deref-place-items.ensures.value c.in-Ok.ensures.each c.loop-index-test.true c.index-events-place.is in
    taken_over c.args.config.now c.args.genesis.now c.args.node (delivered c.args.number c.args.node c.args.events.now) c.loop-index.index c.index-events-place.result c.loop-index.given
    (filter_map (slice_get c.args.events.now) (drop (c.loop-index.index + 1) c.deref-place-items.result.now)) (rw next at c.loop-index.invariant) c.in-Err-take.status c.in-Err-take.ensures.over

pub returns-in-Err-take-clause-inside : goal.returns-in-Err-take-clause-inside
returns-in-Err-take-clause-inside c = stops_inside c.in-Err-take.status _ _ _ c.in-Err-take.ensures.over

pub loop-index-preserved : goal.loop-index-preserved
loop-index-preserved c =
    let next = step c.args.events.now c.deref-place-items.result.now c.in-Ok.places.items c.loop-index.index c.index-events-place.result c.deref-place-items.ensures.value c.in-Ok.ensures.each c.loop-index-test.true c.index-events-place.is in
    one_more_taken c.args.config.now c.args.genesis.now c.args.node (delivered c.args.number c.args.node c.args.events.now) c.loop-index.index c.index-events-place.result c.loop-index.given
    (filter_map (slice_get c.args.events.now) (drop (c.loop-index.index + 1) c.deref-place-items.result.now)) (rw next at c.loop-index.invariant) c.take.new.self c.in-Ok-take.ensures.taken c.in-Ok-take.ensures.is
    c.in-Ok-take.ensures.few c.in-Ok-take.ensures.accepted

pub returns-in-Ok-node_line-clause-followed : goal.returns-in-Ok-node_line-clause-followed
returns-in-Ok-node_line-clause-followed c =
    all_followed c.args.config.now c.args.genesis.now c.args.node (delivered c.args.number c.args.node c.args.events.now) c.loop-index.index c.loop-index.given
    (rw (none_left c.args.events.now c.deref-place-items.result.now c.loop-index.index c.loop-index-test.false) at c.loop-index.invariant) (record c.loop-index.given { store = c.node_line.new.store }) refl c.node_line.ensures.same refl

pub returns-in-Ok-node_line-clause-line : goal.returns-in-Ok-node_line-clause-line
returns-in-Ok-node_line-clause-line c =
    let h = rw (none_left c.args.events.now c.deref-place-items.result.now c.loop-index.index c.loop-index-test.false) at c.loop-index.invariant in
    all_line c.args.config.now c.args.genesis.now c.args.node (delivered c.args.number c.args.node c.args.events.now) c.loop-index.index c.loop-index.given h (record c.loop-index.given { store = c.node_line.new.store }) refl c.node_line.ensures.same refl
    c.in-Ok-node_line.line.items c.len-events.result (omega (arith, h.counted, c.len-events.ensures, c.deref-place-items.ensures.len, c.loop-index-test.false, c.loop-index.auto.index-end))
    (rw (c.from-2.ensures, c.from-accepted.ensures, c.digest_of-digest.ensures, c.deref.ensures.value) at c.in-Ok-node_line.ensures.line)

pub returns-in-Ok-node_line-clause-has_run : goal.returns-in-Ok-node_line-clause-has_run
returns-in-Ok-node_line-clause-has_run c =
    has_run c.args.config.now c.args.genesis.now c.args.node (delivered c.args.number c.args.node c.args.events.now) c.loop-index.index c.loop-index.given
    (rw (none_left c.args.events.now c.deref-place-items.result.now c.loop-index.index c.loop-index-test.false) at c.loop-index.invariant) (record c.loop-index.given { store = c.node_line.new.store }) refl c.node_line.ensures.same refl
    (omega (arith, c.in-Ok.ensures.twice, c.requires.few, rw c.deref-place-items.ensures.value at c.loop-index.auto.index-end))

pub returns-in-Ok-node_line-clause-number : goal.returns-in-Ok-node_line-clause-number
returns-in-Ok-node_line-clause-number c = c.loop-index.invariant.number
