-- The events came one after the other, and at the end those that still waited.
use Rattle.std.proofs.Common.{ℕ, ◌+◌, List, ◌++◌, length, drop, ap, sym, subst, ◌∙◌}
use Rattle.node_drill.specs.declared.delivery.Delivery.{Delivery}
use Rattle.node_drill.specs.Deliveries.{deliveries, delivery_of, IsEachOnceOrTwice, AreTicksInOrder}
use Rattle.node_drill.specs.inside.Arrivals.{arrivals}
use Rattle.node_drill.proofs.Arriving.{one_more, what_waits}
use Rattle.node_drill.proofs.Copies.{each_once_or_twice, few_places}
use Rattle.node_drill.proofs.PlaceByPlace.{as_they_arrive}
use Rattle.node_drill.proofs.Ticks.{ticks_in_order}
use Rattle.node_drill.proofs.order.deliver.Goals as goal

pub loop-index-init : goal.loop-index-init
loop-index-init c = rw (c.new-places.ensures.items, c.new-waiting.ensures.items) (sym (as_they_arrive c.args.number c.args.node c.args.events.now))

pub loop-index-preserved : goal.loop-index-preserved
loop-index-preserved c =
    let place : ℕ = c.loop-index.index in
    let later : List Delivery = deliveries c.args.number c.args.node (place + 1 + 1) (drop (place + 1) c.args.events.now) in
    c.in_ok-arrive.ensures later
    ∙ (ap (λ (ds : List Delivery). c.loop-index.places.items ++ arrivals c.loop-index.waiting.items place ds)
    (one_more c.args.events.now c.args.number c.args.node place c.index-events-index.result c.delivery_of-delivery.result c.loop-index-test.true c.index-events-index.is
    (c.delivery_of-delivery.ensures ∙ ap (λ (i : ℕ). delivery_of c.args.number c.args.node (i + 1) c.index-events-index.result) c.from.ensures))
    ∙ c.loop-index.invariant)

pub returns-clause-exact : goal.returns-clause-exact
returns-clause-exact c =
    let waited = what_waits c.args.events.now c.args.number c.args.node c.loop-index.index c.loop-index.waiting.items c.loop-index-test.false in
    c.in_ok-extend_from_slice.ensures.items ∙ (ap (λ (ws : List ℕ). c.loop-index.places.items ++ ws) (c.deref.ensures.value ∙ waited) ∙ c.loop-index.invariant)

pub returns-clause-each : goal.returns-clause-each
returns-clause-each c =
    let P : List ℕ → Type 0 = λ places. IsEachOnceOrTwice (length c.args.events.now) places in
    subst P (sym (returns-clause-exact c)) (each_once_or_twice c.args.number c.args.node c.args.events.now)

pub returns-clause-twice : goal.returns-clause-twice
returns-clause-twice c =
    let few = few_places c.args.number c.args.node c.args.events.now in
    rw (returns-clause-exact c) few

pub returns-clause-ticks : goal.returns-clause-ticks
returns-clause-ticks c =
    let P : List ℕ → Type 0 = λ places. AreTicksInOrder c.args.events.now places in
    subst P (sym (returns-clause-exact c)) (ticks_in_order c.args.number c.args.node c.args.events.now)
