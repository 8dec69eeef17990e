use Rattle.std.proofs.Common.{◌≡◌, ◌+◌, ◌++◌, drop}
use Rattle.node_drill.specs.Deliveries.{deliveries, delivered_places}
use Rattle.node_drill.specs.inside.Arrivals.{arrivals}
use Rattle.node_drill.proofs.order.deliver.Given as goal

abbrev pub invariant-loop-index : goal.invariant-loop-index
invariant-loop-index l =
    l.places.items ++ arrivals l.waiting.items l.index (deliveries l.number l.node (l.index + 1) (drop l.index l.events)) ≡ delivered_places l.number l.node l.events
