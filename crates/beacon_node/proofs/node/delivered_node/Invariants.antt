-- So many events were taken; what comes of all of them is what comes of those behind.
use Rattle.std.proofs.Common.{drop, slice_get, filter_map}
use Rattle.node_drill.specs.Deliveries.{delivered}
use Rattle.beacon_node.proofs.Delivering.{AreTaken}
use Rattle.beacon_node.proofs.node.delivered_node.Given as goal

abbrev pub invariant-loop-index : goal.invariant-loop-index
invariant-loop-index l = AreTaken l.config l.genesis l.node (delivered l.number l.node l.events) l.index l.given (filter_map (slice_get l.events) (drop l.index l.place-items))
