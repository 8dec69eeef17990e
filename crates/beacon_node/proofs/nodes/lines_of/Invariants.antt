-- So far the lines of these nodes were joined.
use Rattle.std.proofs.Common.{◌≡◌, take}
use Rattle.std.specs.Prelude.{flat_map}
use Rattle.beacon_node.proofs.nodes.lines_of.Given as goal

abbrev pub invariant-loop-given : goal.invariant-loop-given
invariant-loop-given l = l.lines.items ≡ flat_map (λ given. given.line.items) (take l.given-index l.nodes)
