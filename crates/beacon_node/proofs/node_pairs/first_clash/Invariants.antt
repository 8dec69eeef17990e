-- No block that was looked at clashes.
use Rattle.std.proofs.Common.{◌≡◌, None, take}
use Rattle.spec_forensics.specs.Clash.{first_accepted}
use Rattle.spec_replay.specs.Nodes.{first_clash}
use Rattle.beacon_node.specs.inside.Nodes.{history_in}
use Rattle.beacon_node.proofs.node_pairs.first_clash.Given as goal

abbrev pub invariant-loop-added : goal.invariant-loop-added
invariant-loop-added l = first_clash (first_accepted l.genesis (history_in l.first.blocks.items)) (history_in (take l.added-index l.second.blocks.items)) ≡ None
