-- So far these nodes were delivered their events.
use Rattle.std.proofs.Common.{◌≡◌, ◌-◌, map}
use Rattle.std.specs.Prelude.{All, flat_map}
use Rattle.std.specs.List.{range_with_len}
use Rattle.spec_fork_choice.specs.GetForkchoiceStore.{genesis_store}
use Rattle.spec_replay.specs.Nodes.{all_or_end, node_line, node_of}
use Rattle.beacon_node.specs.inside.Nodes.{HasRun, behind_ones, node_given}
use Rattle.beacon_node.proofs.nodes.all_nodes.Given as goal

abbrev pub invariant-loop-node : goal.invariant-loop-node
invariant-loop-node l = record {
  left : all_or_end (map (node_of l.words.number (genesis_store l.config l.genesis) l.first l.second) (range_with_len 0 l.words.count))
      ≡ behind_ones (map (node_given l.words.number l.first l.second) l.nodes.items) (all_or_end (map (node_of l.words.number (genesis_store l.config l.genesis) l.first l.second) (range_with_len l.node (l.words.count - l.node))));
  lines : flat_map (λ given. given.line.items) l.nodes.items ≡ flat_map (node_line (genesis_store l.config l.genesis)) (map (node_given l.words.number l.first l.second) l.nodes.items);
  each : All (λ given. HasRun l.config l.genesis given.node) l.nodes.items;
}
