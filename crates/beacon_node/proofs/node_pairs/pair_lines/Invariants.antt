-- So far the lines of these nodes with those behind them were made.
use Rattle.std.proofs.Common.{[], drop, map}
use Rattle.spec_replay.specs.Nodes.{all_or_end, pair_of, pairs_of}
use Rattle.beacon_node.specs.inside.Nodes.{LinesSoFar, plain_node}
use Rattle.beacon_node.proofs.node_pairs.pair_lines.Given as goal

abbrev pub invariant-loop-index : goal.invariant-loop-index
invariant-loop-index l = LinesSoFar l.lines.items (all_or_end (map (pair_of l.genesis) (pairs_of (map (λ given. plain_node [] given.node) (drop l.index l.nodes)))))
    (all_or_end (map (pair_of l.genesis) (pairs_of (map (λ given. plain_node [] given.node) l.nodes))))
