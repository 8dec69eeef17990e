-- So far these lines were made.
use Rattle.std.proofs.Common.{[], drop, map}
use Rattle.spec_replay.specs.Nodes.{all_or_end, pair_of}
use Rattle.beacon_node.specs.inside.Nodes.{LinesSoFar, plain_node}
use Rattle.beacon_node.proofs.node_pairs.lines_with.Given as goal

abbrev pub invariant-loop-second : goal.invariant-loop-second
invariant-loop-second l = LinesSoFar l.lines.items (all_or_end (map (λ given. pair_of l.genesis (plain_node [] l.first, plain_node [] given.node)) (drop l.second-index l.others)))
    (all_or_end (map (λ given. pair_of l.genesis (plain_node [] l.first, plain_node [] given.node)) l.others))
