-- What the book finds is told.
use Rattle.std.proofs.Common.{[]}
use Rattle.beacon_node.specs.inside.Nodes.{plain_node}
use Rattle.beacon_node.proofs.Pairing.{pair_told}
use Rattle.beacon_node.proofs.node_pairs.found_line.Goals as goal

pub returns-in-Ok-pair_text-clause-line : goal.returns-in-Ok-pair_text-clause-line
returns-in-Ok-pair_text-clause-line c =
    pair_told c.args.genesis.now (plain_node [] c.args.first.now) (plain_node [] c.args.second.now) c.in-Ok.findings c.in-Ok-pair_text.line.items c.requires.apart c.in-Ok.ensures.found c.in-Ok-pair_text.ensures
