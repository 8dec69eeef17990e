-- A spot has its node, or is given the first of the others.
use Rattle.std.proofs.Common.{length, ap, arith}
use Rattle.tree_nodes.proofs.Plans.{node_some, node_none, some_gaps, none_gaps}
use Rattle.tree_nodes.proofs.several.node_at.Goals as goal

pub next_of-requires : goal.next_of-requires
next_of-requires g c = omega (arith, none_gaps c.args.spot c.in-None.is, c.requires)

pub returns-in-Some-clause-node : goal.returns-in-Some-clause-node
returns-in-Some-clause-node g c = λ spots. node_some c.args.spot c.in-Some.node spots _ c.in-Some.is

pub returns-in-Some-clause-count : goal.returns-in-Some-clause-count
returns-in-Some-clause-count g c = omega (arith, some_gaps c.args.spot c.in-Some.node c.in-Some.is)

pub returns-in-None-clause-node : goal.returns-in-None-clause-node
returns-in-None-clause-node g c = λ spots. node_none c.args.spot c.next_of.result spots _ _ c.in-None.is c.next_of.ensures

pub returns-in-None-clause-count : goal.returns-in-None-clause-count
returns-in-None-clause-count g c =
    let first = ap length c.next_of.ensures in
    omega (arith, none_gaps c.args.spot c.in-None.is, first)
