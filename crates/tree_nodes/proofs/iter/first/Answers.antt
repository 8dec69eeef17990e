-- What is first in the first node is first in the path.
use Rattle.std.proofs.Common.{List, [], ◌++◌, map, sym, ap, ◌∙◌, arith}
use Rattle.tree_nodes.specs.inside.Walks.{waiting}
use Rattle.tree_nodes.proofs.Walks.{get_some, none_ahead, first_ahead}
use Rattle.std.proofs.lemmas.Grind.{common_steps}
use Rattle.tree_nodes.proofs.iter.first.Goals as goal

pub returns-then-from-ge-ROOM-clause-enters : goal.returns-then-from-ge-ROOM-clause-enters
returns-then-from-ge-ROOM-clause-enters g c =
    let behind = c.if-from-ge-ROOM.true in
    let none = none_ahead c.args.path.now c.args.from (omega (arith, c.requires.room)) in
    (none ∙ sym (ap (λ (xs : List _). xs ++ []) none), λ nothing. (none, none))

pub returns-clause-enters : goal.returns-clause-enters
returns-clause-enters g c =
    let before = c.if-from-ge-ROOM.false in
    let node = get_some c.args.path.now c.args.from c.index-path-from.result (omega (arith, c.requires.room)) c.index-path-from.is in
    first_ahead c.args.path.now c.args.from c.index-path-from.result (map (λ leaf. leaf.value.item) c.enter.result.0.now) (waiting c.enter.result.1 c.enter.new.path) node c.requires.path c.enter.ensures.enters

pub enter-requires-clause-joins : goal.enter-requires-clause-joins
enter-requires-clause-joins g c = grind (arith, common_steps)

pub enter-requires-clause-low : goal.enter-requires-clause-low
enter-requires-clause-low g c = grind (arith, common_steps)

pub enter-requires-clause-path : goal.enter-requires-clause-path
enter-requires-clause-path g c = grind (arith, common_steps)
