-- The next group of the tree goes behind the others.
use Rattle.std.proofs.Common.{◌≡◌, ◌∙◌, ◌∷◌, drop, sym, arith}
use Rattle.tree_nodes.proofs.Climbs.{drop_next}
use Rattle.validator_registry.proofs.GroupTrees.{placed_first, placed_next, some_left}
use Rattle.validator_registry.proofs.building.shared.Goals as goal

pub groups-init : goal.groups-init
groups-init c = record {
  rest = c.iter-walk.ensures;
  placed = placed_first c.new-groups.result.items c.new-groups.ensures.items;
}

pub unreachable-requires : goal.unreachable-requires
unreachable-requires c =
    some_left c.args.tree.now.1 c.groups.k (omega (arith, c.groups-test.true, c.len-k-end.ensures.len))
    (sym c.groups.invariant.rest ∙ c.in-None.ensures.steps.0)

pub groups-preserved : goal.groups-preserved
groups-preserved c =
    let next : drop c.groups.k c.args.tree.now.1 ≡ c.in-Some.group.now ∷ c.next.new.self =
    sym c.groups.invariant.rest ∙ c.in-Some.ensures.steps in
    record {
      rest = sym (drop_next c.args.tree.now.1 c.groups.k c.in-Some.group.now c.next.new.self next);
      placed =
          placed_next c.args.tree.now.1 c.groups.k c.in-Some.group.now c.in_ok-share-in-Some.field-0 c.next.new.self
          c.groups.groups.items c.push.new.self.items next c.groups.invariant.placed c.in_ok-share-in-Some.ensures
          c.in_ok-push-in-Some.ensures.items;
    }
