-- One more group goes behind those that were cut off.
use Rattle.std.proofs.Common.{◌≡◌, ◌∙◌, ◌*◌, take, drop, arith}
use Rattle.validator_registry.proofs.GroupTrees.{groups_begun, groups_cut, next_piece}
use Rattle.validator_registry.proofs.building.cut.Goals as goal

pub groups-init : goal.groups-init
groups-init c =
    let begun = groups_begun c.args.validators.now c.in_ok-groups.groups.items c.in_ok-groups.ensures.items in
    record { placed = begun.0; so_far = begun.1; groups = begun.2; count = begun.3 }

pub groups-preserved : goal.groups-preserved
groups-preserved c =
    let piece : c.in_ok-group.group ≡ take 16 (drop (16 * c.groups.k) c.args.validators.now) =
    c.in_ok-group.ensures ∙ next_piece c.args.validators.now c.groups.k c.min-end.result c.min-end.ensures in
    let more =
    groups_cut c.args.validators.now c.groups.groups.items c.push.new.self.items c.in_ok-group.group c.groups.k
    c.groups.invariant.placed c.groups.invariant.so_far c.groups.invariant.groups c.groups.invariant.count
    (omega (arith, c.groups-test.true, c.div_ceil-count.ensures)) piece c.in_ok-push.ensures.items in
    record { placed = more.0; so_far = more.1; groups = more.2; count = more.3 }
