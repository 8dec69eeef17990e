-- As it is, or twice as large.
use Rattle.std.proofs.Common.{◌*◌, ◌≤◌, ◌^◌, length, arith}
use Rattle.validator_registry.proofs.RegistryTrees.{doubled_room, few_groups}
use Rattle.validator_registry.proofs.registry.with_room.Goals as goal

pub overflow_mul-len : goal.overflow_mul-len
overflow_mul-len g c =
    let few : 16 * length c.args.tree.now.1 ≤ 2 ^ 40 = few_groups _ _ _ c.requires.tree in
    omega (arith, c.len.ensures.len)

pub returns-clause-room : goal.returns-clause-room
returns-clause-room g c = doubled_room _ c.args.tree.now c.in_ok-doubled.field-0 c.args.depth c.args.len c.requires.tree c.in_ok-doubled.ensures.tree c.requires.len
