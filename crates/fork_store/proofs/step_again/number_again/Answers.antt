-- A kept block that is looked at is in the keeper, and the one that is found is behind the first.
use Rattle.std.proofs.Common.{rules, arith}
use Rattle.fork_store.proofs.Again.{kept_again}
use Rattle.fork_store.proofs.Keepers.{length_held}
use Rattle.fork_store.proofs.step_again.number_again.Goals as goal

pub block-requires : goal.block-requires
block-requires c =
    let held = length_held c.args.keeper.now.blocks c.args.blocks.now c.requires.keeper in
    let inside = c.loop-number-test.true in
    let last = c.min-last.ensures in
    let all = c.len.ensures in
    omega (arith, held, inside, last, all)

pub returns-then-equals : goal.returns-then-equals
returns-then-equals c =
    let first = c.loop-number.auto.number in
    kept_again c.args.keeper.now.blocks c.args.blocks.now c.requires.keeper c.loop-number.number c.block.result.now c.args.block.now (omega (arith, first)) c.block.ensures (search rules)
