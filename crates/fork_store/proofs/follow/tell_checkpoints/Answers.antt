use Rattle.std.proofs.Common.{ap}
use Rattle.block_array.specs.PlainArray.{PlainArray}
use Rattle.fork_store.proofs.Following.{fed_other}
use Rattle.fork_store.proofs.follow.tell_checkpoints.Goals as goal

pub returns-clause-fed : goal.returns-clause-fed
returns-clause-fed c =
    fed_other c.args.store.now c.args.before.now c.args.array.now c.set_checkpoints.new.self c.in-Some.node c.requires.fed
    (rw (← c.blocks-2.ensures, ← c.justified-justified.ensures.same) c.in-Some.ensures)
    (rw (← c.justified-justified.ensures.same, ← c.finalized.ensures.same) c.set_checkpoints.ensures)

pub returns-clause-balances_set_stays : goal.returns-clause-balances_set_stays
returns-clause-balances_set_stays c = ap (λ (a : PlainArray). a.balances_set) c.set_checkpoints.ensures
