use Rattle.std.proofs.Common.{ap}
use Rattle.block_array.specs.PlainArray.{PlainArray}
use Rattle.fork_store.proofs.Following.{boost_fits, boost_other}
use Rattle.fork_store.proofs.follow.follow_boost.Goals as goal

pub boost-requires : goal.boost-requires
boost-requires c =
    boost_fits c.args.store.now c.args.told.now c.args.array.now c.args.store.now.proposer_boost_root c.boosted_node.result c.requires.fed
    (rw (← c.blocks-2.ensures, ← c.boost_root-root.ensures) c.boosted_node.ensures)

pub returns-clause-array : goal.returns-clause-array
returns-clause-array c =
    boost_other c.args.store.now c.args.told.now c.args.array.now c.boost.new.self c.boosted_node.result c.requires.fed c.requires.justified c.requires.finalized
    (rw (← c.blocks-2.ensures, ← c.boost_root-root.ensures) c.boosted_node.ensures) c.boost.ensures

pub returns-clause-balances_set_stays : goal.returns-clause-balances_set_stays
returns-clause-balances_set_stays c = ap (λ (a : PlainArray). a.balances_set) c.boost.ensures
