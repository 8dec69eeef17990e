-- The blocks are looked at one after the other.
use Rattle.beacon_node.proofs.Pairing.{block_is, found_here, never_missing, none_so_far, nothing_found}
use Rattle.beacon_node.proofs.node_pairs.first_clash.Goals as goal

pub loop-added-init : goal.loop-added-init
loop-added-init c = nothing_found _

pub unreachable-requires : goal.unreachable-requires
unreachable-requires c =
    never_missing c.args.config.now c.args.genesis.now c.args.second.now c.requires.second.is c.loop-added.added-index c.added-item.result
    (rw c.deref-added-items.ensures.value at c.loop-added-test.true) (rw c.deref-added-items.ensures.value at c.added-item.is) c.in_default.ensures

pub returns-in-Some-other_block : goal.returns-in-Some-other_block
returns-in-Some-other_block c =
    let low = rw c.deref-added-items.ensures.value at c.loop-added-test.true in
    let here = rw c.deref-added-items.ensures.value at c.added-item.is in
    let same = block_is c.args.config.now c.args.genesis.now c.args.second.now c.requires.second.is c.loop-added.added-index c.added-item.result low here c.in-Some.block.now c.in-Some.ensures in
    found_here c.args.config.now c.args.genesis.now c.args.second.now c.requires.second.is c.loop-added.added-index c.added-item.result low here _
    c.in-Some-other_block.place c.loop-added.invariant (rw (same, c.requires.first.is.follows.blocks) at c.in-Some-other_block.ensures)

pub loop-added-preserved : goal.loop-added-preserved
loop-added-preserved c =
    let low = rw c.deref-added-items.ensures.value at c.loop-added-test.true in
    let here = rw c.deref-added-items.ensures.value at c.added-item.is in
    let same = block_is c.args.config.now c.args.genesis.now c.args.second.now c.requires.second.is c.loop-added.added-index c.added-item.result low here c.in-Some.block.now c.in-Some.ensures in
    none_so_far c.args.config.now c.args.genesis.now c.args.second.now c.requires.second.is c.loop-added.added-index c.added-item.result low here _
    c.loop-added.invariant (rw (same, c.requires.first.is.follows.blocks) at c.in_default-other_block.ensures)
