-- Each block is added behind those before it.
use Rattle.std.proofs.Common.{◌∙◌, sym}
use Rattle.spec_forensics.specs.Clash.{first_accepted}
use Rattle.beacon_node.proofs.Pairing.{all_in, block_is, clear_to_add, entry_apart, entry_clear, entry_step, entry_watches, first_of, never_missing, one_in, one_more_in, second_of}
use Rattle.beacon_node.proofs.node_pairs.add_blocks.Goals as goal

pub unreachable-requires : goal.unreachable-requires
unreachable-requires c =
    never_missing c.args.book.now.config c.args.book.now.genesis c.args.node.now c.requires.is c.loop-added.added-index c.added-item.result
    (rw c.deref-added-items.ensures.value at c.loop-added-test.true) (rw c.deref-added-items.ensures.value at c.added-item.is) c.in_default.ensures

pub add-requires-clause-order : goal.add-requires-clause-order
add-requires-clause-order c = λ first. second_of c.args.which c.args.book.now c.loop-added.book first c.loop-added.invariant.other ∙ c.requires.order first

pub add-requires-clause-genesis : goal.add-requires-clause-genesis
add-requires-clause-genesis c =
    entry_watches c.args.book.now.config c.args.book.now.genesis c.args.node.now c.requires.is c.loop-added.added-index c.added-item.result
    (rw c.deref-added-items.ensures.value at c.loop-added-test.true) (rw c.deref-added-items.ensures.value at c.added-item.is) ∙ sym c.loop-added.invariant.genesis

pub add-requires-clause-step : goal.add-requires-clause-step
add-requires-clause-step c =
    let low = rw c.deref-added-items.ensures.value at c.loop-added-test.true in
    let here = rw c.deref-added-items.ensures.value at c.added-item.is in
    let same = block_is c.args.book.now.config c.args.book.now.genesis c.args.node.now c.requires.is c.loop-added.added-index c.added-item.result low here c.in-Some.block.now c.in-Some.ensures in
    rw (c.loop-added.invariant.added, c.loop-added.invariant.config, c.loop-added.invariant.genesis, same)
    (entry_step c.args.book.now.config c.args.book.now.genesis c.args.node.now c.requires.is c.loop-added.added-index c.added-item.result low here)

pub add-requires-clause-clear : goal.add-requires-clause-clear
add-requires-clause-clear c =
    let low = rw c.deref-added-items.ensures.value at c.loop-added-test.true in
    let here = rw c.deref-added-items.ensures.value at c.added-item.is in
    let same = block_is c.args.book.now.config c.args.book.now.genesis c.args.node.now c.requires.is c.loop-added.added-index c.added-item.result low here c.in-Some.block.now c.in-Some.ensures in
    clear_to_add c.args.which c.loop-added.book c.added-item.result.root c.in-Some.block.now c.requires.which
    (λ first. second_of c.args.which c.args.book.now c.loop-added.book first c.loop-added.invariant.other ∙ c.requires.order first)
    (rw (c.loop-added.invariant.added, c.loop-added.invariant.genesis, same)
    (entry_clear c.args.book.now.config c.args.book.now.genesis c.args.node.now c.requires.is c.loop-added.added-index c.added-item.result low here))
    (λ second. rw (c.loop-added.invariant.genesis, first_of c.args.which c.args.book.now c.loop-added.book second c.loop-added.invariant.other, same)
    (entry_apart c.args.book.now.config c.args.book.now.genesis c.args.node.now c.requires.is c.loop-added.added-index c.added-item.result low here
    (first_accepted c.args.book.now.genesis c.args.book.now.first) (c.requires.apart second)))

pub loop-added-preserved : goal.loop-added-preserved
loop-added-preserved c =
    let low = rw c.deref-added-items.ensures.value at c.loop-added-test.true in
    let here = rw c.deref-added-items.ensures.value at c.added-item.is in
    let same = block_is c.args.book.now.config c.args.book.now.genesis c.args.node.now c.requires.is c.loop-added.added-index c.added-item.result low here c.in-Some.block.now c.in-Some.ensures in
    let one = one_in c.args.which c.loop-added.book c.add.new.self _ c.requires.which c.in_ok-add.ensures in
    record {
      added = one_more_in c.args.which c.loop-added.book c.add.new.self c.args.node.now.blocks.items c.loop-added.added-index c.added-item.result c.in-Some.block.now c.requires.which low here same c.loop-added.invariant.added c.in_ok-add.ensures;
      other = one.other ∙ c.loop-added.invariant.other;
      config = one.config ∙ c.loop-added.invariant.config;
      genesis = one.genesis ∙ c.loop-added.invariant.genesis;
    }

pub returns-clause-added : goal.returns-clause-added
returns-clause-added c = c.loop-added.invariant.added ∙ all_in c.args.node.now.blocks.items c.loop-added.added-index (rw c.deref-added-items.ensures.value at c.loop-added-test.false)
