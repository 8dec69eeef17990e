use Rattle.std.proofs.Common.{◌∙◌, sym, ap}
use Rattle.fork_store.specs.declared.follow.Told.{Told}
use Rattle.fork_store.proofs.Settling.{settle_array, settle_moved, settle_kept}
use Rattle.fork_store.proofs.on_block.settle_whole.Goals as goal

pub feed-requires-clause-array : goal.feed-requires-clause-array
feed-requires-clause-array c = rw c.told_of-before.ensures (settle_array c.args.store.now c.args.slot c.args.root c.args.facts.justified c.args.facts.finalized c.settle.new.store c.settle.ensures c.args.array.now c.requires.array)

pub feed-requires-clause-moved : goal.feed-requires-clause-moved
feed-requires-clause-moved c = rw c.told_of-before.ensures (settle_moved c.args.store.now c.args.slot c.args.root c.args.facts.justified c.args.facts.finalized c.settle.new.store c.settle.ensures)

pub follow-requires-clause-kept : goal.follow-requires-clause-kept
follow-requires-clause-kept c = settle_kept c.args.store.now c.args.slot c.args.root c.args.facts.justified c.args.facts.finalized c.settle.new.store c.settle.ensures c.args.array.now c.requires.array c.requires.few c.requires.kept c.requires.justified

pub returns-clause-balances_set_stays : goal.returns-clause-balances_set_stays
returns-clause-balances_set_stays c = λ is. c.follow.ensures.balances_set_stays ∙ c.feed.ensures.balances_set_stays (is ∙ sym (ap (λ (t : Told). t.justified) c.told_of-before.ensures))
