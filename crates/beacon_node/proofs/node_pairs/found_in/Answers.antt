-- The book takes the blocks of both nodes, and then it is asked.
use Rattle.std.proofs.Common.{◌∙◌, sym}
use Rattle.beacon_node.proofs.Pairing.{as_parts, nothing_begun}
use Rattle.beacon_node.proofs.node_pairs.found_in.Goals as goal

pub add_blocks-requires-clause-begun : goal.add_blocks-requires-clause-begun
add_blocks-requires-clause-begun c = (nothing_begun c.args.book.now.config c.args.book.now.genesis _ c.requires.begun).2

pub add_blocks-requires-clause-order : goal.add_blocks-requires-clause-order
add_blocks-requires-clause-order c = λ first. (nothing_begun c.args.book.now.config c.args.book.now.genesis _ c.requires.begun).4

pub add_blocks-requires-2-clause-is : goal.add_blocks-requires-2-clause-is
add_blocks-requires-2-clause-is c = rw (c.add_blocks.ensures.config, c.add_blocks.ensures.genesis) c.requires.second

pub add_blocks-requires-2-clause-begun : goal.add_blocks-requires-2-clause-begun
add_blocks-requires-2-clause-begun c = c.add_blocks.ensures.other ∙ (nothing_begun c.args.book.now.config c.args.book.now.genesis _ c.requires.begun).3

pub add_blocks-requires-2-clause-apart : goal.add_blocks-requires-2-clause-apart
add_blocks-requires-2-clause-apart c =
    let added = sym (as_parts c.add_blocks.new.book).0 ∙ c.in_ok-add_blocks.ensures.added in
    λ second. rw (c.add_blocks.ensures.genesis, added) c.requires.apart

pub find-requires-clause-first : goal.find-requires-clause-first
find-requires-clause-first c =
    let added = c.add_blocks-2.ensures.other ∙ c.in_ok-add_blocks.ensures.added in
    rw (added, c.add_blocks-2.ensures.config, c.add_blocks-2.ensures.genesis, c.add_blocks.ensures.config, c.add_blocks.ensures.genesis) c.requires.first.follows

pub find-requires-clause-second : goal.find-requires-clause-second
find-requires-clause-second c =
    rw (c.in_ok-add_blocks-2.ensures.added, c.add_blocks-2.ensures.config, c.add_blocks-2.ensures.genesis, c.add_blocks.ensures.config, c.add_blocks.ensures.genesis) c.requires.second.follows

pub returns : goal.returns
returns c =
    let added = c.add_blocks-2.ensures.other ∙ c.in_ok-add_blocks.ensures.added in
    rw (added, c.in_ok-add_blocks-2.ensures.added, c.add_blocks-2.ensures.genesis, c.add_blocks.ensures.genesis) at c.find.ensures
