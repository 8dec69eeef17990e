-- The store accepted a block or another event, refused the event, or the run ends at it.
use Rattle.beacon_node.specs.inside.Following.{followed_by, others_of, which_of}
use Rattle.one_chain.specs.inside.Progress.{outcome_of}
use Rattle.beacon_node.proofs.Following.{block_follows, block_goes_on, block_stops, block_to_add, clash_ends, limit_ends, other_followed, other_follows, refused_followed, watch_saw}
use Rattle.beacon_node.proofs.follow.follow_watched.Goals as goal

pub follow_block-requires-clause-watched : goal.follow_block-requires-clause-watched
follow_block-requires-clause-watched c =
    watch_saw c.args.genesis.now c.args.book.now _ _ c.in-Ok-Block.given.entered c.requires.following.genesis_is c.requires.new (rw c.in-Ok-Block.field-0-is at c.in-Ok-Block.ensures.shown)

pub follow_block-requires-clause-added : goal.follow_block-requires-clause-added
follow_block-requires-clause-added c =
    block_to_add c.args.side c.args.genesis.now c.args.number c.args.event.now.kind c.args.event.now.payload c.args.store.now.plain c.visit_event.new.self.plain c.args.book.now c.requires.following
    (rw c.as_slice.ensures at c.are_bytes.ensures) c.in-Ok-Block.given (rw (c.in-Ok-Block.field-0-is, c.as_slice-2.ensures) at c.in-Ok-Block.ensures.exact)

pub returns-in-Ok-Block-clause-following : goal.returns-in-Ok-Block-clause-following
returns-in-Ok-Block-clause-following c =
    block_follows c.args.side c.args.genesis.now c.args.number c.args.event.now.kind c.args.event.now.payload c.args.store.now.plain c.visit_event.new.self.plain c.args.book.now c.requires.following
    (rw c.as_slice.ensures at c.are_bytes.ensures) c.in-Ok-Block.given (rw (c.in-Ok-Block.field-0-is, c.as_slice-2.ensures) at c.in-Ok-Block.ensures.exact) c.follow_block.new.store.plain c.follow_block.new.book c.follow_block.ensures.store
    c.follow_block.result c.follow_block.ensures.same c.follow_block.ensures.followed

pub returns-in-Ok-Block-clause-followed : goal.returns-in-Ok-Block-clause-followed
returns-in-Ok-Block-clause-followed c =
    block_goes_on c.args.side c.args.genesis.now c.args.number c.args.event.now.kind c.args.event.now.payload c.args.store.now.plain c.visit_event.new.self.plain c.args.book.now c.requires.following
    (rw c.as_slice.ensures at c.are_bytes.ensures) c.in-Ok-Block.given (rw (c.in-Ok-Block.field-0-is, c.as_slice-2.ensures) at c.in-Ok-Block.ensures.exact) c.follow_block.new.store.plain c.follow_block.new.book c.follow_block.ensures.store
    c.follow_block.result c.follow_block.ensures.followed

pub returns-in-Ok-Block-clause-over : goal.returns-in-Ok-Block-clause-over
returns-in-Ok-Block-clause-over c =
    block_stops c.args.side c.args.genesis.now c.args.number c.args.event.now.kind c.args.event.now.payload c.args.store.now.plain c.visit_event.new.self.plain c.args.book.now c.requires.following
    (rw c.as_slice.ensures at c.are_bytes.ensures) c.in-Ok-Block.given (rw (c.in-Ok-Block.field-0-is, c.as_slice-2.ensures) at c.in-Ok-Block.ensures.exact) c.follow_block.new.store.plain c.follow_block.new.book c.follow_block.ensures.store
    c.follow_block.result c.follow_block.ensures.over

pub returns-in-Ok-Other-clause-following : goal.returns-in-Ok-Other-clause-following
returns-in-Ok-Other-clause-following c =
    other_follows c.args.side c.args.genesis.now c.args.number c.args.event.now.kind c.args.event.now.payload c.args.store.now.plain c.visit_event.new.self.plain c.args.book.now c.requires.following
    (rw c.as_slice.ensures at c.are_bytes.ensures) (rw (c.in-Ok-Other.field-0-is, c.as_slice-2.ensures) at c.in-Ok-Other.ensures.exact)

pub returns-in-Ok-Other-clause-followed : goal.returns-in-Ok-Other-clause-followed
returns-in-Ok-Other-clause-followed c =
    other_followed (which_of c.args.side) (others_of c.args.side) c.args.number (followed_by c.args.side c.args.store.now.plain c.args.book.now) (outcome_of c.args.store.now.plain c.args.event.now) c.visit_event.new.self.plain
    (rw (c.in-Ok-Other.field-0-is, c.as_slice-2.ensures) at c.in-Ok-Other.ensures.exact)

pub returns-in-Err-Refused-clause-followed : goal.returns-in-Err-Refused-clause-followed
returns-in-Err-Refused-clause-followed c =
    let exact = rw (c.in-Err-Refused.field-0-is, c.as_slice-2.ensures) at c.in-Err-Refused.ensures.exact in
    refused_followed (which_of c.args.side) (others_of c.args.side) c.args.number (followed_by c.args.side c.args.store.now.plain c.args.book.now) (outcome_of c.args.store.now.plain c.args.event.now) _ c.visit_event.new.self.plain exact.1 exact.0

pub returns-in-Err-Limit-clause-over : goal.returns-in-Err-Limit-clause-over
returns-in-Err-Limit-clause-over c =
    let exact = rw (c.in-Err-Limit.field-0-is, c.as_slice-2.ensures) at c.in-Err-Limit.ensures.exact in
    rw (c.limited.ensures.status, c.in-Err-Limit.field-0-is) (limit_ends (which_of c.args.side) (others_of c.args.side) c.args.number (followed_by c.args.side c.args.store.now.plain c.args.book.now) (outcome_of c.args.store.now.plain c.args.event.now) c.in-Err-Limit.limit exact.1)

pub returns-in-Err-Clash-clause-over : goal.returns-in-Err-Clash-clause-over
returns-in-Err-Clash-clause-over c =
    let exact = rw (c.in-Err-Clash.field-0-is, c.as_slice-2.ensures) at c.in-Err-Clash.ensures.exact in
    rw (c.clashed.ensures.status, c.in-Err-Clash.field-0-is) (clash_ends (which_of c.args.side) (others_of c.args.side) c.args.number (followed_by c.args.side c.args.store.now.plain c.args.book.now) (outcome_of c.args.store.now.plain c.args.event.now) c.in-Err-Clash.kind exact.1)
