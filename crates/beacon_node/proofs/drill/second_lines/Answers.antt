-- The second chain is followed from genesis on, and then the book is asked.
use Rattle.std.proofs.Common.{[], ◌∙◌, refl}
use Rattle.spec_drill.specs.AsEvents.{events_to_come}
use Rattle.spec_drill.specs.Maker.{to_come}
use Rattle.forensics.specs.Books.{history_of}
use Rattle.beacon_node.specs.declared.follow.Side.TheVariants.{Second}
use Rattle.beacon_node.specs.inside.Following.{followed_by}
use Rattle.beacon_node.proofs.Drilled.{second_over, second_told}
use Rattle.beacon_node.proofs.Forensics.{ended_outside, made_outside, memory_outside}
use Rattle.beacon_node.proofs.Openings.{beside_first, second_follows, still_first, two_of}
use Rattle.beacon_node.proofs.drill.second_lines.Goals as goal

pub follow_made-requires-clause-following : goal.follow_made-requires-clause-following
follow_made-requires-clause-following g c =
    second_follows (Second c.args.first) c.args.genesis.now c.args.second.now.plain c.args.book.now refl c.requires.genesis c.requires.begun c.requires.second
    (beside_first (Second c.args.first) c.args.first.now.plain c.args.book.now refl refl c.requires.first c.requires.few.0)

pub found_lines-requires-clause-first : goal.found_lines-requires-clause-first
found_lines-requires-clause-first g c = still_first (Second c.args.first) c.args.book.now c.follow_made.new.book refl c.follow_made.ensures.same c.args.first.now.plain c.requires.first

pub found_lines-requires-clause-second : goal.found_lines-requires-clause-second
unfolding history_of
found_lines-requires-clause-second g c = rw c.in-Ok.ensures.following.genesis_is c.in-Ok.ensures.following.follows

pub returns-in-Ok-found_lines-clause-told : goal.returns-in-Ok-found_lines-clause-told
unfolding history_of
returns-in-Ok-found_lines-clause-told g c =
    second_told c.args.genesis.now c.args.second.now.plain (record { store = c.args.first.now.plain; history = history_of c.args.book.now 0 }) (Second c.args.first) refl (rw c.requires.genesis at c.requires.first.blocks) (events_to_come 0 (to_come c.args.maker))
    (followed_by (Second c.args.first) c.follow_made.new.store.plain c.follow_made.new.book) c.in-Ok-found_lines.lines.items c.in-Ok.ensures.followed
    (c.in-Ok-found_lines.ensures ∙ two_of (Second c.args.first) c.args.book.now c.follow_made.new.book refl c.follow_made.ensures.same c.args.genesis.now c.args.first.now.plain c.follow_made.new.store.plain c.requires.genesis)

pub returns-in-Err-clause-told : goal.returns-in-Err-clause-told
unfolding history_of
returns-in-Err-clause-told g c =
    second_over c.args.genesis.now c.args.second.now.plain (record { store = c.args.first.now.plain; history = history_of c.args.book.now 0 }) (Second c.args.first) refl (rw c.requires.genesis at c.requires.first.blocks) (events_to_come 0 (to_come c.args.maker))
    c.in-Err.status (followed_by (Second c.args.first) c.follow_made.new.store.plain c.follow_made.new.book) c.in-Err.ensures.followed

pub returns-in-Ok-found_lines-clause-outside : goal.returns-in-Ok-found_lines-clause-outside
returns-in-Ok-found_lines-clause-outside g c = made_outside [] _ _ c.in-Ok.ensures.outside

pub returns-in-Err-clause-outside : goal.returns-in-Err-clause-outside
returns-in-Err-clause-outside g c = ended_outside [] c.in-Err.status c.in-Err.ensures.outside

pub returns-in-Err-found_lines-clause-outside : goal.returns-in-Err-found_lines-clause-outside
returns-in-Err-found_lines-clause-outside g c = memory_outside [] _ c.in-Ok.ensures.outside
