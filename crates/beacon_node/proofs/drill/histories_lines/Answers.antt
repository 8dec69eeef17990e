-- The first chain ends the run, or the second one comes behind it.
use Rattle.std.proofs.Common.{[], ◌∙◌, sym, arith}
use Rattle.spec_drill.specs.AsEvents.{events_to_come}
use Rattle.spec_drill.specs.Maker.{to_come}
use Rattle.forensics.specs.Books.{history_of}
use Rattle.beacon_node.specs.declared.follow.Side.TheVariants.{First}
use Rattle.beacon_node.specs.inside.Following.{followed_by}
use Rattle.beacon_node.proofs.Drilled.{first_over, first_told}
use Rattle.beacon_node.proofs.Following.{outside_behind}
use Rattle.beacon_node.proofs.Forensics.{ended_outside}
use Rattle.beacon_node.proofs.Openings.{first_begins, nothing_in, one_kept, second_begins, then_second}
use Rattle.beacon_node.proofs.drill.histories_lines.Goals as goal

pub follow_made-requires-clause-few : goal.follow_made-requires-clause-few
follow_made-requires-clause-few g c = one_kept c.args.histories.now.book.config c.args.histories.now.genesis c.args.histories.now.first.plain c.requires.opened.first

pub follow_made-requires-clause-begun : goal.follow_made-requires-clause-begun
follow_made-requires-clause-begun g c = nothing_in c.args.histories.now.book.config c.args.histories.now.genesis c.args.histories.now c.requires.opened 0 (omega arith)

pub follow_made-requires-clause-following : goal.follow_made-requires-clause-following
follow_made-requires-clause-following g c = first_begins c.args.histories.now.book.config c.args.histories.now.genesis c.args.histories.now c.requires.opened

pub second_lines-requires-clause-few : goal.second_lines-requires-clause-few
second_lines-requires-clause-few g c = (omega (arith, c.in-Ok.ensures.few), one_kept c.args.histories.now.book.config c.args.histories.now.genesis c.args.histories.now.second.plain c.requires.opened.second)

pub second_lines-requires-clause-genesis : goal.second_lines-requires-clause-genesis
second_lines-requires-clause-genesis g c = c.in-Ok.ensures.following.genesis_is

pub second_lines-requires-clause-begun : goal.second_lines-requires-clause-begun
second_lines-requires-clause-begun g c =
    (then_second c.args.histories.now.genesis c.args.histories.now.first.plain c.args.histories.now.second.plain c.args.histories.now.book c.follow_made.new.book c.follow_made.ensures.same
    (nothing_in c.args.histories.now.book.config c.args.histories.now.genesis c.args.histories.now c.requires.opened 1 (omega arith)) (second_begins c.args.histories.now.book.config c.args.histories.now.genesis c.args.histories.now c.requires.opened)).0

pub second_lines-requires-clause-first : goal.second_lines-requires-clause-first
unfolding history_of
second_lines-requires-clause-first g c = rw c.in-Ok.ensures.following.genesis_is c.in-Ok.ensures.following.follows

pub second_lines-requires-clause-second : goal.second_lines-requires-clause-second
second_lines-requires-clause-second g c =
    (then_second c.args.histories.now.genesis c.args.histories.now.first.plain c.args.histories.now.second.plain c.args.histories.now.book c.follow_made.new.book c.follow_made.ensures.same
    (nothing_in c.args.histories.now.book.config c.args.histories.now.genesis c.args.histories.now c.requires.opened 1 (omega arith)) (second_begins c.args.histories.now.book.config c.args.histories.now.genesis c.args.histories.now c.requires.opened)).1

pub returns-in-Ok-clause-told : goal.returns-in-Ok-clause-told
returns-in-Ok-clause-told g c =
    rw (first_told c.args.histories.now.genesis c.args.histories.now.first.plain (events_to_come 0 (to_come c.args.first_maker)) (events_to_come 0 (to_come c.args.second_maker)) (followed_by First c.follow_made.new.store.plain c.follow_made.new.book) c.in-Ok.ensures.followed)
    (rw (c.requires.opened.second ∙ sym c.requires.opened.first) at c.second_lines.ensures.told)

pub returns-in-Err-clause-told : goal.returns-in-Err-clause-told
returns-in-Err-clause-told g c =
    first_over c.args.histories.now.genesis c.args.histories.now.first.plain (events_to_come 0 (to_come c.args.first_maker)) (events_to_come 0 (to_come c.args.second_maker)) c.in-Err.status
    (followed_by First c.follow_made.new.store.plain c.follow_made.new.book) c.in-Err.ensures.followed

pub returns-in-Ok-clause-outside : goal.returns-in-Ok-clause-outside
returns-in-Ok-clause-outside g c = outside_behind [] [] c.second_lines.result c.in-Ok.ensures.outside.shelf c.second_lines.ensures.outside

pub returns-in-Err-clause-outside : goal.returns-in-Err-clause-outside
returns-in-Err-clause-outside g c = ended_outside [] c.in-Err.status c.in-Err.ensures.outside
