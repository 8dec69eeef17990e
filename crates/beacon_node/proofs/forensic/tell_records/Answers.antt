-- The first record is followed, and then the second one comes.
use Rattle.std.proofs.Common.{[], ◌∷◌, ◌∙◌, sym, arith}
use Rattle.forensics.specs.Books.{history_of}
use Rattle.beacon_node.specs.declared.follow.Side.TheVariants.{First}
use Rattle.beacon_node.specs.inside.Following.{followed_by}
use Rattle.beacon_node.proofs.Forensics.{first_goes_on, first_stops, follows_outside}
use Rattle.beacon_node.proofs.Openings.{first_begins, nothing_in, one_kept, second_begins, then_second}
use Rattle.one_chain.proofs.Outside.{only_shelf, outside_then}
use Rattle.beacon_node.proofs.forensic.tell_records.Goals as goal

pub follow_record-requires-clause-few : goal.follow_record-requires-clause-few
follow_record-requires-clause-few g c = one_kept c.args.histories.now.book.config c.args.histories.now.genesis c.args.histories.now.first.plain c.requires.opened.first

pub follow_record-requires-clause-new : goal.follow_record-requires-clause-new
follow_record-requires-clause-new g c = nothing_in c.args.histories.now.book.config c.args.histories.now.genesis c.args.histories.now c.requires.opened 0 (omega arith)

pub follow_record-requires-clause-following : goal.follow_record-requires-clause-following
follow_record-requires-clause-following g c = first_begins c.args.histories.now.book.config c.args.histories.now.genesis c.args.histories.now c.requires.opened

pub tell_second-requires-clause-few : goal.tell_second-requires-clause-few
tell_second-requires-clause-few g c = (omega (arith, c.in-Ok.ensures.few), one_kept c.args.histories.now.book.config c.args.histories.now.genesis c.args.histories.now.second.plain c.requires.opened.second)

pub tell_second-requires-clause-genesis : goal.tell_second-requires-clause-genesis
tell_second-requires-clause-genesis g c = c.in-Ok.ensures.following.genesis_is

pub tell_second-requires-clause-new : goal.tell_second-requires-clause-new
tell_second-requires-clause-new g c =
    (then_second c.args.histories.now.genesis c.args.histories.now.first.plain c.args.histories.now.second.plain c.args.histories.now.book c.follow_record.new.book c.follow_record.ensures.same
    (nothing_in c.args.histories.now.book.config c.args.histories.now.genesis c.args.histories.now c.requires.opened 1 (omega arith)) (second_begins c.args.histories.now.book.config c.args.histories.now.genesis c.args.histories.now c.requires.opened)).0

pub tell_second-requires-clause-first : goal.tell_second-requires-clause-first
unfolding history_of
tell_second-requires-clause-first g c = rw c.in-Ok.ensures.following.genesis_is c.in-Ok.ensures.following.follows

pub tell_second-requires-clause-second : goal.tell_second-requires-clause-second
tell_second-requires-clause-second g c =
    (then_second c.args.histories.now.genesis c.args.histories.now.first.plain c.args.histories.now.second.plain c.args.histories.now.book c.follow_record.new.book c.follow_record.ensures.same
    (nothing_in c.args.histories.now.book.config c.args.histories.now.genesis c.args.histories.now c.requires.opened 1 (omega arith)) (second_begins c.args.histories.now.book.config c.args.histories.now.genesis c.args.histories.now c.requires.opened)).1

pub returns-in-Ok-clause-answers : goal.returns-in-Ok-clause-answers
returns-in-Ok-clause-answers g c =
    first_goes_on c.args.report c.args.histories.now.genesis c.args.histories.now.first.plain c.args.files.now.first.now c.args.files.now.second.now (followed_by First c.follow_record.new.store.plain c.follow_record.new.book) c.tell_second.result _ _ _ _ _ c.in-Ok.ensures.followed
    (rw (c.requires.opened.second ∙ sym c.requires.opened.first) at c.tell_second.ensures.answers)

pub returns-in-Err-clause-answers : goal.returns-in-Err-clause-answers
returns-in-Err-clause-answers g c =
    first_stops c.args.report c.args.histories.now.genesis c.args.histories.now.first.plain c.args.files.now.first.now c.args.files.now.second.now c.in-Err.status (followed_by First c.follow_record.new.store.plain c.follow_record.new.book) _ _ _ c.in-Err.ensures.followed

pub returns-in-Err-clause-command : goal.returns-in-Err-clause-command
returns-in-Err-clause-command g c = c.in-Err.ensures.outside.others.0

pub returns-in-Ok-clause-outside : goal.returns-in-Ok-clause-outside
returns-in-Ok-clause-outside g c = outside_then (c.args.files.now.first.now ∷ []) (c.args.files.now.second.now ∷ []) (only_shelf c.in-Ok.ensures.outside.shelf) c.tell_second.ensures.outside

pub returns-in-Err-clause-outside : goal.returns-in-Err-clause-outside
returns-in-Err-clause-outside g c = follows_outside (c.args.files.now.first.now ∷ []) (c.args.files.now.second.now ∷ []) c.in-Err.status c.in-Err.ensures.outside

pub returns-in-Err-clause-reports : goal.returns-in-Err-clause-reports
returns-in-Err-clause-reports g c = λ is. absurd (c.in-Err.ensures.outside.others.2 is)
