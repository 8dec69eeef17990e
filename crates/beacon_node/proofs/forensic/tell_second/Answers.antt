-- The second record is followed from genesis on, and then what the book finds is written.
use Rattle.std.proofs.Common.{[], ◌∷◌, refl}
use Rattle.forensics.specs.Books.{history_of}
use Rattle.beacon_node.specs.declared.follow.Side.TheVariants.{Second}
use Rattle.beacon_node.specs.inside.Following.{followed_by}
use Rattle.beacon_node.proofs.Forensics.{follows_outside, second_concludes, second_stops}
use Rattle.beacon_node.proofs.Openings.{beside_first, judge_of, second_follows, still_first}
use Rattle.one_chain.proofs.Whole.{concludes_outside}
use Rattle.beacon_node.proofs.forensic.tell_second.Goals as goal

pub follow_record-requires-clause-following : goal.follow_record-requires-clause-following
follow_record-requires-clause-following g c =
    second_follows (Second c.args.first) c.args.genesis.now c.args.second.now.plain c.args.book.now refl c.requires.genesis c.requires.new c.requires.second
    (beside_first (Second c.args.first) c.args.first.now.plain c.args.book.now refl refl c.requires.first c.requires.few.0)

pub tell-requires-clause-first : goal.tell-requires-clause-first
tell-requires-clause-first g c = still_first (Second c.args.first) c.args.book.now c.follow_record.new.book refl c.follow_record.ensures.same c.args.first.now.plain c.requires.first

pub tell-requires-clause-second : goal.tell-requires-clause-second
unfolding history_of
tell-requires-clause-second g c = rw c.in-Ok.ensures.following.genesis_is c.in-Ok.ensures.following.follows

pub returns-in-Ok-clause-answers : goal.returns-in-Ok-clause-answers
unfolding history_of
returns-in-Ok-clause-answers g c =
    second_concludes c.args.report c.args.genesis.now c.args.second.now.plain (record { store = c.args.first.now.plain; history = history_of c.args.book.now 0 }) (Second c.args.first) c.args.name.now refl (rw c.requires.genesis at c.requires.first.blocks)
    (followed_by (Second c.args.first) c.follow_record.new.store.plain c.follow_record.new.book) c.tell.result _ _ _ _ c.in-Ok.ensures.followed
    (rw (judge_of (Second c.args.first) c.args.book.now c.follow_record.new.book refl c.follow_record.ensures.same c.args.report c.args.genesis.now c.args.first.now.plain c.follow_record.new.store.plain c.requires.genesis) at c.tell.ensures.told)

pub returns-in-Err-clause-answers : goal.returns-in-Err-clause-answers
unfolding history_of
returns-in-Err-clause-answers g c =
    second_stops c.args.report c.args.genesis.now c.args.second.now.plain (record { store = c.args.first.now.plain; history = history_of c.args.book.now 0 }) (Second c.args.first) c.args.name.now refl (rw c.requires.genesis at c.requires.first.blocks)
    c.in-Err.status (followed_by (Second c.args.first) c.follow_record.new.store.plain c.follow_record.new.book) _ _ _ c.in-Err.ensures.followed

pub returns-in-Ok-clause-command : goal.returns-in-Ok-clause-command
returns-in-Ok-clause-command g c = c.tell.ensures.told.has_words

pub returns-in-Err-clause-command : goal.returns-in-Err-clause-command
returns-in-Err-clause-command g c = c.in-Err.ensures.outside.others.0

pub returns-in-Ok-clause-outside : goal.returns-in-Ok-clause-outside
returns-in-Ok-clause-outside g c = concludes_outside (c.args.name.now ∷ []) c.tell.result c.in-Ok.ensures.outside.shelf c.tell.ensures.told

pub returns-in-Err-clause-outside : goal.returns-in-Err-clause-outside
returns-in-Err-clause-outside g c = follows_outside (c.args.name.now ∷ []) [] c.in-Err.status c.in-Err.ensures.outside

pub returns-in-Err-clause-reports : goal.returns-in-Err-clause-reports
returns-in-Err-clause-reports g c = λ is. absurd (c.in-Err.ensures.outside.others.2 is)
