use Rattle.std.proofs.Common.{◌≡◌, vec_capacity, sym, subst, ap, ◌∙◌, refl, arith}
use Rattle.block_array.specs.PlainArray.{PlainArray}
use Rattle.block_array.specs.UpdateLatestMessages.{voted, update_latest_message}
use Rattle.block_array.specs.inside.Held.{Held}
use Rattle.block_array.specs.inside.Counts.{Counts}
use Rattle.block_array.proofs.Votes.{vote_taken, vote_passed}
use Rattle.block_array.proofs.Whole.{kept_vote, kept_rooms}
use Rattle.block_array.proofs.block_array.BlockArray.vote.Goals as goal

pub invariant_of-self-2 : goal.invariant_of-self-2
invariant_of-self-2 c =
    let o = c.in_ok-room_for_validator.ensures in
    kept_vote c.self.inside.inputs.array c.room_for_validator.new.tally c.self.inside.bests.items _ c.room_for_validator.new.inputs.changed_room c.note.new.inputs.changed_room
    (kept_rooms c.self.inside.inputs.array c.self.inside.tally c.room_for_validator.new.tally c.self.inside.bests.items c.self.inside.bests.items (vec_capacity c.self.inside.bests) _ c.self.inside.inputs.changed_room c.room_for_validator.new.inputs.changed_room c.self.invariant refl (ap (λ (x : Counts). x.validators) c.in_ok-room_for_validator.ensures.tally) (ap (λ (x : Counts). x.nodes) c.in_ok-room_for_validator.ensures.tally) (ap (λ (x : Counts). x.boost) c.in_ok-room_for_validator.ensures.tally) (let r : c.room_for_validator.new.tally.node_room ≡ c.self.inside.tally.node_room = ap (λ (x : Counts). x.node_room) c.in_ok-room_for_validator.ensures.tally in omega arith) c.in_ok-room_for_validator.ensures.tally_more (omega arith) c.in_ok-room_for_validator.ensures.changed_more)
    c.note.ensures.changed_more c.note.new.inputs.array c.args.validator (record { epoch = c.args.epoch; node = c.args.node }) c.note.new.tally
    (c.note.ensures.array ∙ ap (λ (h : Held). voted h.array c.args.validator (record { epoch = c.args.epoch; node = c.args.node })) c.in_ok-room_for_validator.ensures.inputs)
    c.note.ensures.noted c.note.ensures.node_room c.note.ensures.validator_room c.note.ensures.marks

pub returns-then-not-is_news-clause-voted : goal.returns-then-not-is_news-clause-voted
returns-then-not-is_news-clause-voted c =
    subst (λ (a : PlainArray). a ≡ update_latest_message a c.args.validator (record { epoch = c.args.epoch; node = c.args.node })) c.self.view_is
    (sym (vote_passed c.self.inside.inputs.array c.args.validator (record { epoch = c.args.epoch; node = c.args.node }) (sym c.is_news.ensures ∙ c.if-not-is_news.true)))

pub returns-then-not-is_news-clause-spare : goal.returns-then-not-is_news-clause-spare
returns-then-not-is_news-clause-spare c = λ _. refl

pub returns-clause-voted : goal.returns-clause-voted
returns-clause-voted c =
    c.note.ensures.array
    ∙ ap (λ (h : Held). voted h.array c.args.validator (record { epoch = c.args.epoch; node = c.args.node })) c.in_ok-room_for_validator.ensures.inputs
    ∙ sym (vote_taken c.self.inside.inputs.array c.args.validator (record { epoch = c.args.epoch; node = c.args.node }) (sym c.is_news.ensures ∙ c.if-not-is_news.false))
    ∙ ap (λ (a : PlainArray). update_latest_message a c.args.validator (record { epoch = c.args.epoch; node = c.args.node })) c.self.view_is

pub returns-clause-spare : goal.returns-clause-spare
returns-clause-spare c = λ _. refl
