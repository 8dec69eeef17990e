use Rattle.std.proofs.Common.{◌≡◌, vec_capacity, sym, subst, ap, ◌∙◌, refl, arith}
use Rattle.block_array.specs.PlainArray.{PlainArray}
use Rattle.block_array.specs.Silence.{silenced, silence}
use Rattle.block_array.specs.inside.Held.{Held}
use Rattle.block_array.specs.inside.Counts.{Counts}
use Rattle.block_array.proofs.Silencing.{silence_taken, silence_passed}
use Rattle.block_array.proofs.Whole.{kept_silence, kept_rooms}
use Rattle.block_array.proofs.block_array.BlockArray.silence.Goals as goal

pub invariant_of-self-2 : goal.invariant_of-self-2
invariant_of-self-2 c =
    let o = c.in_ok-room_for_validator.ensures in
    kept_silence c.self.inside.inputs.array c.room_for_validator.new.tally c.self.inside.bests.items _ c.room_for_validator.new.inputs.changed_room c.note_silence.new.inputs.changed_room
    (kept_rooms c.self.inside.inputs.array c.self.inside.tally c.room_for_validator.new.tally c.self.inside.bests.items c.self.inside.bests.items (vec_capacity c.self.inside.bests) _ c.self.inside.inputs.changed_room c.room_for_validator.new.inputs.changed_room c.self.invariant refl (ap (λ (x : Counts). x.validators) c.in_ok-room_for_validator.ensures.tally) (ap (λ (x : Counts). x.nodes) c.in_ok-room_for_validator.ensures.tally) (ap (λ (x : Counts). x.boost) c.in_ok-room_for_validator.ensures.tally) (let r : c.room_for_validator.new.tally.node_room ≡ c.self.inside.tally.node_room = ap (λ (x : Counts). x.node_room) c.in_ok-room_for_validator.ensures.tally in omega arith) c.in_ok-room_for_validator.ensures.tally_more (omega arith) c.in_ok-room_for_validator.ensures.changed_more)
    c.note_silence.ensures.changed_more c.note_silence.new.inputs.array c.args.validator c.note_silence.new.tally
    (c.note_silence.ensures.array ∙ ap (λ (h : Held). silenced h.array c.args.validator) c.in_ok-room_for_validator.ensures.inputs)
    c.note_silence.ensures.noted c.note_silence.ensures.node_room c.note_silence.ensures.validator_room c.note_silence.ensures.marks

pub returns-then-is_silenced-clause-silenced : goal.returns-then-is_silenced-clause-silenced
returns-then-is_silenced-clause-silenced c =
    subst (λ (a : PlainArray). a ≡ silence a c.args.validator) c.self.view_is
    (sym (silence_passed c.self.inside.inputs.array c.args.validator (sym c.is_silenced.ensures ∙ c.if-is_silenced.true)))

pub returns-then-is_silenced-clause-spare : goal.returns-then-is_silenced-clause-spare
returns-then-is_silenced-clause-spare c = λ _. refl

pub returns-clause-silenced : goal.returns-clause-silenced
returns-clause-silenced c =
    c.note_silence.ensures.array
    ∙ ap (λ (h : Held). silenced h.array c.args.validator) c.in_ok-room_for_validator.ensures.inputs
    ∙ sym (silence_taken c.self.inside.inputs.array c.args.validator (sym c.is_silenced.ensures ∙ c.if-is_silenced.false))
    ∙ ap (λ (a : PlainArray). silence a c.args.validator) c.self.view_is

pub returns-clause-spare : goal.returns-clause-spare
returns-clause-spare c = λ _. refl
