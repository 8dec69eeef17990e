use Rattle.std.proofs.Common.{◌≡◌, ℕ, ◌+◌, true, List, length, max, ap, ◌∙◌, sym, subst, arith}
use Rattle.block_array.specs.PlainArray.{PlainArray}
use Rattle.block_array.specs.UpdateLatestMessages.{with_changed}
use Rattle.block_array.specs.Silence.{silenced}
use Rattle.block_array.specs.inside.Held.{Held}
use Rattle.block_array.specs.inside.Counts.{Counts}
use Rattle.block_array.specs.inside.Noted.{IsNoted}
use Rattle.block_array.proofs.Noting.{marked_length}
use Rattle.block_array.proofs.Silencing.{noted_silence}
use Rattle.block_array.proofs.note.note_silence.Goals as goal

pub mark_changed-requires-clause-room : goal.mark_changed-requires-clause-room
mark_changed-requires-clause-room c =
    let e : length c.pad.new.tally.validators ≡ max (length c.args.tally.now.validators) (c.args.validator + 1) = c.pad.ensures.length_is in
    let r : c.put_silenced.new.self.changed_room ≡ c.args.inputs.now.changed_room = ap (λ (h : Held). h.changed_room) c.put_silenced.ensures.put in
    let m = c.requires.marks in let v = c.requires.changed_room in
    omega arith

array_is : (inputs : Held) (after before : Held) (v : ℕ) (indices : List ℕ) (changed_room silenced_room : ℕ) → after ≡ record before { array = record before.array { changed_validators = with_changed before.array.changed_validators v }; changed_room = changed_room } → before ≡ record inputs { array = record inputs.array { silenced_validators = indices; anything_changed = true }; silenced_room = silenced_room } → after.array ≡ record inputs.array { silenced_validators = indices; changed_validators = with_changed inputs.array.changed_validators v; anything_changed = true }
array_is inputs after before v indices changed_room silenced_room e f = ap (λ (h : Held). h.array) e ∙ ap (λ (h : Held). record h.array { changed_validators = with_changed h.array.changed_validators v }) f

pub returns-clause-array : goal.returns-clause-array
unfolding silenced
returns-clause-array c = array_is c.args.inputs.now c.mark_changed.new.inputs c.put_silenced.new.self c.args.validator _ _ _ c.mark_changed.ensures.inputs c.put_silenced.ensures.put

pub returns-clause-noted : goal.returns-clause-noted
unfolding silenced
returns-clause-noted c =
    subst (λ (a : PlainArray). IsNoted a c.mark_changed.new.tally) (sym (array_is c.args.inputs.now c.mark_changed.new.inputs c.put_silenced.new.self c.args.validator _ _ _ c.mark_changed.ensures.inputs c.put_silenced.ensures.put))
    (noted_silence c.args.inputs.now.array c.args.tally.now c.requires.noted c.args.validator c.mark_changed.new.tally c.pad.new.tally.validators c.pad.ensures.counted c.pad.ensures.many c.pad.ensures.length_is
    (ap (λ (x : Counts). x.nodes) c.mark_changed.ensures.tally ∙ ap (λ (x : Counts). x.nodes) c.pad.ensures.same)
    (ap (λ (x : Counts). x.validators) c.mark_changed.ensures.tally))

pub returns-clause-marks : goal.returns-clause-marks
returns-clause-marks c =
    let e : length c.pad.new.tally.validators ≡ max (length c.args.tally.now.validators) (c.args.validator + 1) = c.pad.ensures.length_is in
    let l : length c.mark_changed.new.tally.validators ≡ length c.pad.new.tally.validators = ap (λ (x : Counts). length x.validators) c.mark_changed.ensures.tally ∙ marked_length c.pad.new.tally.validators c.args.validator in
    let r : c.put_silenced.new.self.changed_room ≡ c.args.inputs.now.changed_room = ap (λ (h : Held). h.changed_room) c.put_silenced.ensures.put in
    let w = c.mark_changed.ensures.more in let m = c.requires.marks in let v = c.requires.changed_room in
    omega arith

pub returns-clause-changed_more : goal.returns-clause-changed_more
returns-clause-changed_more c =
    let r : c.put_silenced.new.self.changed_room ≡ c.args.inputs.now.changed_room = ap (λ (h : Held). h.changed_room) c.put_silenced.ensures.put in
    let w = c.mark_changed.ensures.more in
    omega arith
