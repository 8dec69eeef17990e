-- Each slot leaves a sound state of the preset, one slot later.
use Rattle.std.proofs.Common.{◌∙◌, ℕ, ◌-◌, refl, sym, subst, ap, ap₂, arith, inl}
use Rattle.bc_preset.specs.laws.Bounds.{HasPresetBounds}
use Rattle.bc_words.specs.Outcome.{each_from}
use Rattle.bc_words.proofs.Folds.{each_steps}
use Rattle.spec_state.specs.declared.plain.PlainState.{PlainState}
use Rattle.spec_state.specs.Soundness.{IsSound}
use Rattle.transition.specs.inside.Visits.{next_visited}
use Rattle.transition.proofs.Visits.{visited_sound, visited_slot, visited_preset, visited_more, none_done, was_shown, none_shown}
use Rattle.transition.proofs.process_slots.go_to.Goals as goal

pub loop-index-init : goal.loop-index-init
loop-index-init g c =
    let shown = g.V.Visitor.shown in
    let begin = c.slot-begin.ensures in
    record {
      from = omega (arith, begin);
      slot = sym begin;
      preset = refl;
      sound = c.requires.sound;
      shown = none_done shown (next_visited shown c.args.config.now) (c.slot-begin.result - c.args.state.slot) c.args.state.slot (c.args.state, c.args.visitor.now) (c.args.state, c.args.visitor.now) (omega (arith, begin)) refl;
      left = ap (λ (i : ℕ). each_from (λ index. next_visited shown c.args.config.now) (c.args.slot - i) i (c.args.state, c.args.visitor.now)) begin;
    }

pub loop-index-preserved : goal.loop-index-preserved
loop-index-preserved g c =
    let shown = g.V.Visitor.shown in
    let before = c.loop-index.now in
    let now = c.next_slot.new.state in
    let config = c.args.config.now in
    let done_so = c.in_ok-next_slot.ensures.step in
    let bounds : HasPresetBounds before.preset = subst HasPresetBounds (sym (c.loop-index.invariant.preset ∙ sym c.preset.ensures.same)) c.bounds.ensures in
    record {
      from = omega (arith, c.loop-index.invariant.from);
      slot = visited_slot shown config before now _ _ done_so ∙ omega (arith, c.loop-index.invariant.slot);
      preset = visited_preset shown config before now _ _ done_so ∙ c.loop-index.invariant.preset;
      sound = visited_sound shown config before now _ _ done_so bounds (omega (arith, c.loop-index.invariant.slot)) c.loop-index.invariant.sound;
      shown = visited_more shown config c.args.state before now c.args.visitor.now c.loop-index.visitor c.next_slot.new.visitor c.loop-index.index c.loop-index.invariant.from c.loop-index.invariant.shown done_so;
      left = sym (each_steps (λ (index : ℕ). next_visited shown config) c.args.slot c.loop-index.index (before, c.loop-index.visitor) (now, c.next_slot.new.visitor) (omega arith) done_so) ∙ c.loop-index.invariant.left;
    }

pub returns-in_err-next_slot-clause-seen : goal.returns-in_err-next_slot-clause-seen
returns-in_err-next_slot-clause-seen g c =
    was_shown g.V.Visitor.shown c.args.config.now c.args.state c.loop-index.now c.args.visitor.now c.loop-index.visitor c.next_slot.new.visitor c.args.slot (c.loop-index.index - c.args.state.slot)
    (omega arith) c.loop-index.invariant.shown c.in_err-next_slot.ensures.left

pub returns-clause-seen : goal.returns-clause-seen
returns-clause-seen g c =
    was_shown g.V.Visitor.shown c.args.config.now c.args.state c.loop-index.now c.args.visitor.now c.loop-index.visitor c.loop-index.visitor c.args.slot (c.loop-index.index - c.args.state.slot)
    (omega (arith, c.loop-index.auto.index-end (omega (arith, c.slot-begin.ensures)))) c.loop-index.invariant.shown (inl refl)
