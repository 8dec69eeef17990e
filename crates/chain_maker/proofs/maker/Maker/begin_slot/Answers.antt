-- The next slot's tick comes next.
use Rattle.std.proofs.Common.{◌≡◌, ◌∙◌, ℕ, ◌+◌, None, Some, if◌then◌else◌, sym, ap, subst}
use Rattle.hash_tree.specs.Merkle.{uint_to_bytes}
use Rattle.bc_words.specs.Outcome.{done}
use Rattle.spec_state.specs.Genesis.{header_root_of}
use Rattle.spec_transition.specs.ProcessSlots.{Stepped, process_slots}
use Rattle.spec_drill.specs.Plan.{is_skipped}
use Rattle.spec_drill.specs.MakeVotes.{votes_of}
use Rattle.spec_drill.specs.Make.{time_of}
use Rattle.spec_drill.specs.Maker.{PlainMaker}
use Rattle.spec_drill.specs.inside.Makers.{IsMaker}
use Rattle.chain_maker.specs.inside.Standing.{maker_of}
use Rattle.chain_maker.proofs.Steps.{slots_done, opened_is, gives_tick, at_end, reached_if}
use Rattle.chain_maker.proofs.maker.Maker.begin_slot.Goals as goal

pub invariant_of-self : goal.invariant_of-self
invariant_of-self c =
    let maker : PlainMaker = maker_of c.self.inside in
    let end = at_end maker c.args.self.now c.self.view_is c.requires.none c.requires.no_block c.requires.later in
    let at : Stepped = record { state = c.step.inside.state; entered = c.step.inside.entered } in
    let slot : c.in_ok-slot.field-0.slot ≡ maker.slot + 1 = c.in_ok-slot.ensures.slot ∙ sym (ap (λ (m : PlainMaker). m.slot + 1) c.self.view_is) in
    let passed : process_slots maker.state (maker.slot + 1) maker.plan.config ≡ done at =
    ap (λ (m : PlainMaker). process_slots m.state (m.slot + 1) m.plan.config) c.self.view_is ∙ (c.in_ok-slot.ensures.step ∙ ap done (sym c.step.view_is)) in
    let opens = slots_done maker at c.self.invariant.is end.none end.no_due end.later passed in
    let votes = c.in_ok-slot.ensures.votes ∙ (ap (λ (s : Stepped). votes_of s.state (header_root_of c.args.self.now.state) c.args.self.now.slot) (sym c.step.view_is) ∙ ap (λ (m : PlainMaker). votes_of at.state (header_root_of m.state) m.slot) (sym c.self.view_is)) in
    let due = c.unless-due.ensures ∙ ap (λ skipped. if skipped then None else Some at.state) c.is_skipped-skipped.ensures in
    let due_is = due ∙ ap (λ (slot : ℕ). if is_skipped maker.plan slot then None else Some at.state) slot in
    let same = opened_is maker at.state c.in_ok-slot.field-0.slot c.in_ok-slot.field-0.votes c.unless-due.result slot votes due_is in
    record {
      is = subst IsMaker (sym same) opens.stands;
      reached = reached_if maker.state at.state c.in_ok-slot.field-0.slot maker.plan.config at.entered (is_skipped maker.plan c.in_ok-slot.field-0.slot) c.unless-due.result due
          (subst (λ (slot : ℕ). process_slots maker.state slot maker.plan.config ≡ done at) (sym slot) passed);
    }

pub returns-clause-gives : goal.returns-clause-gives
returns-clause-gives c =
    let maker : PlainMaker = maker_of c.self.inside in
    let end = at_end maker c.args.self.now c.self.view_is c.requires.none c.requires.no_block c.requires.later in
    let at : Stepped = record { state = c.step.inside.state; entered = c.step.inside.entered } in
    let slot : c.in_ok-slot.field-0.slot ≡ maker.slot + 1 = c.in_ok-slot.ensures.slot ∙ sym (ap (λ (m : PlainMaker). m.slot + 1) c.self.view_is) in
    let passed : process_slots maker.state (maker.slot + 1) maker.plan.config ≡ done at =
    ap (λ (m : PlainMaker). process_slots m.state (m.slot + 1) m.plan.config) c.self.view_is ∙ (c.in_ok-slot.ensures.step ∙ ap done (sym c.step.view_is)) in
    let opens = slots_done maker at c.self.invariant.is end.none end.no_due end.later passed in
    let votes = c.in_ok-slot.ensures.votes ∙ (ap (λ (s : Stepped). votes_of s.state (header_root_of c.args.self.now.state) c.args.self.now.slot) (sym c.step.view_is) ∙ ap (λ (m : PlainMaker). votes_of at.state (header_root_of m.state) m.slot) (sym c.self.view_is)) in
    let due = c.unless-due.ensures ∙ ap (λ skipped. if skipped then None else Some at.state) c.is_skipped-skipped.ensures in
    let due_is = due ∙ ap (λ (slot : ℕ). if is_skipped maker.plan slot then None else Some at.state) slot in
    let same = opened_is maker at.state c.in_ok-slot.field-0.slot c.in_ok-slot.field-0.votes c.unless-due.result slot votes due_is in
    let tick = c.in_ok-slot.ensures.tick ∙ ap (λ (m : PlainMaker). uint_to_bytes (time_of m.plan (m.slot + 1))) (sym c.self.view_is) in
    rw (← c.self.view_is) (gives_tick maker _ at c.in_ok-slot.field-0.tick opens same tick)
