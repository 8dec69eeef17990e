-- One step more, or all of them were made.
use Rattle.std.proofs.Common.{◌≡◌, ◌∷◌, ◌+◌, drop, slice_get, rules, sym, ap, subst, ◌∙◌}
use Rattle.bc_words.specs.Outcome.{Stops}
use Rattle.balance_totals.proofs.LeftOf.{first_left, others_left}
use Rattle.spec_blocks.specs.Checks.{each_of}
use Rattle.spec_epochs.specs.Each.{validator_indices}
use Rattle.spec_epochs.specs.ProcessRegistryUpdates.{eligibility_and_ejection}
use Rattle.epoch_processing.proofs.Steps.{step_leaves}
use Rattle.epoch_processing.proofs.Passes.{walked_on, walk_stops, walk_ends}
use Rattle.epoch_processing.proofs.ejections.eligibility_and_ejections.Goals as goal

pub eligibility_and_ejection-requires-clause-validator : goal.eligibility_and_ejection-requires-clause-validator
eligibility_and_ejection-requires-clause-validator c =
    let validators = c.loop-index.state.validators in
    let step = c.in-Some.ensures.steps in
    ap (slice_get validators) step.1
    ∙ first_left validators c.loop-index.index-iterator.count c.in-Some.validator c.next.new.self.iter (sym step.0 ∙ c.loop-index.invariant.here)

pub loop-index-preserved : goal.loop-index-preserved
loop-index-preserved c =
    let old = c.args.state.now in
    let state = c.loop-index.state in
    let next = c.eligibility_and_ejection.new.state in
    let i = c.loop-index.index-iterator.count in
    let x = c.in-Some.validator in
    let left = c.next.new.self.iter in
    let step = c.in-Some.ensures.steps in
    let made = c.in_ok-eligibility_and_ejection.ensures in
    let before : x ∷ left ≡ drop i old.validators = sym step.0 ∙ c.loop-index.invariant.before in
    let here : x ∷ left ≡ drop i state.validators = sym step.0 ∙ c.loop-index.invariant.here in
    record {
      before = others_left old.validators i x left before ∙ ap (λ k. drop k old.validators) (sym step.2);
      here =
          others_left state.validators i x left here
          ∙ ap (λ k. drop (k + 1) state.validators) (sym step.1)
          ∙ sym (step_leaves c.args.config.now state next c.in-Some.index made.exact)
          ∙ ap (λ k. drop (k + 1) next.validators) step.1
          ∙ ap (λ k. drop k next.validators) (sym step.2);
      kept = made.kept;
      all = walked_on _ old.validators i state next x left c.in-Some.index c.next.new.self.count before step.1 step.2 made.exact ∙ c.loop-index.invariant.all;
    }

pub returns-in_err-eligibility_and_ejection : goal.returns-in_err-eligibility_and_ejection
returns-in_err-eligibility_and_ejection c =
    let old = c.args.state.now in
    let stop = c.in_err-eligibility_and_ejection.field-0.0 in
    let step = c.in-Some.ensures.steps in
    let all : Stops stop (each_of (eligibility_and_ejection c.args.config.now) old (validator_indices old)) =
    subst (Stops stop) c.loop-index.invariant.all
    (walk_stops _ old.validators c.loop-index.index-iterator.count c.loop-index.state c.in-Some.validator c.next.new.self.iter c.in-Some.index stop (sym step.0 ∙ c.loop-index.invariant.before) step.1 c.in_err-eligibility_and_ejection.ensures.exact) in
    search (rules, all)

pub returns : goal.returns
returns c =
    sym c.loop-index.invariant.all
    ∙ walk_ends _ c.args.state.now.validators c.loop-index.index-iterator.count c.loop-index.state (sym c.in-None.ensures.steps.0.0 ∙ c.loop-index.invariant.before)
