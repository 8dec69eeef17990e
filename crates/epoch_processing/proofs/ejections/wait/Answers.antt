-- One that may wait does so from the next epoch on.
use Rattle.std.proofs.Common.{◌≡◌, ◌+◌, ◌∙◌, true, cond, sym, ap, subst, slice_set}
use Rattle.bc_words.specs.Outcome.{Becomes}
use Rattle.beacon_types.specs.declared.validator.Validator.{Validator}
use Rattle.spec_state.specs.declared.plain.PlainState.{PlainState}
use Rattle.spec_state.specs.Accessors.{get_current_epoch}
use Rattle.spec_state.specs.Predicates.{is_eligible_for_activation_queue}
use Rattle.spec_epochs.specs.ProcessRegistryUpdates.{with_eligibility}
use Rattle.epoch_processing.proofs.ejections.wait.Goals as goal

pub returns : goal.returns
unfolding with_eligibility
returns c =
    let state = c.args.state.now in
    let v = c.args.validator.now in
    let may = c.may_wait.ensures in
    let preset = c.preset.ensures.same in
    let taken = c.if-not-may_wait.false in
    let is : is_eligible_for_activation_queue state.preset v ≡ true = cc in
    let epoch = c.current_epoch-activation_eligibility_epoch.ensures.exact in
    let from = c.current_epoch-activation_eligibility_epoch.result in
    let waiting : PlainState = record state { validators = slice_set state.validators c.args.index (record v { activation_eligibility_epoch = get_current_epoch state + 1 }) } in
    subst (Becomes c.set_validators_at.result state c.set_validators_at.new.self)
    (ap (λ (w : Validator). record state { validators = slice_set state.validators c.args.index (record w { activation_eligibility_epoch = from + 1 }) }) c.validator.ensures
    ∙ ap (λ n. record state { validators = slice_set state.validators c.args.index (record v { activation_eligibility_epoch = n + 1 }) }) epoch
    ∙ ap (λ b. cond b waiting state) (sym is))
    c.set_validators_at.ensures
