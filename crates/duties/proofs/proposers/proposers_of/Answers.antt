-- One slot after the other.
use Rattle.std.proofs.Common.{◌∙◌, ap, sym, arith}
use Rattle.std.proofs.lemmas.Result.{err_from_is_err_and}
use Rattle.spec_state.specs.Accessors.{get_active_validator_indices, get_seed}
use Rattle.spec_state.specs.Constants.{domain_beacon_proposer}
use Rattle.duties.proofs.Picking.{begun, slot_epoch, picked, unpicked, all_picked}
use Rattle.duties.proofs.proposers.proposers_of.Goals as goal

pub proposer_at-requires-clause-active : goal.proposer_at-requires-clause-active
proposer_at-requires-clause-active c =
    c.deref.ensures.value ∙ c.in_ok-active.ensures
    ∙ ap (get_active_validator_indices c.args.state.now) (sym (slot_epoch _ _ _ _ c.preset-preset.ensures.same c.loop-slot.invariant.within c.loop-slot-test.true))

pub proposer_at-requires-clause-seed : goal.proposer_at-requires-clause-seed
proposer_at-requires-clause-seed c =
    c.seed_of-seed.ensures
    ∙ ap (λ e. get_seed c.args.state.now e domain_beacon_proposer) (sym (slot_epoch _ _ _ _ c.preset-preset.ensures.same c.loop-slot.invariant.within c.loop-slot-test.true))

pub loop-slot-init : goal.loop-slot-init
loop-slot-init c = record {
  within = omega arith;
  comes = rw c.new-duties.ensures.items (begun c.args.state.now _ _ _ c.preset-preset.ensures.same c.current_epoch-epoch.ensures.exact);
}

pub loop-slot-preserved : goal.loop-slot-preserved
loop-slot-preserved c = record {
  within = omega (arith, c.loop-slot.invariant.within);
  comes = rw c.in_ok-push.ensures.items (picked c.args.state.now _ c.loop-slot.slot _ _ _ c.loop-slot-test.true c.in_ok-validator.ensures c.loop-slot.invariant.comes);
}

pub returns-in_err-validator : goal.returns-in_err-validator
returns-in_err-validator c =
    let p = err_from_is_err_and c.from_residual-in_err-validator.result c.from_residual-in_err-validator.ensures.1 in
    rw (p.1, p.2) (unpicked c.args.state.now _ c.loop-slot.slot _ c.in_err-validator.field-0.0 _ c.loop-slot-test.true c.in_err-validator.ensures c.loop-slot.invariant.comes)

pub returns : goal.returns
returns c = all_picked c.args.state.now _ c.loop-slot.slot _ _ c.loop-slot-test.false c.loop-slot.invariant.comes
