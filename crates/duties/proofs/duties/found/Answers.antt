-- The epoch's end, its proposers, and its committees.
use Rattle.std.proofs.Common.{◌*◌, refl, ap, arith}
use Rattle.std.proofs.lemmas.Result.{err_from_is_err_and}
use Rattle.std.proofs.Math.Nat.{suc-mul}
use Rattle.bc_preset.specs.declared.presets.Preset.{Preset}
use Rattle.duties.proofs.Telling.{end_fits, end_stops, epoch_is_low, proposers_stop, told}
use Rattle.duties.proofs.duties.found.Goals as goal

pub returns-in_err-checked_mul-clause-exact : goal.returns-in_err-checked_mul-clause-exact
returns-in_err-checked_mul-clause-exact c =
    let p = err_from_is_err_and c.from_residual.result c.from_residual.ensures.1 in
    rw (p.1, p.2) (end_stops c.args.state.now c.args.epoch _ c.in_err-checked_mul.field-0.0 c.preset-preset.ensures.same c.in_err-checked_mul.ensures)

pub current_proposers-requires : goal.current_proposers-requires
current_proposers-requires c = rw c.preset-preset.ensures.same at (end_fits _ _ _ c.in_ok-checked_mul.ensures)

pub committees_of_epoch-requires : goal.committees_of_epoch-requires
committees_of_epoch-requires c = epoch_is_low c.args.epoch _ c.bounds.ensures.least_slots_per_epoch (end_fits _ _ _ c.in_ok-checked_mul.ensures)

pub returns-in_err-proposers-clause-exact : goal.returns-in_err-proposers-clause-exact
returns-in_err-proposers-clause-exact c =
    let p = err_from_is_err_and c.from_residual-in_err-proposers.result c.from_residual-in_err-proposers.ensures.1 in
    rw (p.1, p.2) (proposers_stop c.args.state.now c.args.epoch _ _ c.in_err-proposers.field-0.0 c.preset-preset.ensures.same c.in_ok-checked_mul.ensures c.in_err-proposers.ensures)

pub overflow_mul-result : goal.overflow_mul-result
overflow_mul-result c = omega (arith, end_fits _ _ _ c.in_ok-checked_mul.ensures, suc-mul c.args.epoch c.preset-preset.result.now.slots_per_epoch)

pub returns-clause-exact : goal.returns-clause-exact
returns-clause-exact c =
    told c.args.state.now c.args.epoch _ _ _ c.preset-preset.ensures.same c.in_ok-checked_mul.ensures c.in_ok-proposers.ensures c.in_ok-committees.ensures.exact c.in_ok-committees.ensures.published refl

pub returns-clause-table : goal.returns-clause-table
returns-clause-table c = (ap (λ (p : Preset). c.args.epoch * p.slots_per_epoch) c.preset-preset.ensures.same, c.in_ok-committees.ensures.exact)
