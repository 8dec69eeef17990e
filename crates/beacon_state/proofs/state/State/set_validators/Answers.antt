-- The limit is that of each preset.
use Rattle.std.proofs.Common.{ap, arith}
use Rattle.bc_preset.proofs.Bounds.{preset_bounds}
use Rattle.spec_state.specs.declared.plain.PlainState.{PlainState}
use Rattle.beacon_state.proofs.state.State.set_validators.Goals as goal

pub replace-requires : goal.replace-requires
replace-requires c =
    omega (arith, c.requires, (preset_bounds c.self.inside.fields.value.preset c.self.invariant.state.preset_is).validator_registry_limit, ap (λ (s : PlainState). s.preset.validator_registry_limit) c.self.view_is)
