-- The limit is that of each preset.
use Rattle.bc_preset.proofs.Bounds.{preset_bounds}
use Rattle.beacon_state.proofs.state.State.push_validators.Goals as goal

pub push-requires-clause-limit : goal.push-requires-clause-limit
push-requires-clause-limit c = rw (c.preset.ensures.same) (preset_bounds c.args.self.now.preset c.preset.ensures.preset).validator_registry_limit
