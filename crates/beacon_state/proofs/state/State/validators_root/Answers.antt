-- The limit is that of each preset.
use Rattle.std.proofs.Common.{sym, ap, ◌∙◌}
use Rattle.bc_preset.proofs.Bounds.{preset_bounds}
use Rattle.ssz_codec.specs.Lists.{list_codec}
use Rattle.beacon_types.specs.Containers.{validator_codec}
use Rattle.validator_registry.specs.Registries.{registry_root}
use Rattle.beacon_state.proofs.state.State.validators_root.Goals as goal

pub returns : goal.returns
unfolding registry_root
returns c =
    let limit = (preset_bounds c.args.self.now.preset c.preset-preset.ensures.preset).validator_registry_limit in
    c.root.ensures ∙ ap registry_root c.validators.ensures.same ∙ ap (λ n. (list_codec validator_codec n).hash_tree_root c.args.self.now.validators) (sym limit)
