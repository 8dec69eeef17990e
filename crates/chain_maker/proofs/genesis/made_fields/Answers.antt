-- Each field is that of the definition.
use Rattle.std.proofs.Common.{◌∙◌, List, ap, replicate}
use Rattle.ssz_codec.specs.Lists.{list_codec}
use Rattle.beacon_types.specs.declared.validator.Validator.{Validator}
use Rattle.beacon_types.specs.Containers.{validator_codec}
use Rattle.chain_maker.proofs.Fields.{genesis_of_fields}
use Rattle.chain_maker.proofs.genesis.made_fields.Goals as goal

pub returns : goal.returns
returns c =
    genesis_of_fields c.args.preset.now c.args.number c.list_root-validators_root.result c.empty_body_root.result c.in_ok-block_roots.block_roots c.in_ok-state_roots.state_roots
    c.in_ok-validators.validators c.in_ok-balances.balances c.in_ok-randao_mixes.randao_mixes c.in_ok-slashings.slashings
    c.new.result c.new-2.result c.new-3.result c.new-4.result
    (c.list_root-validators_root.ensures ∙ ap (λ (vs : List Validator). (list_codec validator_codec c.args.preset.now.validator_registry_limit).hash_tree_root vs) (c.as_slice.ensures ∙ c.in_ok-validators.ensures))
    c.empty_body_root.ensures c.in_ok-block_roots.ensures c.in_ok-state_roots.ensures c.in_ok-validators.ensures c.in_ok-balances.ensures
    (c.in_ok-randao_mixes.ensures ∙ ap (λ mix. replicate c.args.preset.now.epochs_per_historical_vector mix) c.slot_digest-mix.ensures) c.in_ok-slashings.ensures
    c.new.ensures c.new-2.ensures c.new-3.ensures c.new-4.ensures
