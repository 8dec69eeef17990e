-- Three layers over all chunks.
use Rattle.std.proofs.Common.{◌∙◌, ap}
use Rattle.hash_tree.specs.Pairs.{parents}
use Rattle.beacon_types.proofs.Lanes.{roots_of}
use Rattle.beacon_types.proofs.validator_roots.write_each.Goals as goal

pub returns : goal.returns
returns c =
    c.hash_layer-3.ensures
    ∙ (ap parents (c.hash_layer-2.ensures ∙ ap parents (c.hash_layer.ensures ∙ ap parents c.write_eight_chunks.ensures)) ∙ roots_of c.args.validators.now)
