-- Seeds (beacon-chain.md, "get_seed"). A domain type is a list of 4 bytes, a mix and a seed of 32.
use Rattle.std.specs.Prelude.{ℕ, ◌+◌, ◌-◌, List, ◌++◌}
use Rattle.bc_preset.specs.declared.presets.Preset.{Preset}
use Rattle.hash_tree.specs.Merkle.{hash, uint_to_bytes}

-- get_seed, where mix_at gives the randao mix of an epoch: hash(domain_type + uint_to_bytes(epoch) + mix)
unfoldable pub seed_from : Preset → (ℕ → List ℕ) → ℕ → List ℕ → List ℕ
seed_from preset mix_at epoch domain_type =
    let mix : List ℕ = mix_at (epoch + preset.epochs_per_historical_vector - preset.min_seed_lookahead - 1) in
    hash (domain_type ++ uint_to_bytes epoch ++ mix)
