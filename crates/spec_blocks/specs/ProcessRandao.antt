-- process_randao (beacon-chain.md, "RANDAO"). Signatures are off.
use Rattle.std.specs.Prelude.{ℕ, ◌%◌, List, map, zip, bit_xor, slice_set}
use Rattle.hash_tree.specs.Merkle.{hash}
use Rattle.beacon_types.specs.declared.body.BeaconBlockBody.{BeaconBlockBody}
use Rattle.spec_state.specs.declared.plain.PlainState.{PlainState}
use Rattle.spec_state.specs.Accessors.{get_current_epoch, get_randao_mix}

-- xor: the exclusive or of two lists of bytes
abbrev pub xor : List ℕ → List ℕ → List ℕ
xor bytes_1 bytes_2 = map (λ bytes. bit_xor bytes.0 bytes.1) (zip bytes_1 bytes_2)

-- process_randao(state, body): the mix of the current epoch takes in the hash of the block's signature
unfoldable pub process_randao : PlainState → BeaconBlockBody → PlainState
process_randao state body =
    let epoch : ℕ = get_current_epoch state in
    let mix : List ℕ = xor (get_randao_mix state epoch) (hash body.randao_reveal) in
    record state { randao_mixes = slice_set state.randao_mixes (epoch % state.preset.epochs_per_historical_vector) mix }
