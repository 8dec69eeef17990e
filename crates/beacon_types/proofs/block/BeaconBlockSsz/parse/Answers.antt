use Rattle.ssz_codec.specs.Layout.{cut}
use Rattle.ssz_codec.specs.Basic.{uint64, bytes32}
use Rattle.ssz_codec.specs.Containers.{layout_of}
use Rattle.ssz_codec.proofs.Fieldwise.{five_read, five_unread}
use Rattle.beacon_types.specs.Blocks.{block_fields, block_body_codec}
use Rattle.beacon_types.proofs.block.BeaconBlockSsz.parse.Goals as goal

-- the five fields are read
pub returns-in-Ok-read_container : goal.returns-in-Ok-read_container
returns-in-Ok-read_container c =
    five_read uint64 uint64 bytes32 bytes32 block_body_codec
    (λ slot proposer parent state body. record { slot = slot; proposer_index = proposer; parent_root = parent; state_root = state; body = body })
    (cut (layout_of block_fields) c.args.bytes.now) _ _ _ _ _ c.in-Ok-read_container.ensures

-- one of them isn't
pub returns-in-Err-read_container : goal.returns-in-Err-read_container
returns-in-Err-read_container c =
    five_unread uint64 uint64 bytes32 bytes32 block_body_codec
    (λ slot proposer parent state body. record { slot = slot; proposer_index = proposer; parent_root = parent; state_root = state; body = body })
    (cut (layout_of block_fields) c.args.bytes.now) _ c.in-Err-read_container.ensures
