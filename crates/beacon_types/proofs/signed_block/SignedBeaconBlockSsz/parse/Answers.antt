use Rattle.ssz_codec.specs.Layout.{cut}
use Rattle.ssz_codec.specs.Basic.{bytes96}
use Rattle.ssz_codec.specs.Containers.{layout_of}
use Rattle.ssz_codec.proofs.Fieldwise.{two_read, two_unread}
use Rattle.beacon_types.specs.Blocks.{signed_block_fields, block_codec}
use Rattle.beacon_types.proofs.signed_block.SignedBeaconBlockSsz.parse.Goals as goal

-- a block and its signature are read
pub returns-in-Ok-read_container : goal.returns-in-Ok-read_container
returns-in-Ok-read_container c =
    two_read block_codec bytes96 (λ message signature. record { message = message; signature = signature })
    (cut (layout_of signed_block_fields) c.args.bytes.now) _ _ c.in-Ok-read_container.ensures

-- one of them isn't
pub returns-in-Err-read_container : goal.returns-in-Err-read_container
returns-in-Err-read_container c =
    two_unread block_codec bytes96 (λ message signature. record { message = message; signature = signature })
    (cut (layout_of signed_block_fields) c.args.bytes.now) _ c.in-Err-read_container.ensures
