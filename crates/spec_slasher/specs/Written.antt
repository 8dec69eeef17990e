-- What is known of accepted blocks, so that each operation has a writing.
use Rattle.std.specs.Prelude.{◌<◌, ◌^◌, All, length}
use Rattle.beacon_types.specs.Blocks.{attestation_codec}
use Rattle.spec_forensics.specs.Histories.{AcceptedBlock}

-- the attestations of a block are within the limits of their writing, and so is the registry of the state behind it
pub record IsReadable (b : AcceptedBlock) : Type 0 where
  pub attestations : All attestation_codec.Within b.block.body.attestations
  pub registry : length b.state.validators < 2 ^ 64
