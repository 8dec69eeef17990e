-- Equality of values, as a condition computes it.
use Rattle.std.specs.Prelude.{ℕ, List, Bool, ◌==◌, ◌&&◌, nat_eq}
use Rattle.std.specs.Cmp.Lexicographic.{pointwise}
use Rattle.beacon_types.specs.declared.checkpoint.Checkpoint.{Checkpoint}
use Rattle.beacon_types.specs.declared.attestation_data.AttestationData.{AttestationData}
use Rattle.beacon_types.specs.declared.block_header.BeaconBlockHeader.{BeaconBlockHeader}
use Rattle.beacon_types.specs.declared.eth1_data.Eth1Data.{Eth1Data}

-- of two roots
abbrev pub same_root : List ℕ → List ℕ → Bool
same_root a b = pointwise nat_eq a b

-- of two public keys
abbrev pub same_pubkey : List ℕ → List ℕ → Bool
same_pubkey a b = pointwise nat_eq a b

-- of two checkpoints
abbrev pub same_checkpoint : Checkpoint → Checkpoint → Bool
same_checkpoint a b = (a.epoch == b.epoch) && same_root a.root b.root

-- of what two attestations say
abbrev pub same_data : AttestationData → AttestationData → Bool
same_data a b =
    (a.slot == b.slot)
    && ((a.index == b.index) && (same_root a.beacon_block_root b.beacon_block_root && (same_checkpoint a.source b.source && same_checkpoint a.target b.target)))

-- of two votes on the deposit contract
abbrev pub same_eth1_data : Eth1Data → Eth1Data → Bool
same_eth1_data a b = same_root a.deposit_root b.deposit_root && ((a.deposit_count == b.deposit_count) && same_root a.block_hash b.block_hash)

-- of two headers
abbrev pub same_header : BeaconBlockHeader → BeaconBlockHeader → Bool
same_header a b =
    (a.slot == b.slot)
    && ((a.proposer_index == b.proposer_index) && (same_root a.parent_root b.parent_root && (same_root a.state_root b.state_root && same_root a.body_root b.body_root)))
