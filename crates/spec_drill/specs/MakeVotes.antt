-- The attestations of a slot, as all of its committees cast them.
use Rattle.std.specs.Prelude.{ℕ, true, List, map, length, replicate, ◌==◌, if◌then◌else◌}
use Rattle.std.specs.List.{range_with_len}
use Rattle.beacon_types.specs.declared.checkpoint.Checkpoint.{Checkpoint}
use Rattle.beacon_types.specs.declared.attestation.Attestation.{Attestation}
use Rattle.spec_state.specs.declared.plain.PlainState.{PlainState}
use Rattle.spec_state.specs.Misc.{compute_epoch_at_slot}
use Rattle.spec_state.specs.Accessors.{get_current_epoch, get_committee_count_per_slot, get_beacon_committee, get_block_root}

-- the source that the state's block wants of an attestation of an epoch: the current justified checkpoint for the state's own epoch, else
-- the previous one
unfoldable pub source_for : PlainState → ℕ → Checkpoint
source_for state epoch = if epoch == get_current_epoch state then state.current_justified_checkpoint else state.previous_justified_checkpoint

-- the attestation of a whole committee for the chain's last block, whose root this is: all bits are set, the signature is zero
unfoldable pub vote_of : PlainState → List ℕ → ℕ → ℕ → Attestation
vote_of state root slot index =
    let epoch : ℕ = compute_epoch_at_slot state.preset slot in
    record {
      aggregation_bits = replicate (length (get_beacon_committee state slot index)) true;
      content = record {
        slot = slot;
        index = index;
        beacon_block_root = root;
        source = source_for state epoch;
        target = record { epoch = epoch; root = get_block_root state epoch };
      };
      signature = replicate 96 0;
    }

-- the attestations of a slot, committee by committee
unfoldable pub votes_of : PlainState → List ℕ → ℕ → List Attestation
votes_of state root slot =
    map (vote_of state root slot) (range_with_len 0 (get_committee_count_per_slot state (compute_epoch_at_slot state.preset slot)))
