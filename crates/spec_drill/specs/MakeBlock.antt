-- The block of a slot.
use Rattle.std.specs.Prelude.{ℕ, List, [], ◌++◌, replicate}
use Rattle.bc_words.specs.Outcome.{Outcome, done, ◌>>=◌}
use Rattle.beacon_types.specs.declared.attestation.Attestation.{Attestation}
use Rattle.beacon_types.specs.declared.block.BeaconBlock.{BeaconBlock}
use Rattle.beacon_types.specs.declared.body.BeaconBlockBody.{BeaconBlockBody}
use Rattle.beacon_types.specs.declared.signed_block.SignedBeaconBlock.{SignedBeaconBlock}
use Rattle.spec_state.specs.declared.plain.PlainState.{PlainState}
use Rattle.spec_state.specs.Genesis.{zero_root}
use Rattle.spec_state.specs.States.{state_codec}
use Rattle.spec_state.specs.Accessors.{get_beacon_proposer_index}
use Rattle.spec_blocks.specs.ProcessBlock.{process_block}
use Rattle.spec_drill.specs.Plan.{Plan, slot_digest, graffiti_of}
use Rattle.spec_drill.specs.MakeGenesis.{zero_eth1}

-- Its body: the attestations, no other operation, and a vote for the eth1 data of genesis
unfoldable pub body_of : Plan → PlainState → List Attestation → BeaconBlockBody
body_of plan state votes = record {
  randao_reveal = slot_digest plan.number state.slot ++ slot_digest plan.number state.slot ++ slot_digest plan.number state.slot;
  eth1_data = zero_eth1;
  graffiti = graffiti_of plan state.slot;
  proposer_slashings = [];
  attester_slashings = [];
  attestations = votes;
  deposits = [];
  voluntary_exits = [];
}

-- the block on a block with this root, as yet without the root of the state behind it
unfoldable pub unrooted : Plan → PlainState → List ℕ → List Attestation → ℕ → BeaconBlock
unrooted plan state parent_root votes proposer = record {
  slot = state.slot;
  proposer_index = proposer;
  parent_root = parent_root;
  state_root = zero_root;
  body = body_of plan state votes;
}

-- a block, signed by zeros, with the state behind it
pub record MadeBlock : Type 0 where
  pub block : SignedBeaconBlock
  pub state : PlainState

-- the block of the state's slot, or the first stop: that of the proposer's lookup, or of the block's own steps
unfoldable pub make_block : Plan → PlainState → List ℕ → List Attestation → Outcome MadeBlock
make_block plan state parent_root votes = do
  proposer ← get_beacon_proposer_index state
  let block = unrooted plan state parent_root votes proposer
  processed ← process_block state block plan.config
  let rooted = record block { state_root = (state_codec processed.preset).hash_tree_root processed }
  done (record { block = record { message = rooted; signature = replicate 96 0 }; state = processed })
