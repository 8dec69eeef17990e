-- initialize_beacon_state_from_eth1 (beacon-chain.md, "Genesis"): the state that a chain begins with, of the deposits of the
-- contract. The genesis time is given with GENESIS_DELAY already added. Signatures are off: a key joins whoever signed for it.
use Rattle.std.specs.Prelude.{ℕ, ◌-◌, ◌%◌, min, List, [], ◌∷◌, ◌++◌, length, replicate, false, ◌==◌, if◌then◌else◌}
use Rattle.bc_words.specs.Outcome.{Outcome, done, refused, limited}
use Rattle.bc_words.specs.declared.refusal.Refusal.{Refusal}
use Rattle.bc_words.specs.declared.stop.Limit.{Limit}
use Rattle.bc_preset.specs.declared.presets.Preset.{Preset}
use Rattle.ssz_codec.specs.Lists.{list_codec}
use Rattle.beacon_types.specs.declared.block_header.BeaconBlockHeader.{BeaconBlockHeader}
use Rattle.beacon_types.specs.declared.checkpoint.Checkpoint.{Checkpoint}
use Rattle.beacon_types.specs.declared.deposit_data.DepositData.{DepositData}
use Rattle.beacon_types.specs.declared.validator.Validator.{Validator}
use Rattle.beacon_types.specs.Containers.{validator_codec}
use Rattle.beacon_types.specs.Blocks.{empty_body_root}
use Rattle.spec_state.specs.declared.plain.PlainState.{PlainState}
use Rattle.spec_state.specs.Genesis.{zero_root}
use Rattle.spec_blocks.specs.ProcessDeposit.{process_deposit}
use Rattle.spec_genesis.specs.Branches.{deposits_codec, deposit_leaves, branch_of}

abbrev pub zero_checkpoint : Checkpoint
zero_checkpoint = record { epoch = 0; root = zero_root }

-- the header of the empty block
abbrev pub empty_header : BeaconBlockHeader
empty_header = record { slot = 0; proposer_index = 0; parent_root = zero_root; state_root = zero_root; body_root = empty_body_root }

-- the state before so many deposits: all is zero or empty but what is given
unfoldable pub state_before_deposits : Preset → List ℕ → List ℕ → ℕ → ℕ → PlainState
state_before_deposits preset fork_version eth1_block_hash genesis_time deposit_count =
    record {
      preset = preset;
      genesis_time = genesis_time;
      genesis_validators_root = zero_root;
      slot = 0;
      fork = record { previous_version = fork_version; current_version = fork_version; epoch = 0 };
      latest_block_header = empty_header;
      block_roots = replicate preset.slots_per_historical_root zero_root;
      state_roots = replicate preset.slots_per_historical_root zero_root;
      historical_roots = [];
      eth1_data = record { deposit_root = zero_root; deposit_count = deposit_count; block_hash = eth1_block_hash };
      eth1_data_votes = [];
      eth1_deposit_index = 0;
      validators = [];
      balances = [];
      randao_mixes = replicate preset.epochs_per_historical_vector eth1_block_hash;
      slashings = replicate preset.epochs_per_slashings_vector 0;
      previous_epoch_attestations = [];
      current_epoch_attestations = [];
      justification_bits = false ∷ false ∷ false ∷ false ∷ [];
      previous_justified_checkpoint = zero_checkpoint;
      current_justified_checkpoint = zero_checkpoint;
      finalized_checkpoint = zero_checkpoint;
    }

-- How the making ends: the state, or the first deposit that stops it, from 0
pub data Initialized : Type 0 where
  made : PlainState → Initialized
  refused_at : ℕ → Refusal → Initialized
  limited_at : ℕ → Limit → Initialized

-- the outcome of the deposit with this index, and then what comes behind it
abbrev pub deposit_then : ℕ → Outcome PlainState → (PlainState → Initialized) → Initialized
deposit_then index (done state) next = next state
deposit_then index (refused why) next = refused_at index why
deposit_then index (limited bound) next = limited_at index bound

-- the deposit root is that of the deposits so far
abbrev pub with_deposit_root : PlainState → List DepositData → PlainState
with_deposit_root state so_far = record state { eth1_data = record state.eth1_data { deposit_root = deposits_codec.hash_tree_root so_far } }

-- a deposit behind others, with its branch in the list that it ends
unfoldable pub process_genesis_deposit : PlainState → List DepositData → DepositData → Outcome PlainState
process_genesis_deposit state before deposit =
    let so_far = before ++ deposit ∷ [] in
    process_deposit (with_deposit_root state so_far) (record { proof = branch_of (deposit_leaves so_far) (length before); content = deposit })

-- the deposits in their order, behind others
unfoldable pub process_genesis_deposits : PlainState → List DepositData → List DepositData → Initialized
process_genesis_deposits state before [] = made state
process_genesis_deposits state before (deposit ∷ deposits) =
    deposit_then (length before) (process_genesis_deposit state before deposit) (λ next. process_genesis_deposits next (before ++ deposit ∷ []) deposits)

-- a validator at genesis: its effective balance is its balance in whole increments, up to the greatest one, and with the
-- greatest one it is active
unfoldable pub genesis_validator : Preset → Validator → ℕ → Validator
genesis_validator preset validator balance =
    let effective_balance = min (balance - balance % preset.effective_balance_increment) preset.max_effective_balance in
    let credited = record validator { effective_balance = effective_balance } in
    if effective_balance == preset.max_effective_balance then record credited { activation_eligibility_epoch = 0; activation_epoch = 0 }
    else credited

-- each validator with its balance; there are as many of both
unfoldable pub genesis_validators : Preset → List Validator → List ℕ → List Validator
genesis_validators preset [] balances = []
genesis_validators preset (validator ∷ validators) [] = validator ∷ validators
genesis_validators preset (validator ∷ validators) (balance ∷ balances) = genesis_validator preset validator balance ∷ genesis_validators preset validators balances

-- the state behind its deposits: its validators as they are at genesis, and their root
unfoldable pub with_activations : PlainState → PlainState
with_activations state =
    let validators = genesis_validators state.preset state.validators state.balances in
    record state { validators = validators; genesis_validators_root = (list_codec validator_codec state.preset.validator_registry_limit).hash_tree_root validators }

abbrev pub activated : Initialized → Initialized
activated (made state) = made (with_activations state)
activated (refused_at index why) = refused_at index why
activated (limited_at index bound) = limited_at index bound

-- initialize_beacon_state_from_eth1(eth1_block_hash, eth1_timestamp, deposits), under this preset and GENESIS_FORK_VERSION
unfoldable pub initialize_beacon_state_from_eth1 : Preset → List ℕ → List ℕ → ℕ → List DepositData → Initialized
initialize_beacon_state_from_eth1 preset fork_version eth1_block_hash genesis_time deposits =
    activated (process_genesis_deposits (state_before_deposits preset fork_version eth1_block_hash genesis_time (length deposits)) [] deposits)
