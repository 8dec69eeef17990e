-- What the fields of a state stand for, and what holds of them.
use Rattle.std.specs.Prelude.{◌≡◌, ℕ, List}
use Rattle.std.specs.Option.{IfSome}
use Rattle.shared_tree.specs.Lists.{Limited}
use Rattle.state_parts.specs.inside.Lists.{limited_to}
use Rattle.active_sets.specs.declared.active_lists.ActiveLists.{ActiveLists}
use Rattle.active_sets.specs.inside.Kept.{AreActiveIn}
use Rattle.bc_preset.specs.declared.presets.Preset.{Preset}
use Rattle.spec_state.specs.States.{state_codec, votes_limit, attestations_limit}
use Rattle.spec_state.specs.Limits.{IsState}
use Rattle.spec_state.specs.Genesis.{header_root_of}
use Rattle.beacon_types.specs.declared.eth1_data.Eth1Data.{Eth1Data}
use Rattle.beacon_types.specs.declared.validator.Validator.{Validator}
use Rattle.beacon_types.specs.declared.pending_attestation.PendingAttestation.{PendingAttestation}
use Rattle.spec_state.specs.declared.plain.PlainState.{PlainState}
use Rattle.beacon_state.specs.declared.state.KeptRoot.{KeptRoot}
use Rattle.beacon_state.specs.declared.state.Fields.{Fields}

abbrev pub plain_of : Fields → PlainState
plain_of s = record {
  preset = s.preset;
  genesis_time = s.genesis_time;
  genesis_validators_root = s.genesis_validators_root;
  slot = s.slot;
  fork = s.fork;
  latest_block_header = s.latest_block_header;
  block_roots = s.block_roots.items;
  state_roots = s.state_roots.items;
  historical_roots = s.historical_roots.items;
  eth1_data = s.eth1_data;
  eth1_data_votes = s.eth1_data_votes.items;
  eth1_deposit_index = s.eth1_deposit_index;
  validators = s.validators;
  balances = s.balances.items;
  randao_mixes = s.randao_mixes.items;
  slashings = s.slashings.items;
  previous_epoch_attestations = s.previous_epoch_attestations.items;
  current_epoch_attestations = s.current_epoch_attestations.items;
  justification_bits = s.justification_bits;
  previous_justified_checkpoint = s.previous_justified_checkpoint;
  current_justified_checkpoint = s.current_justified_checkpoint;
  finalized_checkpoint = s.finalized_checkpoint;
}

-- these are the roots of a state and of its latest block, as far as they are kept
pub record HasRoot (s : PlainState) (kept : KeptRoot) : Type 0 where
  pub root : kept.root ≡ (state_codec s.preset).hash_tree_root s
  pub header : IfSome kept.header (λ root. root ≡ header_root_of s)

-- it is a state, each list has the limit of the preset, each vector its length, roots that are kept are the state's, and lists and
-- committees that are kept are of its registry and its preset
pub record IsHeld (s : Fields) : Type 0 where
  pub state : IsState (plain_of s)
  pub block_roots_limit : s.block_roots.limit ≡ s.preset.slots_per_historical_root
  pub state_roots_limit : s.state_roots.limit ≡ s.preset.slots_per_historical_root
  pub historical_roots_limit : s.historical_roots.limit ≡ s.preset.historical_roots_limit
  pub eth1_data_votes_limit : s.eth1_data_votes.limit ≡ votes_limit s.preset
  pub balances_limit : s.balances.limit ≡ s.preset.validator_registry_limit
  pub randao_mixes_limit : s.randao_mixes.limit ≡ s.preset.epochs_per_historical_vector
  pub slashings_limit : s.slashings.limit ≡ s.preset.epochs_per_slashings_vector
  pub previous_epoch_attestations_limit : s.previous_epoch_attestations.limit ≡ attestations_limit s.preset
  pub current_epoch_attestations_limit : s.current_epoch_attestations.limit ≡ attestations_limit s.preset
  pub kept_root : IfSome s.kept_root (HasRoot (plain_of s))
  pub active_lists : AreActiveIn s.validators s.active_lists
  pub kept_committees : s.kept_committees ≡ s.preset

-- these are lists of active validators, and committees, that a state may keep
abbrev pub HasKept : PlainState → ActiveLists × Preset → Type 0
HasKept s kept = AreActiveIn s.validators kept.0 × (kept.1 ≡ s.preset)

-- these are the lists of a state, each with its limit: those of roots, those by validator or epoch, and those that a period or
-- an epoch fills
abbrev pub HasRoots : PlainState → ((Limited (List ℕ) × Limited (List ℕ)) × Limited (List ℕ)) × Limited (List ℕ) → Type 0
HasRoots s lists =
    (lists.0.0.0 ≡ limited_to s.preset.slots_per_historical_root s.block_roots)
    × (lists.0.0.1 ≡ limited_to s.preset.slots_per_historical_root s.state_roots)
    × (lists.0.1 ≡ limited_to s.preset.historical_roots_limit s.historical_roots)
    × (lists.1 ≡ limited_to s.preset.epochs_per_historical_vector s.randao_mixes)

abbrev pub HasRegistry : PlainState → (List Validator × Limited ℕ) × Limited ℕ → Type 0
HasRegistry s lists =
    (lists.0.0 ≡ s.validators)
    × (lists.0.1 ≡ limited_to s.preset.validator_registry_limit s.balances)
    × (lists.1 ≡ limited_to s.preset.epochs_per_slashings_vector s.slashings)

abbrev pub HasPending : PlainState → (Limited Eth1Data × Limited PendingAttestation) × Limited PendingAttestation → Type 0
HasPending s lists =
    (lists.0.0 ≡ limited_to (votes_limit s.preset) s.eth1_data_votes)
    × (lists.0.1 ≡ limited_to (attestations_limit s.preset) s.previous_epoch_attestations)
    × (lists.1 ≡ limited_to (attestations_limit s.preset) s.current_epoch_attestations)
