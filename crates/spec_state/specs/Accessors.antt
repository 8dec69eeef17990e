-- Beacon state accessors (beacon-chain.md, "Beacon state accessors"), in the published order. A plain state holds its
-- preset.
use Rattle.std.specs.Prelude.{ℕ, suc, ◌+◌, ◌-◌, ◌*◌, ◌/◌, ◌%◌, max, Bool, List, [], ◌∷◌, ◌++◌, length, slice_index_or, if◌then◌else◌}
use Rattle.bc_words.specs.Outcome.{Outcome, done, ◌>>=◌, checked_sum_by}
use Rattle.bc_preset.specs.declared.configuration.ConfigValues.{ConfigValues}
use Rattle.hash_tree.specs.Merkle.{hash, uint_to_bytes}
use Rattle.beacon_types.specs.declared.attestation_data.AttestationData.{AttestationData}
use Rattle.beacon_types.specs.declared.validator.Validator.{Validator}
use Rattle.committees.specs.Seeds.{seed_from}
use Rattle.committees.specs.Committees.{committee_count_per_slot, compute_committee}
use Rattle.spec_state.specs.declared.plain.PlainState.{PlainState}
use Rattle.spec_state.specs.Constants.{domain_beacon_proposer, domain_beacon_attester}
use Rattle.spec_state.specs.Predicates.{is_active_validator}
use Rattle.spec_state.specs.Misc.{effective_balance, compute_proposer_index, compute_epoch_at_slot, compute_start_slot_at_epoch}

-- get_current_epoch
unfoldable pub get_current_epoch : PlainState → ℕ
get_current_epoch state = compute_epoch_at_slot state.preset state.slot

-- get_previous_epoch: at epoch 0 it is epoch 0
unfoldable pub get_previous_epoch : PlainState → ℕ
get_previous_epoch state = get_current_epoch state - 1

-- get_block_root_at_slot. The published assert, that the slot is before the state's and no more than
-- SLOTS_PER_HISTORICAL_ROOT before it, isn't there: whoever asks has such a slot. Roots are asked for at the slots of pending
-- attestations, which are before the state's, and at the beginnings of the current and the previous epoch when an epoch
-- ends, and two epochs have fewer slots than roots are kept.
unfoldable pub get_block_root_at_slot : PlainState → ℕ → List ℕ
get_block_root_at_slot state slot = slice_index_or state.block_roots (slot % state.preset.slots_per_historical_root) []

-- get_block_root
unfoldable pub get_block_root : PlainState → ℕ → List ℕ
get_block_root state epoch = get_block_root_at_slot state (compute_start_slot_at_epoch state.preset epoch)

-- get_randao_mix
unfoldable pub get_randao_mix : PlainState → ℕ → List ℕ
get_randao_mix state epoch = slice_index_or state.randao_mixes (epoch % state.preset.epochs_per_historical_vector) []

-- the indices of the validators that pass a test, in order, where the first has this index
unfoldable pub indices_from : (Validator → Bool) → ℕ → List Validator → List ℕ
indices_from test index [] = []
indices_from test index (v ∷ validators) =
    if test v then index ∷ indices_from test (suc index) validators else indices_from test (suc index) validators

-- get_active_validator_indices
unfoldable pub get_active_validator_indices : PlainState → ℕ → List ℕ
get_active_validator_indices state epoch = indices_from (λ v. is_active_validator v epoch) 0 state.validators

-- get_validator_churn_limit, which takes two numbers from the configuration
unfoldable pub get_validator_churn_limit : PlainState → ConfigValues → ℕ
get_validator_churn_limit state config =
    max config.min_per_epoch_churn_limit (length (get_active_validator_indices state (get_current_epoch state)) / config.churn_limit_quotient)

-- get_seed: hash(domain_type + uint_to_bytes(epoch) + the mix of MIN_SEED_LOOKAHEAD + 1 epochs before)
abbrev pub get_seed : PlainState → ℕ → List ℕ → List ℕ
get_seed state epoch domain_type = seed_from state.preset (get_randao_mix state) epoch domain_type

-- get_committee_count_per_slot
unfoldable pub get_committee_count_per_slot : PlainState → ℕ → ℕ
get_committee_count_per_slot state epoch = committee_count_per_slot state.preset (length (get_active_validator_indices state epoch))

-- get_beacon_committee
unfoldable pub get_beacon_committee : PlainState → ℕ → ℕ → List ℕ
get_beacon_committee state slot index =
    let epoch : ℕ = compute_epoch_at_slot state.preset slot in
    let committees_per_slot : ℕ = get_committee_count_per_slot state epoch in
    compute_committee state.preset.shuffle_round_count (get_active_validator_indices state epoch) (get_seed state epoch domain_beacon_attester)
    (slot % state.preset.slots_per_epoch * committees_per_slot + index) (committees_per_slot * state.preset.slots_per_epoch)

-- get_beacon_proposer_index
unfoldable pub get_beacon_proposer_index : PlainState → Outcome ℕ
get_beacon_proposer_index state =
    let epoch : ℕ = get_current_epoch state in
    let seed : List ℕ = hash (get_seed state epoch domain_beacon_proposer ++ uint_to_bytes state.slot) in
    compute_proposer_index state (get_active_validator_indices state epoch) seed

-- get_total_balance: at least one increment, and refused where the sum does not fit in a uint64
unfoldable pub get_total_balance : PlainState → List ℕ → Outcome ℕ
get_total_balance state indices = do
  sum ← checked_sum_by (effective_balance state.validators) indices
  done (max state.preset.effective_balance_increment sum)

-- get_total_active_balance
abbrev pub get_total_active_balance : PlainState → Outcome ℕ
get_total_active_balance state = get_total_balance state (get_active_validator_indices state (get_current_epoch state))

-- the members of a committee whose bit is set, in the committee's order
unfoldable pub members_with_bits : List ℕ → List Bool → List ℕ
members_with_bits [] bits = []
members_with_bits (member ∷ committee) [] = []
members_with_bits (member ∷ committee) (bit ∷ bits) =
    if bit then member ∷ members_with_bits committee bits else members_with_bits committee bits

-- get_attesting_indices, in the committee's order. The published argument data is called content.
unfoldable pub get_attesting_indices : PlainState → AttestationData → List Bool → List ℕ
get_attesting_indices state content bits = members_with_bits (get_beacon_committee state content.slot content.index) bits
