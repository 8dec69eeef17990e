-- Genesis: which states begin a chain, and the root of the genesis block (beacon-chain.md, "Genesis"; a state that
-- initialize_beacon_state_from_eth1 makes is one).
use Rattle.std.specs.Prelude.{ℕ, ◌+◌, ◌&&◌, not, Bool, List, [], ◌∷◌, length, Option, Some, None, Result, Ok, Err, nat_lt, ◌==◌, if◌then◌else◌}
use Rattle.std.specs.List.{list_all}
use Rattle.bc_preset.specs.declared.presets.Preset.{Preset}
use Rattle.beacon_types.specs.declared.block_header.BeaconBlockHeader.{BeaconBlockHeader}
use Rattle.beacon_types.specs.declared.checkpoint.Checkpoint.{Checkpoint}
use Rattle.beacon_types.specs.declared.validator.Validator.{Validator}
use Rattle.beacon_types.specs.Containers.{block_header_codec}
use Rattle.beacon_types.specs.Blocks.{empty_body_root}
use Rattle.spec_state.specs.declared.plain.PlainState.{PlainState}
use Rattle.spec_state.specs.declared.fault.ValidatorFault.{ValidatorFault}
use Rattle.spec_state.specs.declared.fault.ValidatorFault.TheVariants as validators
use Rattle.spec_state.specs.declared.fault.GenesisFault.{GenesisFault}
use Rattle.spec_state.specs.declared.fault.GenesisFault.TheVariants as parts
pub use Rattle.hash_tree.specs.Merkle.{zero_root}
pub use Rattle.beacon_types.specs.Equality.{same_root}
use Rattle.spec_state.specs.Constants.{far_future_epoch, max_genesis_len}
use Rattle.spec_state.specs.States.{state_codec}

-- the header with the state's root, as it is once the slot is over
unfoldable pub block_header_of : PlainState → BeaconBlockHeader
block_header_of s =
    if same_root s.latest_block_header.state_root zero_root then record s.latest_block_header { state_root = (state_codec s.preset).hash_tree_root s }
    else s.latest_block_header

-- The root of the latest block: that of its header, whose zero state root is replaced by the state's root.
unfoldable pub header_root_of : PlainState → List ℕ
header_root_of s = block_header_codec.hash_tree_root (block_header_of s)

-- the header of an empty block of slot 0
abbrev pub is_genesis_header : BeaconBlockHeader → Bool
is_genesis_header h =
    (h.slot == 0) && ((h.proposer_index == 0) && (same_root h.parent_root zero_root && (same_root h.state_root zero_root && same_root h.body_root empty_body_root)))

abbrev pub is_zero_checkpoint : Checkpoint → Bool
is_zero_checkpoint c = (c.epoch == 0) && same_root c.root zero_root

-- what is wrong with a validator, if anything is
unfoldable pub validator_fault : ℕ → Validator → Option ValidatorFault
validator_fault most v =
    if v.slashed then Some validators.Slashed
    else (if not (v.exit_epoch == far_future_epoch) then Some validators.ExitEpoch
    else (if not (v.withdrawable_epoch == far_future_epoch) then Some validators.WithdrawableEpoch
    else (if not (v.activation_epoch == 0) && not (v.activation_epoch == far_future_epoch) then Some validators.ActivationEpoch
    else (if nat_lt most v.effective_balance then Some validators.EffectiveBalance
    else None))))

-- the fault of one validator, or else that of those behind it
abbrev pub or_later : ℕ → Option ValidatorFault → Option GenesisFault → Option GenesisFault
or_later i (Some wrong) later = Some (parts.Validator i wrong)
or_later i None later = later

-- the first validator that is wrong, where the first has this index
unfoldable pub validators_fault : ℕ → ℕ → List Validator → Option GenesisFault
validators_fault most i [] = None
validators_fault most i (v ∷ vs) = or_later i (validator_fault most v) (validators_fault most (i + 1) vs)

-- The first part of a state that no genesis has, if there is one: a genesis is at slot 0, with the header of an empty
-- block, nothing justified, slashed, pending or voted, and validators that never left.
unfoldable pub genesis_fault : PlainState → Option GenesisFault
genesis_fault s =
    if not (s.slot == 0) then Some parts.Slot
    else (if not (is_genesis_header s.latest_block_header) then Some parts.Header
    else (if not (is_zero_checkpoint s.previous_justified_checkpoint && (is_zero_checkpoint s.current_justified_checkpoint && is_zero_checkpoint s.finalized_checkpoint)) then Some parts.Checkpoints
    else (if not (list_all not s.justification_bits) then Some parts.Bits
    else (if not (list_all (λ n. n == 0) s.slashings) then Some parts.Slashings
    else (if not ((length s.previous_epoch_attestations == 0) && ((length s.current_epoch_attestations == 0) && ((length s.eth1_data_votes == 0) && (length s.historical_roots == 0)))) then Some parts.Lists
    else (if not (length s.balances == length s.validators) then Some parts.Balances
    else validators_fault s.preset.max_effective_balance 0 s.validators))))))

-- the state, unless a part of it is wrong
abbrev pub sound_genesis : PlainState → Option GenesisFault → Result PlainState GenesisFault
sound_genesis s None = Ok s
sound_genesis s (Some fault) = Err fault

abbrev pub checked_genesis : Option PlainState → Result PlainState GenesisFault
checked_genesis None = Err parts.NotAWriting
checked_genesis (Some s) = sound_genesis s (genesis_fault s)

-- The genesis state that a file of this many bytes at most holds, or the first part of the file that is wrong.
unfoldable pub genesis_of : Preset → List ℕ → Result PlainState GenesisFault
genesis_of preset bytes = if nat_lt max_genesis_len (length bytes) then Err parts.TooLong else checked_genesis ((state_codec preset).deserialize bytes)
