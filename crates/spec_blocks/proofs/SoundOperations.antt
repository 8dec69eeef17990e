-- Each operation of a block keeps a state sound.
use Rattle.std.proofs.Common.{◌≡◌, ℕ, ◌<◌, not, ◌==◌, List, subst}
use Rattle.bc_words.specs.Outcome.{done}
use Rattle.bc_words.specs.declared.refusal.Refusal.TheVariants.{WrongProposer, ProposerSlashed}
use Rattle.bc_preset.specs.declared.configuration.ConfigValues.{ConfigValues}
use Rattle.beacon_types.specs.declared.validator.Validator.{Validator}
use Rattle.beacon_types.specs.declared.signed_exit.SignedVoluntaryExit.{SignedVoluntaryExit}
use Rattle.beacon_types.specs.declared.deposit.Deposit.{Deposit}
use Rattle.beacon_types.specs.declared.proposer_slashing.ProposerSlashing.{ProposerSlashing}
use Rattle.beacon_types.specs.declared.attester_slashing.AttesterSlashing.{AttesterSlashing}
use Rattle.beacon_types.specs.declared.block.BeaconBlock.{BeaconBlock}
use Rattle.spec_state.specs.declared.plain.PlainState.{PlainState}
use Rattle.spec_state.specs.Constants.{far_future_epoch}
use Rattle.spec_state.specs.Accessors.{get_current_epoch}
use Rattle.spec_state.specs.Soundness.{IsSound}
use Rattle.spec_blocks.specs.Checks.{check, item_at}
use Rattle.spec_blocks.specs.InitiateValidatorExit.{initiate_validator_exit}
use Rattle.spec_blocks.specs.SlashValidator.{slash_validator}
use Rattle.spec_blocks.specs.ProcessBlockHeader.{process_block_header, header_of}
use Rattle.spec_blocks.specs.ProcessProposerSlashing.{process_proposer_slashing}
use Rattle.spec_blocks.specs.ProcessAttesterSlashing.{process_attester_slashing}
use Rattle.spec_blocks.specs.ProcessDeposit.{process_deposit}
use Rattle.spec_blocks.specs.ProcessVoluntaryExit.{process_voluntary_exit}
use Rattle.spec_blocks.proofs.Done.{on_the_way, same_value}
use Rattle.spec_blocks.proofs.Registry.{RegistryChange, exit_keeps, slash_keeps, voluntary_exit_keeps, proposer_slashing_keeps, attester_slashing_keeps, deposit_keeps}
use Rattle.spec_blocks.proofs.SoundHeads.{header_sound}
use Rattle.spec_blocks.proofs.SoundRegistry.{registry_sound}

-- the block's header
pub block_header_sound : (s t : PlainState) (block : BeaconBlock) (proposer : ℕ) → process_block_header s block proposer ≡ done t → block.slot ≡ s.slot → IsSound s → IsSound t
unfolding process_block_header
block_header_sound s t block proposer is same sound =
    let right = on_the_way (check (block.proposer_index == proposer) WrongProposer) _ t is in
    let validator = on_the_way (item_at s.validators block.proposer_index) _ t right.then_done in
    let free = on_the_way (check (not validator.value.slashed) ProposerSlashed) _ t validator.then_done in
    subst IsSound (same_value _ t free.then_done) (header_sound s (header_of block) same sound)

-- a state that is sound, and whose epoch has epochs behind it
record Going (s : PlainState) : Type 0 where
  sound : IsSound s
  before : get_current_epoch s < far_future_epoch

registry_going : (s : PlainState) (validators : List Validator) (balances slashings : List ℕ) (deposits : ℕ) → RegistryChange s validators balances → Going s
    → Going (record s { validators = validators; balances = balances; slashings = slashings; eth1_deposit_index = deposits })
unfolding get_current_epoch
registry_going s validators balances slashings deposits change going = record {
  sound = registry_sound s validators balances slashings deposits change going.before going.sound;
  before = going.before;
}

pub exit_sound : (s t : PlainState) (index : ℕ) (config : ConfigValues) → initiate_validator_exit s index config ≡ done t → get_current_epoch s < far_future_epoch → IsSound s → IsSound t
exit_sound s t index config is before sound = (exit_keeps Going registry_going s t index config is (record { sound = sound; before = before })).sound

pub slash_sound : (s t : PlainState) (index proposer : ℕ) (config : ConfigValues) → slash_validator s index proposer config ≡ done t → get_current_epoch s < far_future_epoch → IsSound s → IsSound t
slash_sound s t index proposer config is before sound = (slash_keeps Going registry_going s t index proposer config is (record { sound = sound; before = before })).sound

pub proposer_slashing_sound : (s t : PlainState) (slashing : ProposerSlashing) (proposer : ℕ) (config : ConfigValues) → process_proposer_slashing s slashing proposer config ≡ done t
    → get_current_epoch s < far_future_epoch → IsSound s → IsSound t
proposer_slashing_sound s t slashing proposer config is before sound =
    (proposer_slashing_keeps Going registry_going proposer config s t slashing is (record { sound = sound; before = before })).sound

pub attester_slashing_sound : (s t : PlainState) (slashing : AttesterSlashing) (proposer : ℕ) (config : ConfigValues) → process_attester_slashing s slashing proposer config ≡ done t
    → get_current_epoch s < far_future_epoch → IsSound s → IsSound t
attester_slashing_sound s t slashing proposer config is before sound =
    (attester_slashing_keeps Going registry_going proposer config s t slashing is (record { sound = sound; before = before })).sound

pub deposit_sound : (s t : PlainState) (deposit : Deposit) → process_deposit s deposit ≡ done t → get_current_epoch s < far_future_epoch → IsSound s → IsSound t
deposit_sound s t deposit is before sound = (deposit_keeps Going registry_going s t deposit is (record { sound = sound; before = before })).sound

pub voluntary_exit_sound : (s t : PlainState) (exit : SignedVoluntaryExit) (config : ConfigValues) → process_voluntary_exit s exit config ≡ done t
    → get_current_epoch s < far_future_epoch → IsSound s → IsSound t
voluntary_exit_sound s t exit config is before sound = (voluntary_exit_keeps Going registry_going config s t exit is (record { sound = sound; before = before })).sound
