-- What a block's step answers to an operation.
use Rattle.std.proofs.Common.{◌≡◌, ℕ, ◌<◌, List, length}
use Rattle.std.specs.List.{All, Contains}
use Rattle.bc_words.specs.Outcome.{done, refused}
use Rattle.bc_words.specs.declared.refusal.Refusal.TheVariants.{AsNone}
use Rattle.bc_preset.specs.declared.configuration.ConfigValues.{ConfigValues}
use Rattle.beacon_types.specs.declared.attester_slashing.AttesterSlashing.{AttesterSlashing}
use Rattle.spec_state.specs.declared.plain.PlainState.{PlainState}
use Rattle.spec_state.specs.Limits.{IsState}
use Rattle.spec_state.specs.Soundness.{IsSound}
use Rattle.spec_blocks.specs.IsValidIndexedAttestation.{is_valid_indexed_attestation}
use Rattle.spec_blocks.specs.ProcessAttesterSlashing.{process_attester_slashing}
use Rattle.spec_forensics.specs.Histories.{AcceptedBlock}
use Rattle.spec_slasher.specs.Operations.{operations}
use Rattle.spec_slasher.specs.Accepts.{IsDoneOrOverflow, IsHeld, HasSlashable, HasNoSlashable, IsProcessed}
use Rattle.spec_slasher.proofs.Lists.{one_of, contained, all_are}
use Rattle.spec_slasher.proofs.Accepts.{operation_right, first_valid, second_valid, right_processed}
use Rattle.spec_slasher.proofs.Nobody.{right_none}

pub operation_valid_first : (genesis : PlainState) (first second : List AcceptedBlock) (operation : AttesterSlashing) (s : PlainState) → Contains (operations genesis first second) operation → IsHeld s operation
    → is_valid_indexed_attestation s operation.attestation_1 ≡ done tt
operation_valid_first genesis first second operation s h held = first_valid s operation (operation_right genesis first second operation (one_of _ operation h)) held

pub operation_valid_second : (genesis : PlainState) (first second : List AcceptedBlock) (operation : AttesterSlashing) (s : PlainState) → Contains (operations genesis first second) operation → IsHeld s operation
    → is_valid_indexed_attestation s operation.attestation_2 ≡ done tt
operation_valid_second genesis first second operation s h held = second_valid s operation (operation_right genesis first second operation (one_of _ operation h)) held

pub operation_processed : (genesis : PlainState) (first second : List AcceptedBlock) (operation : AttesterSlashing) (s : PlainState) (proposer : ℕ) (config : ConfigValues)
    → Contains (operations genesis first second) operation → IsState s → IsSound s → proposer < length s.validators → IsHeld s operation → HasSlashable s operation → IsDoneOrOverflow (process_attester_slashing s operation proposer config)
operation_processed genesis first second operation s proposer config h state sound proposes held slashable =
    right_processed s operation proposer config state sound proposes (operation_right genesis first second operation (one_of _ operation h)) held slashable

pub operation_for_nobody : (genesis : PlainState) (first second : List AcceptedBlock) (operation : AttesterSlashing) (s : PlainState) (proposer : ℕ) (config : ConfigValues)
    → Contains (operations genesis first second) operation → IsHeld s operation → HasNoSlashable s operation → process_attester_slashing s operation proposer config ≡ refused AsNone
operation_for_nobody genesis first second operation s proposer config h held none = right_none proposer config s operation (operation_right genesis first second operation (one_of _ operation h)) held none

pub all_processed : (genesis : PlainState) (first second : List AcceptedBlock) → All IsProcessed (operations genesis first second)
all_processed genesis first second =
    all_are IsProcessed (operations genesis first second)
    (λ operation h s proposer config state sound proposes held slashable. operation_processed genesis first second operation s proposer config (contained (operations genesis first second) operation h) state sound proposes held slashable)
