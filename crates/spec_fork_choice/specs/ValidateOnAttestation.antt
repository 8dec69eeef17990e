-- validate_on_attestation (fork-choice.md, "validate_on_attestation").
use Rattle.std.specs.Prelude.{◌-◌, ◌||◌, Bool, leb, nat_lt, ◌==◌, if◌then◌else◌}
use Rattle.bc_words.specs.Outcome.{Outcome, done}
use Rattle.bc_words.specs.declared.refusal.Refusal.TheVariants.{FcTargetTime, FcSlotEpoch, FcTargetUnknown, FcBlockUnknown, FcBlockAfter, FcTargetChain, FcTooEarly}
use Rattle.beacon_types.specs.Equality.{same_root}
use Rattle.beacon_types.specs.declared.attestation.Attestation.{Attestation}
use Rattle.spec_state.specs.Misc.{compute_epoch_at_slot}
use Rattle.spec_blocks.specs.Checks.{check, ◌>>◌}
use Rattle.spec_fork_choice.specs.Store.{Store, is_kept, slot_of}
use Rattle.spec_fork_choice.specs.Slots.{get_current_slot, start_slot_of}
use Rattle.spec_fork_choice.specs.GetAncestor.{get_ancestor}

-- validate_target_epoch_against_current_time: the target is of the current epoch or the one before, which at epoch 0 is 0
unfoldable pub validate_target_epoch_against_current_time : Store → Attestation → Outcome (Unit {0})
validate_target_epoch_against_current_time store attestation = do
  let current_epoch = compute_epoch_at_slot store.config.preset (get_current_slot store)
  check ((attestation.content.target.epoch == current_epoch) || (attestation.content.target.epoch == current_epoch - 1)) FcTargetTime

-- the check that an attestation from the wire has besides
unfoldable pub check_time : Store → Attestation → Bool → Outcome (Unit {0})
check_time store attestation is_from_block = if is_from_block then done tt else validate_target_epoch_against_current_time store attestation

-- validate_on_attestation(store, attestation, is_from_block)
unfoldable pub validate_on_attestation : Store → Attestation → Bool → Outcome (Unit {0})
validate_on_attestation store attestation is_from_block = do
  let content = attestation.content
  let target = content.target
  check_time store attestation is_from_block
  -- the target's epoch is the slot's
  check (target.epoch == compute_epoch_at_slot store.config.preset content.slot) FcSlotEpoch
  -- the target and the block are known
  check (is_kept store.blocks target.root) FcTargetUnknown
  check (is_kept store.blocks content.beacon_block_root) FcBlockUnknown
  -- the block isn't later than the vote
  check (leb (slot_of store.blocks content.beacon_block_root) content.slot) FcBlockAfter
  -- and the target is on its chain
  check (same_root (get_ancestor store content.beacon_block_root (start_slot_of store target)) target.root) FcTargetChain
  -- the vote's slot is over
  check (nat_lt content.slot (get_current_slot store)) FcTooEarly
