-- The ends of epochs of a history, as the argument for accountable safety takes them.
use Rattle.std.specs.Prelude.{ℕ, List}
use Rattle.spec_state.specs.declared.plain.PlainState.{PlainState}
use Rattle.spec_state.specs.Accessors.{get_current_epoch, get_previous_epoch, get_block_root}
use Rattle.spec_epochs.specs.declared.justification.Justification.{Justification}
use Rattle.spec_epochs.specs.Helpers.{get_matching_target_attestations, get_unslashed_attesting_indices}
use Rattle.spec_epochs.specs.WeighJustificationAndFinalization.{justification_of}
use Rattle.ffg_law.specs.Histories.{EpochEnd}

-- the unslashed validators that attested an epoch's block, in a state on which epoch processing is entered
unfoldable pub target_attesters : PlainState → ℕ → List ℕ
target_attesters state epoch = get_unslashed_attesting_indices state (get_matching_target_attestations state epoch)

-- the end of the epoch of such a state, behind which bits and checkpoints are these
abbrev pub end_of : PlainState → Justification → EpochEnd
end_of state after = record {
  before = justification_of state;
  epoch = get_current_epoch state;
  previous_root = get_block_root state (get_previous_epoch state);
  current_root = get_block_root state (get_current_epoch state);
  previous = target_attesters state (get_previous_epoch state);
  current = target_attesters state (get_current_epoch state);
  after = after;
}
