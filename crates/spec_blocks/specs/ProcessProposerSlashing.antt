-- process_proposer_slashing (beacon-chain.md, "Proposer slashings"). Signatures are off.
use Rattle.std.specs.Prelude.{ℕ, not, ◌==◌}
use Rattle.bc_words.specs.Outcome.{Outcome, ◌>>=◌}
use Rattle.bc_words.specs.declared.refusal.Refusal.TheVariants.{PsSlots, PsProposers, PsSame, NotSlashable}
use Rattle.bc_preset.specs.declared.configuration.ConfigValues.{ConfigValues}
use Rattle.beacon_types.specs.declared.proposer_slashing.ProposerSlashing.{ProposerSlashing}
use Rattle.spec_state.specs.declared.plain.PlainState.{PlainState}
use Rattle.spec_state.specs.Predicates.{is_slashable_validator}
use Rattle.spec_state.specs.Accessors.{get_current_epoch}
pub use Rattle.beacon_types.specs.Equality.{same_header}
use Rattle.spec_blocks.specs.Checks.{check, item_at, ◌>>◌}
use Rattle.spec_blocks.specs.SlashValidator.{slash_validator}

-- process_proposer_slashing(state, proposer_slashing), where proposer is the block's proposer
unfoldable pub process_proposer_slashing : PlainState → ProposerSlashing → ℕ → ConfigValues → Outcome PlainState
process_proposer_slashing state proposer_slashing proposer config = do
  let header_1 = proposer_slashing.signed_header_1.message
  let header_2 = proposer_slashing.signed_header_2.message
  -- the headers are of one slot
  check (header_1.slot == header_2.slot) PsSlots
  -- and of one proposer
  check (header_1.proposer_index == header_2.proposer_index) PsProposers
  -- and differ
  check (not (same_header header_1 header_2)) PsSame
  -- the proposer is slashable
  validator ← item_at state.validators header_1.proposer_index
  check (is_slashable_validator validator (get_current_epoch state)) NotSlashable
  slash_validator state header_1.proposer_index proposer config
