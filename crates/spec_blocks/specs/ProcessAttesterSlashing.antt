-- process_attester_slashing (beacon-chain.md, "Attester slashings").
use Rattle.std.specs.Prelude.{ℕ, Bool, true, false, List, filter, ◌==◌, if◌then◌else◌}
use Rattle.std.specs.List.{list_any}
use Rattle.bc_words.specs.Outcome.{Outcome, done, ◌>>=◌}
use Rattle.bc_words.specs.declared.refusal.Refusal.TheVariants.{AsData, AsNone}
use Rattle.bc_preset.specs.declared.configuration.ConfigValues.{ConfigValues}
use Rattle.beacon_types.specs.Slashable.{is_slashable_attestation_data}
use Rattle.beacon_types.specs.declared.attester_slashing.AttesterSlashing.{AttesterSlashing}
use Rattle.spec_state.specs.declared.plain.PlainState.{PlainState}
use Rattle.spec_state.specs.Predicates.{is_slashable_validator}
use Rattle.spec_state.specs.Accessors.{get_current_epoch}
use Rattle.spec_blocks.specs.Checks.{check, item_at, each_of, ◌>>◌}
use Rattle.spec_blocks.specs.SlashValidator.{slash_validator}
use Rattle.spec_blocks.specs.IsValidIndexedAttestation.{is_valid_indexed_attestation}

-- the indices of the first list that are in the second too; where the first is sorted, so are they
unfoldable pub in_both : List ℕ → List ℕ → List ℕ
in_both indices_1 indices_2 = filter (λ index. list_any (λ other. other == index) indices_2) indices_1

-- a state, and whether a validator was slashed on the way to it
pub record Slashed : Type 0 where
  pub state : PlainState
  pub slashed_any : Bool

-- the validator with an index is slashed
unfoldable pub slash_one : ℕ → ConfigValues → PlainState → ℕ → Outcome Slashed
slash_one proposer config state index = do
  next ← slash_validator state index proposer config
  done (record { state = next; slashed_any = true })

-- the validator with an index is slashed where it is slashable
unfoldable pub slash_slashable : ℕ → ConfigValues → Slashed → ℕ → Outcome Slashed
slash_slashable proposer config so_far index = do
  validator ← item_at so_far.state.validators index
  if is_slashable_validator validator (get_current_epoch so_far.state) then slash_one proposer config so_far.state index else done so_far

-- process_attester_slashing(state, attester_slashing), where proposer is the block's proposer
unfoldable pub process_attester_slashing : PlainState → AttesterSlashing → ℕ → ConfigValues → Outcome PlainState
process_attester_slashing state attester_slashing proposer config = do
  let attestation_1 = attester_slashing.attestation_1
  let attestation_2 = attester_slashing.attestation_2
  -- the votes are slashable together, in this order
  check (is_slashable_attestation_data attestation_1.content attestation_2.content) AsData
  is_valid_indexed_attestation state attestation_1
  is_valid_indexed_attestation state attestation_2
  -- each validator that cast both is slashed where it is slashable, in order of index
  slashed ← each_of (slash_slashable proposer config) (record { state = state; slashed_any = false }) (in_both attestation_1.attesting_indices attestation_2.attesting_indices)
  -- and there is one
  check slashed.slashed_any AsNone
  done slashed.state
