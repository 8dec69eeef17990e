-- What `slasher` writes, in words of its own: whatever two records hold, and however the run went.
use Rattle.std.specs.Prelude.{◌≡◌, ◌<◌, ◌↔◌, ℕ, true, List, ◌++◌, All, Contains, length}
use Rattle.bc_preset.specs.declared.configuration.ConfigValues.{ConfigValues}
use Rattle.beacon_types.specs.Slashable.{is_slashable_attestation_data}
use Rattle.beacon_types.specs.declared.attester_slashing.AttesterSlashing.{AttesterSlashing}
use Rattle.spec_state.specs.declared.plain.PlainState.{PlainState}
use Rattle.spec_forensics.specs.Histories.{AcceptedBlock, IsHistory}
use Rattle.spec_slasher.specs.Accepts.{IsProcessed, IsTaken}
use Rattle.spec_slasher.specs.Operations.{IsNamed, offenders, operations}
use Rattle.spec_replay.specs.Slasher.{slashing_record}

-- Attester slashings accuse the offenders of two histories. Each is slashable in the given order. Of the validators of the genesis
-- registry, those that stand in both attestations of one of them are exactly the offenders: an index behind the registry's end may be
-- another validator in each history, and nothing is said of it. Each is processed by every sound state that holds its indices, where a
-- validator in both attestations is slashable, and taken by every store whose justified root's own state holds them.
pub record Accuses (genesis : PlainState) (first second : List AcceptedBlock) (slashings : List AttesterSlashing) : Type 0 where
  pub slashable : All (λ s. is_slashable_attestation_data s.attestation_1.content s.attestation_2.content ≡ true) slashings
  pub accused : (index : ℕ) → (index < length genesis.validators × IsNamed slashings index) ↔ Contains (offenders genesis first second) index
  pub processed : All IsProcessed slashings
  pub taken : All IsTaken slashings

-- The record of the attester slashings of two histories on one genesis was written, which accuse the offenders.
pub record WritesSlashings (written written_then : List ℕ) : Type 0 where
  pub config : ConfigValues
  pub genesis : PlainState
  pub first : List AcceptedBlock
  pub second : List AcceptedBlock
  pub first_is : IsHistory config genesis first
  pub second_is : IsHistory config genesis second
  pub bytes : written_then ≡ written ++ slashing_record (operations genesis first second)
  pub accuses : Accuses genesis first second (operations genesis first second)
