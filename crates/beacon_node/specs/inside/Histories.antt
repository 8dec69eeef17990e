-- Two histories on one genesis: how their stores open, and what the book finds.
use Rattle.std.specs.Prelude.{◌≡◌, ℕ, ◌≤◌, ◌*◌, ◌^◌, false, List, All, length, Option, Some, None}
use Rattle.bc_preset.specs.declared.configuration.ConfigValues.{ConfigValues}
use Rattle.bc_words.specs.declared.store_stop.ClashKind.{ClashKind}
use Rattle.spec_state.specs.Genesis.{genesis_fault}
use Rattle.spec_state.specs.Limits.{IsState, IsInRange}
use Rattle.spec_state.specs.declared.plain.PlainState.{PlainState}
use Rattle.spec_fork_choice.specs.Store.{Store}
use Rattle.spec_fork_choice.specs.GetForkchoiceStore.{genesis_store}
use Rattle.spec_fork_choice.specs.OnEvent.{genesis_clash}
use Rattle.spec_forensics.specs.CarriedVotes.{all_votes}
use Rattle.spec_forensics.specs.Histories.{AcceptedBlock}
use Rattle.spec_forensics.specs.Offences.{IsCarried}
use Rattle.spec_forensics.specs.Verdict.{offences_of, verdict_of}
use Rattle.spec_forensics.specs.declared.verdict.Verdict.TheVariants.{Conflict}
use Rattle.spec_replay.specs.declared.report.Report.{Report}
use Rattle.spec_replay.specs.Run.{Run}
use Rattle.spec_replay.specs.Forensic.{with_store}
use Rattle.safety_law.specs.Histories.{Begins}
use Rattle.forensics.specs.Books.{begun}
use Rattle.beacon_node.specs.declared.histories.Histories.{Histories}
use Rattle.beacon_node.specs.declared.histories.Findings.{Findings}
use Rattle.one_chain.specs.declared.status.Status.{Status}
use Rattle.one_chain.specs.declared.status.Status.TheVariants as statuses
use Rattle.one_chain.specs.Answers.{breaks_off}
use Rattle.beacon_node.specs.inside.Following.{IsInside}

-- A state of a configuration's preset begins histories: it was checked, it lies within the limits of a state, and its total fits.
pub record IsGenesis (config : ConfigValues) (genesis : PlainState) : Type 0 where
  pub preset : genesis.preset ≡ config.preset
  pub checked : genesis_fault genesis ≡ None
  pub state : IsState genesis
  pub range : IsInRange genesis
  pub few : length genesis.validators ≤ 2 ^ 29

-- A store opened at genesis.
pub record IsOpened (config : ConfigValues) (genesis : PlainState) (store : Store) : Type 0 where
  pub none : genesis_clash genesis ≡ None
  pub is : store ≡ genesis_store config genesis

-- The genesis clashes, or memory ran out.
pub record OpeningEnds (status : Status) (clash : Option ClashKind) : Type 0 where
  pub clashes : breaks_off status ≡ false → (kind : ClashKind) × (clash ≡ Some kind) × (status ≡ statuses.Clash 0 0 kind 0)
  pub inside : IsInside status

-- Both stores opened, and the book has no block.
pub record AreOpened (config : ConfigValues) (genesis : PlainState) (histories : Histories) : Type 0 where
  pub genesis_is : histories.genesis ≡ genesis
  pub none : genesis_clash genesis ≡ None
  pub first : histories.first.plain ≡ genesis_store config genesis
  pub second : histories.second.plain ≡ genesis_store config genesis
  pub book : histories.book ≡ begun config genesis
  pub begins : Begins genesis

-- the run of two records on a genesis
abbrev pub run_of_records : Report → ConfigValues → PlainState → Option (List ℕ) → Option (List ℕ) → Run
run_of_records report config genesis first second = with_store report (genesis_clash genesis) genesis (genesis_store config genesis) first second

-- What a book finds: the offences and the verdict of both histories. Both votes of each offence are carried, and a conflict convicts.
pub record HasFound (genesis : PlainState) (first second : List AcceptedBlock) (first_store second_store : Store) (findings : Findings) : Type 0 where
  pub offences : findings.offences.items ≡ offences_of genesis first second
  pub verdict : findings.verdict ≡ verdict_of genesis first second first_store.finalized_checkpoint second_store.finalized_checkpoint
  pub carried : All (IsCarried (all_votes genesis first second)) findings.offences.items
  pub convicts : (balance total : ℕ) → findings.verdict ≡ Conflict balance total → total ≤ 3 * balance
