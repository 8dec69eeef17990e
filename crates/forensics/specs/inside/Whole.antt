-- What is kept of a book, and when it stands for one.
use Rattle.std.specs.Prelude.{◌≡◌, ℕ, List, ◌∷◌, ◌++◌, length, if◌then◌else◌, ◌==◌}
use Rattle.bc_preset.specs.declared.configuration.ConfigValues.{ConfigValues}
use Rattle.beacon_types.specs.declared.checkpoint.Checkpoint.{Checkpoint}
use Rattle.spec_state.specs.declared.plain.PlainState.{PlainState}
use Rattle.spec_forensics.specs.Histories.{AcceptedBlock}
use Rattle.safety_law.specs.Histories.{AreHistories}
use Rattle.safety_law.specs.Finals.{IsFinalOf}
use Rattle.forensics.specs.Carried.{Carried, Held, Holds}
use Rattle.forensics.specs.Books.{PlainBook, IsBeginning}
use Rattle.forensics.specs.inside.BlockVotes.{carried_by}

-- one history on its genesis, and what it is closed with
pub record PlainHistory : Type 0 where
  pub genesis : PlainState
  pub blocks : List AcceptedBlock
  pub finalized : Checkpoint

unfoldable pub with_latest : PlainHistory → AcceptedBlock → PlainHistory
with_latest history b = record history { blocks = b ∷ history.blocks }

-- the attestations of both histories, those of the first before those of the second
unfoldable pub carried_in : List AcceptedBlock → List AcceptedBlock → List Carried
carried_in first second = carried_by 0 first ++ carried_by 1 second

-- Two histories on a genesis, whose votes are held
pub record IsBook (config : ConfigValues) (genesis : PlainState) (first second : PlainHistory) (votes : Held) : Type 0 where
  pub first_genesis : first.genesis ≡ genesis
  pub second_genesis : second.genesis ≡ genesis
  pub beginning : IsBeginning genesis
  pub histories : AreHistories config genesis first.blocks second.blocks
  pub first_final : IsFinalOf genesis first.blocks first.finalized
  pub second_final : IsFinalOf genesis second.blocks second.finalized
  pub holds : Holds votes (carried_in first.blocks second.blocks)
  pub validators : length votes.spans.spans ≡ length genesis.validators

-- what is seen of it
abbrev pub seen_of : ConfigValues → PlainState → PlainHistory → PlainHistory → PlainBook
seen_of config genesis first second = record {
  config = config;
  genesis = genesis;
  first = first.blocks;
  second = second.blocks;
  first_finalized = first.finalized;
  second_finalized = second.finalized;
}

-- the histories with a block more in the one with a number
unfoldable pub with_first : ℕ → PlainHistory → AcceptedBlock → PlainHistory
with_first which history b = if which == 0 then with_latest history b else history

unfoldable pub with_second : ℕ → PlainHistory → AcceptedBlock → PlainHistory
with_second which history b = if which == 0 then history else with_latest history b

-- the histories, of which the one with a number is closed with a checkpoint
unfoldable pub closed_first : ℕ → PlainHistory → Checkpoint → PlainHistory
closed_first which history finalized = if which == 0 then record history { finalized = finalized } else history

unfoldable pub closed_second : ℕ → PlainHistory → Checkpoint → PlainHistory
closed_second which history finalized = if which == 0 then history else record history { finalized = finalized }
