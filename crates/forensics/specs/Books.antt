-- A book: two histories on one genesis, and what a block more makes of them.
use Rattle.std.specs.Prelude.{◌≡◌, ℕ, false, List, [], ◌∷◌, ◌==◌, Option, Some, None, Result, Ok, Err, if◌then◌else◌}
use Rattle.bc_words.specs.Outcome.{done}
use Rattle.bc_preset.specs.declared.configuration.ConfigValues.{ConfigValues}
use Rattle.beacon_types.specs.Equality.{same_root}
use Rattle.beacon_types.specs.declared.checkpoint.Checkpoint.{Checkpoint}
use Rattle.beacon_types.specs.declared.block.BeaconBlock.{BeaconBlock}
use Rattle.spec_state.specs.declared.plain.PlainState.{PlainState}
use Rattle.spec_state.specs.Accessors.{get_total_active_balance}
use Rattle.spec_state.specs.Genesis.{zero_root, genesis_fault, header_root_of}
use Rattle.spec_state.specs.States.{state_codec}
use Rattle.spec_forensics.specs.declared.vote.Vote.{Vote}
use Rattle.spec_forensics.specs.CarriedVotes.{all_votes}
use Rattle.spec_forensics.specs.Clash.{clash_with}
use Rattle.spec_forensics.specs.Histories.{AcceptedBlock}
use Rattle.spec_forensics.specs.Verdict.{verdict_of}
use Rattle.spec_forensics.specs.declared.verdict.Verdict.{Verdict}
use Rattle.forensics.specs.declared.book_stop.BookStop.{BookStop}
use Rattle.forensics.specs.declared.book_stop.BookStop.TheVariants.{Clash, NoMemory}

-- The histories have the latest block first. Each is closed with a checkpoint, the one that it finalised; until it is, with that of
-- genesis
pub record PlainBook : Type 0 where
  pub config : ConfigValues
  pub genesis : PlainState
  pub first : List AcceptedBlock
  pub second : List AcceptedBlock
  pub first_finalized : Checkpoint
  pub second_finalized : Checkpoint

-- the checkpoint of genesis
unfoldable pub genesis_checkpoint : PlainState → Checkpoint
genesis_checkpoint genesis = record { epoch = 0; root = header_root_of genesis }

-- a book without blocks
unfoldable pub begun : ConfigValues → PlainState → PlainBook
begun config genesis = record {
  config = config;
  genesis = genesis;
  first = [];
  second = [];
  first_finalized = genesis_checkpoint genesis;
  second_finalized = genesis_checkpoint genesis;
}

-- A state begins the histories: the check of a genesis takes it, its total active balance fits in a uint64, and neither the root of
-- its block nor its own is zero
pub record IsBeginning (genesis : PlainState) : Type 0 where
  pub checked : genesis_fault genesis ≡ None
  pub total : ℕ
  pub total_is : get_total_active_balance genesis ≡ done total
  pub root_is_set : same_root (header_root_of genesis) zero_root ≡ false
  pub state_root_is_set : same_root ((state_codec genesis.preset).hash_tree_root genesis) zero_root ≡ false

-- the history with a number, 0 or 1
unfoldable pub history_of : PlainBook → ℕ → List AcceptedBlock
history_of book which = if which == 0 then book.first else book.second

-- a block more in the history with a number
unfoldable pub with_block : PlainBook → ℕ → AcceptedBlock → PlainBook
with_block book which b = if which == 0 then record book { first = b ∷ book.first } else record book { second = b ∷ book.second }

-- the history with a number closed with a checkpoint
unfoldable pub with_finalized : PlainBook → ℕ → Checkpoint → PlainBook
with_finalized book which finalized = if which == 0 then record book { first_finalized = finalized } else record book { second_finalized = finalized }

-- the verdict on the histories as they are closed
abbrev pub verdict_on : PlainBook → Verdict
verdict_on book = verdict_of book.genesis book.first book.second book.first_finalized book.second_finalized

-- the votes that the blocks carry
abbrev pub votes_of : PlainBook → List Vote
votes_of book = all_votes book.genesis book.first book.second

-- the block of the book that has a root and another content than a block, by its history and its place there
abbrev pub clash_in : PlainBook → List ℕ → BeaconBlock → Option (ℕ × ℕ)
clash_in book root block = clash_with book.genesis book.first book.second root block

-- A block is added, and then its root is no name for another block of the book; or there is such a block, which the stop names; or
-- memory was refused. After a stop the book is as before
abbrev pub Adds : Result (Unit {0}) BookStop → PlainBook → PlainBook → ℕ → AcceptedBlock → Type 0
Adds (Ok _) old new which b = (new ≡ with_block old which b) × (clash_in old b.root b.block ≡ None)
Adds (Err (Clash history place)) old new which b = (new ≡ old) × (clash_in old b.root b.block ≡ Some (history, place))
Adds (Err NoMemory) old new which b = new ≡ old
