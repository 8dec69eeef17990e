-- A record that is followed: what was done of its events, and what is still to come.
use Rattle.std.specs.Prelude.{◌≡◌, ◌≢◌, ◌⊎◌, ℕ, ◌+◌, ◌<◌, ◌^◌, Bool, true, false, List, [], ◌++◌, length, Option, Some, None, Result, Ok, Err, IfErr}
use Rattle.bc_outside.specs.Told.{FileHanded, ShelfTold, FileAgrees}
use Rattle.bc_outside.specs.Calls.{Rose, ShelfKeeps}
use Rattle.bc_words.specs.Events.{EventOutcome}
use Rattle.bc_words.specs.declared.store_stop.ClashKind.TheVariants.{Kept}
use Rattle.record_file.specs.Frames.{CanFollow}
use Rattle.record_file.specs.Record.{events_of}
use Rattle.record_file.specs.Sources.{Source, TakesFrom}
use Rattle.spec_state.specs.declared.plain.PlainState.{PlainState}
use Rattle.spec_fork_choice.specs.Store.{KeptBlock, Store}
use Rattle.spec_fork_choice.specs.OnBlock.{BlockIn}
use Rattle.spec_fork_choice.specs.OnEvent.{Accepted, block}
use Rattle.spec_forensics.specs.Histories.{AcceptedBlock, with_event}
use Rattle.spec_forensics.specs.Clash.{first_accepted}
use Rattle.spec_replay.specs.Run.{End}
use Rattle.spec_replay.specs.Forensic.{Followed, clash_of_accepted, follow, follow_events, follow_then}
use Rattle.safety_law.specs.Follows.{Follows}
use Rattle.forensics.specs.Books.{PlainBook, history_of}
use Rattle.beacon_node.specs.declared.follow.Side.{Side}
use Rattle.beacon_node.specs.declared.follow.Side.TheVariants.{First, Second}
use Rattle.one_chain.specs.declared.status.Status.{Status}
use Rattle.one_chain.specs.declared.status.Status.TheVariants as statuses
use Rattle.one_chain.specs.Answers.{breaks_off, end_of}
use Rattle.beacon_node.specs.inside.ByFiles.{Handed}
use Rattle.one_chain.specs.inside.Reading.{Unread}

-- ---- the record

-- the number of the record
abbrev pub which_of : Side → ℕ
which_of First = 0
which_of (Second other) = 1

-- the blocks with which an accepted block of it is compared
abbrev pub others_of : Side → List KeptBlock
others_of First = []
others_of (Second other) = other.now.plain.blocks

-- a store and its history in the book
abbrev pub followed_by : Side → Store → PlainBook → Followed
followed_by side store book = record { store = store; history = history_of book (which_of side) }

-- the book has no block of the other record, or those that were compared with
abbrev pub IsBeside : Side → PlainBook → Type 0
IsBeside First book = book.second ≡ []
IsBeside (Second other) book = (other.now.plain.blocks ≡ first_accepted book.genesis book.first) × (length other.now.plain.blocks < 2 ^ 32)

-- What holds while a record is followed: the store follows its history in the book.
pub record IsFollowing (side : Side) (genesis : PlainState) (store : Store) (book : PlainBook) : Type 0 where
  pub genesis_is : book.genesis ≡ genesis
  pub follows : Follows book.config genesis (history_of book (which_of side)) store
  pub beside : IsBeside side book

-- the other history
abbrev pub other_history : Side → PlainBook → List AcceptedBlock
other_history First book = book.second
other_history (Second other) book = book.first

-- What stays of a book while a record is followed.
pub record SameBeside (side : Side) (old new : PlainBook) : Type 0 where
  pub config : new.config ≡ old.config
  pub genesis : new.genesis ≡ old.genesis
  pub other : other_history side new ≡ other_history side old

-- An accepted block was added to the book, where no other block has its root.
pub record BlockFollowed (side : Side) (number : ℕ) (store : Store) (given : BlockIn) (old new : PlainBook) : Type 0 where
  pub clear : clash_of_accepted (others_of side) store (block given) ≡ None
  pub history : history_of new (which_of side) ≡ with_event number (history_of old (which_of side)) store (block given)

-- ---- an event

-- The run ends with this status, unless it was broken off.
abbrev pub EndsBy : Status → Result Followed End → Type 0
EndsBy status left = breaks_off status ≡ false → (end : End) × (Some end ≡ end_of status) × (left ≡ Err end)

-- An accepted block clashes with one of the other record, or memory ran out.
abbrev pub ClashesBy : Status → ℕ → ℕ → Option ℕ → Type 0
ClashesBy (statuses.Clash which event (Kept place) kept_which) record_number number clash = (which ≡ record_number) × (event ≡ number) × (kept_which ≡ 0) × (clash ≡ Some place)
ClashesBy statuses.NoMemory record_number number clash = Unit {0}
ClashesBy _ record_number number clash = ⊥

-- What the event with this number makes is what is left of it, whatever comes behind it.
abbrev pub EventFollowed : ℕ → List KeptBlock → ℕ → Followed → EventOutcome (Store × Accepted) → Followed → Type 0
EventFollowed which others number old outcome new = (rest : Followed → Result Followed End) → follow_then which others number old outcome rest ≡ rest new

-- The run ends at the event with this number.
abbrev pub EventEnds : Status → ℕ → List KeptBlock → ℕ → Followed → EventOutcome (Store × Accepted) → Type 0
EventEnds status which others number old outcome = (rest : Followed → Result Followed End) → EndsBy status (follow_then which others number old outcome rest)

-- A status of a command that came to no good end, and is neither a fault of reading nor one of writing.
pub record IsInside (status : Status) : Type 0 where
  pub done : status ≢ statuses.Done
  pub words : status ≢ statuses.Words
  pub read : status ≢ statuses.ReadFault
  pub write : status ≢ statuses.WriteFault

-- What following does to the shelf: a fault is answered only where its count rose. No good end is a status.
pub record FollowsOutside {T : Type 0} (names : List (List ℕ)) (result : Result T Status) (told told_then : ShelfTold) : Type 0 where
  pub shelf : ShelfKeeps names told told_then
  pub read : IfErr result (λ status. status ≡ statuses.ReadFault → Rose told.faults told_then.faults)
  pub others : IfErr result (λ status. (status ≢ statuses.Words) × (status ≢ statuses.WriteFault) × (status ≢ statuses.Done))

-- ---- the events

-- what the events that are to come leave, where these bytes are those that can still be taken
abbrev pub left_by : Side → Followed → Source → List ℕ → Result Followed End
left_by side followed place behind = follow_events (which_of side) (others_of side) (place.events + 1) followed (place.coming behind).events (place.coming behind).end

-- Bytes were taken, the events in front were followed, and the others are to come.
pub record FollowedSoFar (side : Side) (followed : Followed) (place : Source) (told : ShelfTold) (followed_then : Followed) (place_then : Source) (told_then : ShelfTold) : Type 0 where
  pub bytes : List ℕ
  pub taken : TakesFrom place.file bytes false told told_then
  pub file : place_then.file ≡ place.file
  pub comes : (behind : List ℕ) → left_by side followed place (bytes ++ behind) ≡ left_by side followed_then place_then behind

-- What following came to: this is what the events left, or the run ends.
abbrev pub Leaves : Result (Unit {0}) Status → Result Followed End → Followed → Type 0
Leaves (Ok _) left followed = left ≡ Ok followed
Leaves (Err status) left followed = EndsBy status left

-- The events were followed to their end, or the run ended at one. It is so whatever stands behind the bytes that were taken.
pub record FollowedToEnd (side : Side) (result : Result (Unit {0}) Status) (followed : Followed) (place : Source) (told told_then : ShelfTold) (followed_then : Followed) : Type 0 where
  pub bytes : List ℕ
  pub met : Bool
  pub taken : TakesFrom place.file bytes met told told_then
  pub leaves : (behind : List ℕ) → CanFollow met behind → Leaves result (left_by side followed place (bytes ++ behind)) followed_then

-- ---- the file

-- A file was opened under the name, and of any file that begins so this is true.
pub record HandedSo (name : List ℕ) (P : List ℕ → Type 0) (told told_then : ShelfTold) : Type 0 where
  pub handed : FileHanded
  pub is : Handed name handed told told_then
  pub so : (whole : List ℕ) → FileAgrees (Some whole) handed → P whole

-- The record of a name was followed to its end, or the run ended; or the record could not be opened.
abbrev pub RecordFollowed : Side → List ℕ → Result (Unit {0}) Status → Store → ShelfTold → ShelfTold → Followed → Type 0
RecordFollowed side name (Ok _) store told told_then left = HandedSo name (λ whole. follow (which_of side) (others_of side) store (events_of whole) ≡ Ok left) told told_then
RecordFollowed side name (Err status) store told told_then left =
    ((breaks_off status ≡ true) × Unread name told told_then)
    ⊎ HandedSo name (λ whole. EndsBy status (follow (which_of side) (others_of side) store (events_of whole))) told told_then
