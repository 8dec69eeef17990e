-- The duties of an epoch as the code has them, and how its answers meet their definitions.
use Rattle.std.specs.Prelude.{◌≡◌, ℕ, List, ◌++◌, ◌==◌, filter, flat_map, Result, Ok, Err}
use Rattle.duties.specs.Duties.{table_committees}
use Rattle.duties.specs.declared.duties.Duties.{Duties}
use Rattle.duties.specs.declared.duties.DutyStop.{DutyStop}
use Rattle.duties.specs.declared.duties.DutyStop.TheVariants as stops
use Rattle.duties.specs.declared.fault.DutiesFault.{DutiesFault}
use Rattle.duties.specs.declared.fault.DutiesFault.TheVariants as reasons
use Rattle.spec_replay.specs.Duties.{committee_line, proposer_line}
use Rattle.spec_state.specs.declared.plain.PlainState.{PlainState}
use Rattle.ssz_codec.specs.declared.fault.SszFault.{SszFault}
use Rattle.ssz_codec.specs.declared.fault.SszFault.TheVariants as faults
use Rattle.one_chain.specs.declared.tell_duties.StateStop.{StateStop}
use Rattle.one_chain.specs.declared.tell_duties.StateStop.TheVariants.{Fault, NoMemory}
use Rattle.one_chain.specs.declared.status.Status.{Status}
use Rattle.one_chain.specs.declared.status.Status.TheVariants as statuses

-- the lines of a slot, by the table of committees
unfoldable pub table_lines : Duties → ℕ → List ℕ
table_lines duties slot =
    flat_map committee_line (table_committees duties.committees slot)
    ++ flat_map proposer_line (filter (λ duty. duty.slot == slot) duties.proposers.items)

-- The answer is the state's, or its first fault, unless memory ran out
abbrev pub GivesState : Result PlainState StateStop → Result PlainState DutiesFault → Type 0
GivesState (Ok state) read = read ≡ Ok state
GivesState (Err (Fault reason)) read = read ≡ Err reason
GivesState (Err NoMemory) read = Unit {0}

-- why bytes that are no state have no duties to tell
abbrev pub unread_state : SszFault → StateStop
unread_state faults.NotAWriting = Fault reasons.NotAWriting
unread_state faults.NoMemory = NoMemory

-- the status of a file whose state can't be asked
abbrev pub no_state : StateStop → Status
no_state (Fault reason) = statuses.Duties reason
no_state NoMemory = statuses.NoMemory

-- the status of duties that can't be told
abbrev pub no_duties : DutyStop → Status
no_duties stops.Epoch = statuses.Duties reasons.Epoch
no_duties (stops.Refused why) = statuses.Duties (reasons.Refused why)
no_duties (stops.Limit bound) = statuses.Limit 0 0 bound
no_duties stops.NoMemory = statuses.NoMemory
