-- Duties: which validators attest and who proposes when in an epoch (validator.md, "Validator assignments", by
-- get_beacon_committee and get_beacon_proposer_index of beacon-chain.md).
use Rattle.std.specs.Prelude.{◌≡◌, ℕ, zero, suc, ◌+◌, ◌==◌, ◌||◌, Bool, true, false, List, [], ◌∷◌, map, flat_map, unwrap_or, if◌then◌else◌, Result, Ok, Err}
use Rattle.std.specs.List.{range_with_len}
use Rattle.bc_words.specs.Outcome.{Outcome, done, refused, limited, ◌>>=◌, checked_mul}
use Rattle.bc_words.specs.declared.stop.Stop.{Stop}
use Rattle.bc_words.specs.declared.stop.Stop.TheVariants as stops
use Rattle.bc_preset.specs.Presets.{IsPreset}
use Rattle.committees.specs.Committees.{Committees, StandOnce, committee_at}
use Rattle.spec_state.specs.declared.plain.PlainState.{PlainState}
use Rattle.spec_state.specs.Misc.{compute_start_slot_at_epoch}
use Rattle.spec_state.specs.Accessors.{get_active_validator_indices, get_beacon_committee, get_beacon_proposer_index, get_committee_count_per_slot, get_current_epoch}
use Rattle.duties.specs.declared.proposers.ProposerDuty.{ProposerDuty}
use Rattle.duties.specs.declared.duties.Duties.{Duties}
use Rattle.duties.specs.declared.duties.DutyStop.{DutyStop}
use Rattle.duties.specs.declared.duties.DutyStop.TheVariants.{Epoch, Refused, Limit, NoMemory}

-- who attests in a slot: the members of the committee with an index, in order
pub record CommitteeDuty : Type 0 where
  pub slot : ℕ
  pub index : ℕ
  pub members : List ℕ

-- the slots of an epoch, in order
abbrev pub epoch_slots : PlainState → ℕ → List ℕ
epoch_slots state epoch = range_with_len (compute_start_slot_at_epoch state.preset epoch) state.preset.slots_per_epoch

-- the committees of a slot of the epoch, by index
abbrev pub slot_committees : PlainState → ℕ → ℕ → List CommitteeDuty
slot_committees state epoch slot =
    map (λ index. record { slot = slot; index = index; members = get_beacon_committee state slot index }) (range_with_len 0 (get_committee_count_per_slot state epoch))

-- the committees of an epoch, slot by slot
unfoldable pub committee_duties : PlainState → ℕ → List CommitteeDuty
committee_duties state epoch = flat_map (slot_committees state epoch) (epoch_slots state epoch)

-- the state at another slot
abbrev pub at_slot : PlainState → ℕ → PlainState
at_slot state slot = record state { slot = slot }

-- the proposers of so many slots, of which this is the first: by slot, each slot's first stop
unfoldable pub proposers_from : PlainState → ℕ → ℕ → Outcome (List ProposerDuty)
proposers_from state slot zero = done []
proposers_from state slot (suc count) = do
  validator ← get_beacon_proposer_index (at_slot state slot)
  behind ← proposers_from state (slot + 1) count
  done (record { slot = slot; validator = validator } ∷ behind)

-- the proposers of the slots of an epoch
abbrev pub proposer_duties : PlainState → ℕ → Outcome (List ProposerDuty)
proposer_duties state epoch = proposers_from state (compute_start_slot_at_epoch state.preset epoch) state.preset.slots_per_epoch

-- the same where the epoch is the current one; no proposer of another is told
unfoldable pub current_proposers : PlainState → ℕ → Outcome (List ProposerDuty)
current_proposers state epoch = if epoch == get_current_epoch state then proposer_duties state epoch else done []

-- who attests and who proposes
pub record DutyLists : Type 0 where
  pub committees : List CommitteeDuty
  pub proposers : List ProposerDuty

-- the duties of an epoch, refused where its end doesn't fit in a uint64, and before that nobody's
unfoldable pub get_duties : PlainState → ℕ → Outcome DutyLists
get_duties state epoch = do
  end ← checked_mul (epoch + 1) state.preset.slots_per_epoch
  proposers ← current_proposers state epoch
  done (record { committees = committee_duties state epoch; proposers = proposers })

-- whether an epoch is the state's current one or the next
abbrev pub can_be_asked : PlainState → ℕ → Bool
can_be_asked state epoch = epoch == get_current_epoch state || epoch == get_current_epoch state + 1

-- the committees of a slot, as a table of committees has them
abbrev pub table_committees : Committees → ℕ → List CommitteeDuty
table_committees committees slot =
    map (λ index. record { slot = slot; index = index; members = unwrap_or (committee_at committees slot index) [] }) (range_with_len 0 committees.per_slot)

-- the two lists that the duties of the code stand for
unfoldable pub duty_lists : Duties → DutyLists
duty_lists duties = record {
  committees = flat_map (table_committees duties.committees) (range_with_len duties.first_slot duties.committees.slots);
  proposers = duties.proposers.items;
}

-- the stop of a call of the layers
abbrev pub duty_stop : Stop → DutyStop
duty_stop (stops.Refused why) = Refused why
duty_stop (stops.Limit bound) = Limit bound
duty_stop stops.NoMemory = NoMemory

-- The answer is the duties of an epoch that can be asked, or the first fault, unless memory ran out.
abbrev pub AnswersDuties : PlainState → ℕ → Result Duties DutyStop → Type 0
AnswersDuties state epoch (Ok duties) = (can_be_asked state epoch ≡ true) × (get_duties state epoch ≡ done (duty_lists duties))
AnswersDuties state epoch (Err Epoch) = can_be_asked state epoch ≡ false
AnswersDuties state epoch (Err (Refused why)) = (can_be_asked state epoch ≡ true) × (get_duties state epoch ≡ refused why)
AnswersDuties state epoch (Err (Limit bound)) = (can_be_asked state epoch ≡ true) × (get_duties state epoch ≡ limited bound)
AnswersDuties state epoch (Err NoMemory) = Unit {0}

-- Each validator that is active at an epoch stands in one of its committees, at one place of it alone, and nobody else
-- stands in any.
abbrev pub StandOnceInDuties : Type 0
StandOnceInDuties = (state : PlainState) (epoch : ℕ) → IsPreset state.preset → StandOnce (get_active_validator_indices state epoch) (map (λ duty. duty.members) (committee_duties state epoch))
