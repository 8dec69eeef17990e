-- The events of a made chain, slot by slot.
use Rattle.hash_tree.specs.Merkle.{uint_to_bytes}
use Rattle.std.specs.Prelude.{◌≡◌, ◌⊎◌, ℕ, zero, suc, ◌+◌, ◌*◌, List, [], ◌∷◌, ◌++◌, map, if◌then◌else◌}
use Rattle.bc_words.specs.Outcome.{Outcome, done, refused, limited}
use Rattle.bc_words.specs.declared.stop.Limit.TheVariants.{Proposer}
use Rattle.beacon_types.specs.Blocks.{signed_block_codec, attestation_codec}
use Rattle.beacon_types.specs.declared.attestation.Attestation.{Attestation}
use Rattle.beacon_types.specs.declared.signed_block.SignedBeaconBlock.{SignedBeaconBlock}
use Rattle.spec_state.specs.declared.plain.PlainState.{PlainState}
use Rattle.spec_state.specs.Genesis.{header_root_of}
use Rattle.spec_transition.specs.ProcessSlots.{process_slots}
use Rattle.spec_drill.specs.Plan.{Plan, last_slot, is_skipped}
use Rattle.spec_drill.specs.MakeGenesis.{genesis_of_plan}
use Rattle.spec_drill.specs.MakeVotes.{votes_of}
use Rattle.spec_drill.specs.MakeBlock.{make_block}

-- An event, before it is written: a tick with its time in seconds, a block, an attestation from the wire, or one that a block carries
pub data MadeEvent : Type 0 where
  tick : ℕ → MadeEvent
  block : SignedBeaconBlock → MadeEvent
  wire : Attestation → MadeEvent
  carried : Attestation → MadeEvent

-- events, and how they end: with the last slot, or with the first stop of what makes them
pub record Made : Type 0 where
  pub events : List MadeEvent
  pub end : Outcome (Unit {0})

-- events, and then others
abbrev pub before : List MadeEvent → Made → Made
before events made = record { events = events ++ made.events; end = made.end }

-- what comes behind a step, where it gives something
abbrev pub then_made : {A : Type 0} → Outcome A → (A → Made) → Made
then_made (done x) next = next x
then_made (refused why) next = record { events = []; end = refused why }
then_made (limited bound) next = record { events = []; end = limited bound }

-- the time at which a slot begins
unfoldable pub time_of : Plan → ℕ → ℕ
time_of plan slot = 1000 + slot * plan.config.seconds_per_slot

-- what a slot begins with: a tick, and the votes of the slot before it from the wire
unfoldable pub opening : Plan → ℕ → List Attestation → List MadeEvent
opening plan slot votes = tick (time_of plan slot) ∷ map wire votes

-- what a block brings: the block, and its votes as carried ones
unfoldable pub brought : SignedBeaconBlock → List Attestation → List MadeEvent
brought signed votes = block signed ∷ map carried votes

-- the events from a slot on, of so many slots, on a chain behind whose last block this state stands: each slot has a tick, the
-- votes of the slot before it, and a block with them where it isn't skipped
unfoldable pub made_from : Plan → PlainState → ℕ → ℕ → Made
made_from plan state slot zero = record { events = []; end = done tt }
made_from plan state slot (suc count) =
    then_made (process_slots state (slot + 1) plan.config) (λ at.
    let votes : List Attestation = votes_of at.state (header_root_of state) slot in
    before (opening plan (slot + 1) votes)
    (if is_skipped plan (slot + 1) then made_from plan state (slot + 1) count
    else then_made (make_block plan at.state (header_root_of state) votes) (λ made.
    before (brought made.block votes) (made_from plan made.state (slot + 1) count))))

-- All events of a plan
unfoldable pub made : Plan → Made
made plan = made_from plan (genesis_of_plan plan) 0 (last_slot plan)

-- the events end with the last slot, or with the proposer's limit
pub record EndsWell (end : Outcome (Unit {0})) : Type 0 where
  pub either : (end ≡ done tt) ⊎ (end ≡ limited Proposer)

-- The kind of an event, as the frames of a record have it
unfoldable pub kind_of : MadeEvent → ℕ
kind_of (tick time) = 1
kind_of (block signed) = 2
kind_of (wire attestation) = 3
kind_of (carried attestation) = 4

-- and its payload: eight bytes of a time, or the SSZ of a signed block or an attestation
unfoldable pub payload_of : MadeEvent → List ℕ
payload_of (tick time) = uint_to_bytes time
payload_of (block signed) = signed_block_codec.serialize signed
payload_of (wire attestation) = attestation_codec.serialize attestation
payload_of (carried attestation) = attestation_codec.serialize attestation
