-- The attestations of a slot that are given one after another.
use Rattle.std.specs.Prelude.{◌≡◌, ℕ, List, [], ◌∷◌, map, drop, Option, Some, None, Result, Ok, Err}
use Rattle.bc_words.specs.declared.stop.NoMemory.{NoMemory}
use Rattle.beacon_types.specs.declared.attestation.Attestation.{Attestation}
use Rattle.record_file.specs.declared.event.Event.{Event}
use Rattle.spec_drill.specs.Make.{MadeEvent}
use Rattle.spec_drill.specs.Make as makes
use Rattle.chain_maker.specs.declared.votes.Source.{Source}
use Rattle.chain_maker.specs.declared.votes.Source.TheVariants.{Wire, Carried}
use Rattle.chain_maker.specs.declared.votes.Votes.{Votes}
use Rattle.chain_maker.specs.Next.{Writes}

-- an attestation as an event
abbrev pub from_source : Source → Attestation → MadeEvent
from_source Wire attestation = makes.wire attestation
from_source Carried attestation = makes.carried attestation

-- the kind of that event
abbrev pub source_kind : Source → ℕ
source_kind Wire = 3
source_kind Carried = 4

-- the events that are still to be given
abbrev pub pending_of : Votes → List MadeEvent
pending_of votes = map (from_source votes.source) (drop votes.given votes.all)

-- the answer is the first of them, or there is none
abbrev pub NextVote : Result (Option Event) NoMemory → Votes → Votes → Type 0
NextVote (Ok (Some event)) old new = (made : MadeEvent) × Writes event made × (pending_of old ≡ made ∷ pending_of new)
NextVote (Ok None) old new = (pending_of old ≡ []) × (new ≡ old)
NextVote (Err refused) old new = new ≡ old
