-- The maker of the code's fields.
use Rattle.std.specs.Prelude.{◌≡◌, ℕ, List, [], ◌∷◌, Option, Some, None, Result, Ok, Err}
use Rattle.bc_words.specs.Outcome.{done, limited}
use Rattle.bc_words.specs.declared.stop.Limit.TheVariants.{Proposer}
use Rattle.bc_words.specs.declared.stop.NoMemory.{NoMemory}
use Rattle.bc_words.specs.declared.stop.Stop.{Stop}
use Rattle.bc_words.specs.declared.stop.Stop.TheVariants as stops
use Rattle.beacon_types.specs.declared.attestation.Attestation.{Attestation}
use Rattle.spec_state.specs.declared.plain.PlainState.{PlainState}
use Rattle.record_file.specs.declared.event.Event.{Event}
use Rattle.spec_drill.specs.Make.{MadeEvent, before}
use Rattle.bc_preset.specs.declared.configuration.ConfigValues.{ConfigValues}
use Rattle.spec_transition.specs.ProcessSlots.{process_slots}
use Rattle.spec_drill.specs.Maker.{Due, PlainMaker, to_come}
use Rattle.spec_drill.specs.inside.Makers.{IsMaker}
use Rattle.chain_maker.specs.declared.given.Given.{Given}
use Rattle.chain_maker.specs.declared.maker.Maker.TheInside.{Inside}
use Rattle.chain_maker.specs.Next.{Writes}
use Rattle.chain_maker.specs.inside.Votes.{pending_of}

-- a block that is still to be made carries the slot's attestations
abbrev pub due_of : List Attestation → Option PlainState → Option Due
due_of votes None = None
due_of votes (Some at) = Some (record { at = at; votes = votes })

abbrev pub maker_of : Inside → PlainMaker
maker_of maker = record {
  plan = maker.plan;
  state = maker.state;
  slot = maker.slot;
  pending = pending_of maker.votes;
  due = due_of maker.votes.all maker.due;
}

-- the block that is due stands behind the slots since the last block
abbrev pub IsReached : PlainState → ℕ → ConfigValues → List PlainState → Option PlainState → Type 0
IsReached state slot config entered None = Unit {0}
IsReached state slot config entered (Some at) = process_slots state slot config ≡ done (record { state = at; entered = entered })

-- what always holds of the fields
pub record Stands (maker : Inside) : Type 0 where
  pub is : IsMaker (maker_of maker)
  pub reached : IsReached maker.state maker.slot maker.plan.config maker.entered maker.due

-- the event of what is given
abbrev pub one_given : Result Given Stop → Result Event Stop
one_given (Ok given) = Ok given.event
one_given (Err stop) = Err stop

-- the answer is the next event, or the proposer's limit; nothing is refused
abbrev pub Gives : Result Event Stop → PlainMaker → PlainMaker → Type 0
Gives (Ok event) old new = (made : MadeEvent) × Writes event made × (to_come old ≡ before (made ∷ []) (to_come new))
Gives (Err (stops.Refused why)) old new = ⊥
Gives (Err (stops.Limit bound)) old new = (bound ≡ Proposer) × (to_come old ≡ record { events = []; end = limited bound }) × (new ≡ old)
Gives (Err stops.NoMemory) old new = new ≡ old

-- the answer is the slot's next attestation, or there is none
abbrev pub GivesVote : Result (Option Event) NoMemory → PlainMaker → PlainMaker → Type 0
GivesVote (Ok (Some event)) old new = (made : MadeEvent) × Writes event made × (to_come old ≡ before (made ∷ []) (to_come new))
GivesVote (Ok None) old new = (old.pending ≡ []) × (new ≡ old)
GivesVote (Err refused) old new = new ≡ old
