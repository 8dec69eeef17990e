-- What a maker gives next.
use Rattle.std.specs.Prelude.{◌≡◌, [], ◌∷◌, Option, Some, None, Result, Ok, Err}
use Rattle.bc_words.specs.Outcome.{done, limited}
use Rattle.bc_words.specs.declared.stop.Limit.TheVariants.{Proposer}
use Rattle.bc_words.specs.declared.stop.Stop.{Stop}
use Rattle.bc_words.specs.declared.stop.Stop.TheVariants as stops
use Rattle.record_file.specs.declared.event.Event.{Event}
use Rattle.spec_state.specs.Genesis.{header_root_of}
use Rattle.spec_state.specs.Soundness.{IsSound}
use Rattle.spec_transition.specs.StateTransition.{state_transition}
use Rattle.spec_fork_choice.specs.Store.{Store}
use Rattle.spec_fork_choice.specs.OnEvent.{on_event}
use Rattle.spec_drill.specs.Make.{MadeEvent, kind_of, payload_of, before}
use Rattle.spec_drill.specs.Taken.{Takes}
use Rattle.spec_drill.specs.Maker.{PlainMaker, to_come}
use Rattle.chain_maker.specs.declared.given.Given.{Given}
use Rattle.chain_maker.specs.declared.given.SteppedBlock.{SteppedBlock}

-- a record's event is a made event, as it is written
pub record Writes (event : Event) (made : MadeEvent) : Type 0 where
  pub kind : event.kind ≡ kind_of made
  pub payload : event.payload ≡ payload_of made

-- The answer is the first of the events to come, and the others are still to come; or there is none, behind the last slot or at
-- the proposer's limit. Nothing is refused. Where no event is given, the maker is as before
abbrev pub NextIs : Result (Option Event) Stop → PlainMaker → PlainMaker → Type 0
NextIs (Ok (Some event)) old new = (made : MadeEvent) × Writes event made × (to_come old ≡ before (made ∷ []) (to_come new))
NextIs (Ok None) old new = (to_come old ≡ record { events = []; end = done tt }) × (new ≡ old)
NextIs (Err (stops.Refused why)) old new = ⊥
NextIs (Err (stops.Limit bound)) old new = (bound ≡ Proposer) × (to_come old ≡ record { events = []; end = limited bound }) × (new ≡ old)
NextIs (Err stops.NoMemory) old new = new ≡ old

-- the event of what is given
abbrev pub all_given : {E : Type 0} → Result (Option Given) E → Result (Option Event) E
all_given (Ok (Some given)) = Ok (Some given.event)
all_given (Ok None) = Ok None
all_given (Err stop) = Err stop

-- a block stands on the chain's last block, and comes with its step from the state behind that one
pub record IsStep (stepped : SteppedBlock) (old new : PlainMaker) : Type 0 where
  pub parent : stepped.block.message.parent_root ≡ header_root_of old.state
  pub step : state_transition old.state stepped.block old.plan.config ≡ done stepped.step
  pub state : new.state ≡ stepped.step.state
  pub sound : IsSound stepped.step.state
  pub slot : stepped.step.state.slot ≡ stepped.block.message.slot

-- what is given of a block is its step, and another event leaves the state behind the last block
abbrev pub StepIs : Option SteppedBlock → PlainMaker → PlainMaker → Type 0
StepIs None old new = new.state ≡ old.state
StepIs (Some stepped) old new = IsStep stepped old new

-- an event that is given is accepted by a store, or clashes
abbrev pub IsAcceptedBy : Store → Result (Option Event) Stop → Type 0
IsAcceptedBy store (Ok (Some event)) = Takes (on_event store event.kind event.payload) (λ new. Unit {0})
IsAcceptedBy store (Ok None) = Unit {0}
IsAcceptedBy store (Err stop) = Unit {0}
