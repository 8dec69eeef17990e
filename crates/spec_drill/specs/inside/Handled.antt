-- Events that the handlers of the store take, before they are written.
use Rattle.std.specs.Prelude.{◌<◌, ◌^◌, true, false, List, [], ◌∷◌}
use Rattle.bc_words.specs.Events.{EventOutcome, accepted, then_event}
use Rattle.beacon_types.specs.Blocks.{signed_block_codec, attestation_codec}
use Rattle.spec_fork_choice.specs.Store.{Store}
use Rattle.spec_fork_choice.specs.OnTick.{on_tick}
use Rattle.spec_fork_choice.specs.OnBlock.{on_block}
use Rattle.spec_fork_choice.specs.OnAttestation.{on_attestation}
use Rattle.spec_fork_choice.specs.OnEvent.{Accepted, block, without_block}
use Rattle.spec_drill.specs.Make.{MadeEvent}
use Rattle.spec_drill.specs.Make as makes
use Rattle.spec_drill.specs.Taken.{Takes}

-- what the handlers make of an event
unfoldable pub handled : Store → MadeEvent → EventOutcome (Store × Accepted)
handled store (makes.tick time) = without_block (on_tick store time)
handled store (makes.block signed) = then_event (on_block store signed) (λ new. accepted (new.0, block new.1))
handled store (makes.wire attestation) = without_block (on_attestation store attestation false)
handled store (makes.carried attestation) = without_block (on_attestation store attestation true)

-- an event has a writing that reads back
abbrev pub IsWritable : MadeEvent → Type 0
IsWritable (makes.tick time) = time < 2 ^ 64
IsWritable (makes.block signed) = signed_block_codec.Within signed
IsWritable (makes.wire attestation) = attestation_codec.Within attestation
IsWritable (makes.carried attestation) = attestation_codec.Within attestation

-- each event of a list has a writing and is accepted by the store behind the events before it, until one clashes
unfoldable pub AreTaken : Store → List MadeEvent → Type 0
AreTaken store [] = Unit {0}
AreTaken store (event ∷ events) = IsWritable event × Takes (handled store event) (λ new. AreTaken new events)
