-- What `slasher` writes: a record of version 2, in which each attester slashing is an event of kind 5.
use Rattle.std.specs.Prelude.{ℕ, List, ◌++◌, flat_map}
use Rattle.record_file.specs.Record.{magic}
use Rattle.record_file.specs.laws.Written.{frame_of_event}
use Rattle.record_file.specs.declared.event.Event.{Event}
use Rattle.record_file.specs.declared.version.Version.TheVariants.{Two}
use Rattle.beacon_types.specs.Blocks.{attester_slashing_codec}
use Rattle.beacon_types.specs.declared.attester_slashing.AttesterSlashing.{AttesterSlashing}

-- the kind of the events that are attester slashings
abbrev pub slashing_kind : ℕ
slashing_kind = 5

-- the event of an attester slashing: its payload is the writing
abbrev pub slashing_event : AttesterSlashing → Event
slashing_event slashing = record { kind = slashing_kind; payload = attester_slashing_codec.serialize slashing }

-- its frame: the kind, the length of the payload in four bytes, and the payload
unfoldable pub slashing_frame : AttesterSlashing → List ℕ
slashing_frame slashing = frame_of_event (slashing_event slashing)

-- the record of attester slashings, in order: what a record of version 2 begins with, and a frame for each
unfoldable pub slashing_record : List AttesterSlashing → List ℕ
slashing_record slashings = magic Two ++ flat_map slashing_frame slashings
