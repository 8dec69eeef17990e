-- How an answer of reading an anchor meets its definition.
use Rattle.std.specs.Prelude.{◌≡◌, Result, Ok, Err}
use Rattle.fork_store.specs.declared.anchor.AnchorStop.{AnchorStop}
use Rattle.fork_store.specs.declared.anchor.AnchorStop.TheVariants.{Fault, NoMemory}
use Rattle.spec_fork_choice.specs.declared.fault.AnchorFault.{AnchorFault}
use Rattle.spec_fork_choice.specs.declared.fault.AnchorFault.TheVariants as parts
use Rattle.ssz_codec.specs.declared.fault.SszFault.{SszFault}
use Rattle.ssz_codec.specs.declared.fault.SszFault.TheVariants as faults
use Rattle.one_chain.specs.declared.status.Status.{Status}
use Rattle.one_chain.specs.declared.status.Status.TheVariants as statuses

-- The answer is what was read, or its first fault, unless memory ran out
abbrev pub GivesAnchor : {A : Type 0} → Result A AnchorStop → Result A AnchorFault → Type 0
GivesAnchor (Ok part) read = read ≡ Ok part
GivesAnchor (Err (Fault fault)) read = read ≡ Err fault
GivesAnchor (Err NoMemory) read = Unit {0}

-- the status of files that hold no anchor
abbrev pub no_anchor : AnchorStop → Status
no_anchor (Fault fault) = statuses.Anchor fault
no_anchor NoMemory = statuses.NoMemory

-- why bytes that are no state, or no block, hold no anchor
abbrev pub no_anchor_state : SszFault → AnchorStop
no_anchor_state faults.NotAWriting = Fault parts.StateNotAWriting
no_anchor_state faults.NoMemory = NoMemory

abbrev pub no_anchor_block : SszFault → AnchorStop
no_anchor_block faults.NotAWriting = Fault parts.BlockNotAWriting
no_anchor_block faults.NoMemory = NoMemory
