-- Where a maker stands between two events, and what it gives from there.
use Rattle.std.specs.Prelude.{◌≡◌, ℕ, ◌-◌, List, [], Option, Some, None}
use Rattle.beacon_types.specs.declared.attestation.Attestation.{Attestation}
use Rattle.spec_state.specs.declared.plain.PlainState.{PlainState}
use Rattle.spec_state.specs.Genesis.{header_root_of}
use Rattle.spec_drill.specs.Plan.{Plan, last_slot}
use Rattle.spec_drill.specs.MakeGenesis.{genesis_of_plan}
use Rattle.spec_drill.specs.MakeBlock.{make_block}
use Rattle.spec_drill.specs.Make.{MadeEvent, Made, before, then_made, brought, made_from, made}

-- a block that is still to be made: the state at its slot, and the attestations that it carries
pub record Due : Type 0 where
  pub at : PlainState
  pub votes : List Attestation

-- the state behind the chain's last block, the last slot that was begun, its events that are still to be given, and its block
-- that comes behind them
pub record PlainMaker : Type 0 where
  pub plan : Plan
  pub state : PlainState
  pub slot : ℕ
  pub pending : List MadeEvent
  pub due : Option Due

-- the events of the slots behind the maker's, on a chain behind whose last block this state stands
unfoldable pub later_slots : PlainMaker → PlainState → Made
later_slots maker state = made_from maker.plan state maker.slot (last_slot maker.plan - maker.slot)

-- and those from the block on that is still to be made, if one is
unfoldable pub behind : PlainMaker → Option Due → Made
behind maker None = later_slots maker maker.state
behind maker (Some due) = then_made (make_block maker.plan due.at (header_root_of maker.state) due.votes) (λ made. before (brought made.block due.votes) (later_slots maker made.state))

-- the events that a maker gives, and how they end
unfoldable pub to_come : PlainMaker → Made
to_come maker = before maker.pending (behind maker maker.due)

-- a new maker
unfoldable pub new_maker : Plan → PlainMaker
new_maker plan = record { plan = plan; state = genesis_of_plan plan; slot = 0; pending = []; due = None }

-- the events that a maker gave, and those to come, are those of its plan
abbrev pub HasGiven : List MadeEvent → PlainMaker → Type 0
HasGiven given maker = made maker.plan ≡ before given (to_come maker)
