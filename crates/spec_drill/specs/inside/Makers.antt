-- What always holds of a maker.
use Rattle.std.specs.Prelude.{◌≡◌, ℕ, ◌+◌, ◌≤◌, Option, Some, None}
use Rattle.spec_state.specs.declared.plain.PlainState.{PlainState}
use Rattle.spec_state.specs.Genesis.{header_root_of}
use Rattle.spec_drill.specs.inside.Calm.{IsCalm}
use Rattle.spec_drill.specs.Plan.{Plan, IsPlan, last_slot}
use Rattle.spec_drill.specs.MakeVotes.{votes_of}
use Rattle.spec_drill.specs.Maker.{Due, PlainMaker}

-- a block that is due on a state: at a slot, with the votes of the one before it
pub record IsDue (plan : Plan) (state : PlainState) (slot : ℕ) (due : Due) : Type 0 where
  pub calm : IsCalm 0 due.at
  pub preset : due.at.preset ≡ plan.config.preset
  pub at : due.at.slot ≡ slot
  pub voted : ℕ
  pub next : slot ≡ voted + 1
  pub votes : due.votes ≡ votes_of due.at (header_root_of state) voted

abbrev pub DueIs : Plan → PlainState → ℕ → Option Due → Type 0
DueIs plan state slot None = Unit {0}
DueIs plan state slot (Some due) = IsDue plan state slot due

pub record IsMaker (maker : PlainMaker) : Type 0 where
  pub ok : IsPlan maker.plan
  pub calm : IsCalm 1 maker.state
  pub preset : maker.state.preset ≡ maker.plan.config.preset
  pub low : maker.state.slot ≤ maker.slot
  pub early : maker.slot ≤ last_slot maker.plan
  pub due : DueIs maker.plan maker.state maker.slot maker.due
