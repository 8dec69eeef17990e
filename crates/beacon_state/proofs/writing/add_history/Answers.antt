-- Each list stands at its place.
use Rattle.std.proofs.Common.{rules}
use Rattle.state_parts.specs.inside.Groups.{history_fields}
use Rattle.beacon_state.proofs.writing.add_history.Goals as goal

pub returns : goal.returns
unfolding history_fields
returns c = search rules
