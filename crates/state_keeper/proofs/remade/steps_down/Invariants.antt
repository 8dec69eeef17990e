use Rattle.std.proofs.Common.{◌≡◌, ◌+◌, ◌-◌}
use Rattle.state_keeper.specs.inside.Entries.{StandsFor, ancestor_at}
use Rattle.state_keeper.proofs.remade.steps_down.Given as goal

-- the state is that of the ancestor to which the steps so far lead
abbrev pub invariant-loop-done : goal.invariant-loop-done
invariant-loop-done g l = record {
  state : StandsFor l.entries (ancestor_at l.entries l.n (l.far - l.done)) l.state;
  steps : l.steps ≡ l.fn.steps + l.done;
}
