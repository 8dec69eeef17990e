-- The slots that are left make of this state and visitor what all slots make of the first ones.
use Rattle.std.proofs.Common.{◌≡◌, ◌-◌, ◌≤◌}
use Rattle.bc_words.specs.Outcome.{done, each_from}
use Rattle.spec_state.specs.Soundness.{IsSound}
use Rattle.transition.specs.inside.Visits.{next_visited, visited}
use Rattle.transition.proofs.process_slots.go_to.Given as goal

abbrev pub invariant-loop-index : goal.invariant-loop-index
invariant-loop-index g l = record {
  from : l.fn.state.slot ≤ l.index;
  slot : l.now.slot ≡ l.index;
  preset : l.now.preset ≡ l.fn.state.preset;
  sound : IsSound l.now;
  shown : each_from (λ index. next_visited g.V.Visitor.shown l.config) (l.index - l.fn.state.slot) l.fn.state.slot (l.fn.state, l.fn.visitor) ≡ done (l.now, l.visitor);
  left : each_from (λ index. next_visited g.V.Visitor.shown l.config) (l.slot - l.index) l.index (l.now, l.visitor) ≡ visited g.V.Visitor.shown l.fn.visitor l.fn.state l.slot l.config;
}
