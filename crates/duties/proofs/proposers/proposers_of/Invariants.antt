-- The proposers in front were picked, and those of the other slots of the epoch are to come.
use Rattle.std.proofs.Common.{◌≡◌, ◌≤◌, ◌*◌, ◌-◌}
use Rattle.spec_state.specs.Accessors.{get_current_epoch}
use Rattle.duties.specs.Duties.{proposer_duties}
use Rattle.duties.proofs.Picking.{with_rest}
use Rattle.duties.proofs.proposers.proposers_of.Given as goal

abbrev pub invariant-loop-slot : goal.invariant-loop-slot
invariant-loop-slot l = record {
  within : l.epoch * l.slots ≤ l.slot;
  comes : proposer_duties l.state (get_current_epoch l.state) ≡ with_rest l.state l.duties.items l.slot (l.slot-end - l.slot);
}
