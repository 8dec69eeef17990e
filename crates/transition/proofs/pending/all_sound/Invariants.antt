use Rattle.std.proofs.Common.{◌≡◌, drop}
use Rattle.std.specs.List.{list_all}
use Rattle.transition.specs.inside.Tests.{attestations_of, pending_test}
use Rattle.transition.proofs.pending.all_sound.Given as goal

-- none fails before this one
abbrev pub invariant-loop-i : goal.invariant-loop-i
invariant-loop-i l =
    list_all (pending_test l.committees l.state l.epoch) (drop l.i (attestations_of l.pending l.state)) ≡ list_all (pending_test l.committees l.state l.epoch) (attestations_of l.pending l.state)
