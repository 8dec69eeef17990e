use Rattle.std.proofs.Common.{◌≡◌, drop}
use Rattle.fork_store.specs.inside.ArrayVotes.{silenced_array}
use Rattle.fork_store.proofs.on_attester_slashing.silence_all.Given as goal

abbrev pub invariant-loop-i : goal.invariant-loop-i
invariant-loop-i l = record {
  exact : silenced_array l.array (drop l.i l.indices) ≡ silenced_array l.fn.array l.indices;
  spare : l.array.spare_validators ≡ l.fn.array.spare_validators;
}
