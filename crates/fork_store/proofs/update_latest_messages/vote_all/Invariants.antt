use Rattle.std.proofs.Common.{◌≡◌, drop, length}
use Rattle.fork_store.specs.inside.ArrayVotes.{updated_array}
use Rattle.fork_store.proofs.update_latest_messages.vote_all.Given as goal

abbrev pub invariant-loop-i : goal.invariant-loop-i
invariant-loop-i l = record {
  exact : updated_array l.array (drop l.i l.indices) (record { epoch = l.epoch; node = l.node }) ≡ updated_array l.fn.array l.indices (record { epoch = l.epoch; node = l.node });
  spare : l.array.spare_validators ≡ l.fn.array.spare_validators;
  nodes : length l.array.nodes ≡ length l.fn.array.nodes;
}
