use Rattle.std.proofs.Common.{ℕ, ◌<◌, get_or}
use Rattle.fork_store.proofs.update_latest_messages.places_for.Given as goal

abbrev pub invariant-loop-i : goal.invariant-loop-i
invariant-loop-i l = (k : ℕ) → k < l.i → get_or l.indices k 0 < l.places
