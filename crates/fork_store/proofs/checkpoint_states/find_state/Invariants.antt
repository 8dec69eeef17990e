use Rattle.std.proofs.Common.{◌≡◌, drop}
use Rattle.fork_store.specs.inside.Kept.{checkpoint_state_of}
use Rattle.fork_store.proofs.checkpoint_states.find_state.Given as goal

-- the state isn't before this one
abbrev pub invariant-loop-i : goal.invariant-loop-i
invariant-loop-i l = checkpoint_state_of (drop l.i l.states) l.checkpoint ≡ checkpoint_state_of l.states l.checkpoint
