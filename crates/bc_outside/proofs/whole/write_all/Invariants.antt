use Rattle.std.proofs.Common.{◌≡◌, ◌≤◌, ◌-◌, ◌++◌, length, take}
use Rattle.bc_outside.specs.Calls.{SinkKeeps}
use Rattle.bc_outside.proofs.whole.write_all.Given as goal

abbrev pub invariant-loop-written : goal.invariant-loop-written
invariant-loop-written g l = record {
  within : l.written ≤ length l.bytes;
  told : (g.O.Sink.told l.sink).taken ≡ (g.O.Sink.told l.initial.sink).taken ++ take l.written l.bytes;
  keeps : SinkKeeps (g.O.Sink.told l.initial.sink) (g.O.Sink.told l.sink);
}

abbrev pub decreases-loop-written : goal.decreases-loop-written
decreases-loop-written g l = length l.bytes - l.written
