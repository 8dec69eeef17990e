use Rattle.std.proofs.Common.{◌≡◌, drop}
use Rattle.forensics.specs.inside.Entries.{finalizing}
use Rattle.forensics.proofs.entries.finalizing_root.Given as goal

abbrev pub invariant-loop-place : goal.invariant-loop-place
invariant-loop-place l = finalizing (drop l.place l.entries) l.finalized ≡ finalizing l.entries l.finalized
