use Rattle.std.proofs.Common.{◌≡◌, length}
use Rattle.layer_tests.proofs.spans.offence_of.Given as goal

abbrev pub invariant-loop-source : goal.invariant-loop-source
invariant-loop-source g l = record {
  contents : length l.all.contents ≡ l.source-index;
  spans : length l.all.spans ≡ 2;
}
