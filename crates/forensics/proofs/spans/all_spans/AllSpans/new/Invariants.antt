use Rattle.std.proofs.Common.{◌≡◌, length}
use Rattle.forensics.proofs.Named.{AreFresh}
use Rattle.forensics.proofs.spans.all_spans.AllSpans.new.Given as goal

abbrev pub invariant-loop : goal.invariant-loop
invariant-loop l = record {
  fresh : AreFresh l.spans.items;
  count : length l.spans.items ≡ l.counter;
}
