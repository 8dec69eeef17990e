use Rattle.std.proofs.Common.{◌≡◌, ◌+◌, ◌≤◌, length, drop, map, Some}
use Rattle.ssz_codec.specs.Layout.{fixed_length, cut_from}
use Rattle.ssz_codec.proofs.Cutting.{cuts}
use Rattle.ssz_codec.proofs.layout.cut.Given as goal

-- the fields from i on are cut
abbrev pub invariant-loop-i : goal.invariant-loop-i
invariant-loop-i l = record {
  within : l.i ≤ length l.fields;
  place : l.at + fixed_length (drop l.i l.fields) ≡ fixed_length l.fields;
  end : l.end ≤ length l.bytes;
  so_far : cut_from (drop l.i l.fields) (drop l.at l.bytes) l.bytes ≡ Some (cuts (map (λ part. part.now) (drop l.i l.parts)) l.end);
}

abbrev pub decreases-loop-i : goal.decreases-loop-i
decreases-loop-i l = l.i
