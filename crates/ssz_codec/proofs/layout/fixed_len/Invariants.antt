use Rattle.std.proofs.Common.{◌≡◌, ◌+◌, drop}
use Rattle.ssz_codec.specs.Layout.{fixed_length}
use Rattle.ssz_codec.proofs.layout.fixed_len.Given as goal

-- the fields so far, and those that are left
abbrev pub invariant-loop-field : goal.invariant-loop-field
invariant-loop-field l = l.len + fixed_length (drop l.field-index l.fields) ≡ fixed_length l.fields
