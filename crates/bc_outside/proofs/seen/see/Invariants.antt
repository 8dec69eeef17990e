use Rattle.std.proofs.Common.{◌≡◌, ◌≤◌, ◌+◌, ◌-◌, ◌++◌, length, map, take, vec_len, vec_capacity}
use Rattle.bc_outside.proofs.seen.see.Given as goal

abbrev pub invariant-loop-byte : goal.invariant-loop-byte
invariant-loop-byte l = record {
  seen : map (λ s. s.value) l.seen.items ≡ map (λ s. s.value) l.initial.seen.items ++ take l.byte-index l.piece;
  room : vec_len l.seen + (length l.piece - l.byte-index) ≤ vec_capacity l.seen;
}
