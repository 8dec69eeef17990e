use Rattle.std.proofs.Common.{◌≡◌, ◌==◌, ℕ, drop}
use Rattle.std.specs.List.{list_any}
use Rattle.spec_state.specs.Accessors.{members_with_bits}
use Rattle.forensics.proofs.kept_attestation.is_set_for.Given as goal

abbrev pub invariant-loop-i : goal.invariant-loop-i
invariant-loop-i l = list_any (λ (m : ℕ). m == l.validator) (members_with_bits (drop l.i l.members) (drop l.i l.bits)) ≡ list_any (λ (m : ℕ). m == l.validator) (members_with_bits l.members l.bits)
