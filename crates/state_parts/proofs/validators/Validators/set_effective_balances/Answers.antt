-- Each validator is one that its codec has, also where memory was refused.
use Rattle.std.proofs.Common.{ℕ, subst}
use Rattle.std.specs.List.{AllByRecursion}
use Rattle.ssz_codec.specs.Basic.{uint64}
use Rattle.state_parts.proofs.Balanced.{become_balanced}
use Rattle.state_parts.proofs.validators.Validators.set_effective_balances.Goals as goal

pub invariant_of-self : goal.invariant_of-self
invariant_of-self c =
    become_balanced c.set_balances.result c.self.inside.registry c.set_balances.new.registry c.args.changes.items c.set_balances.ensures c.self.invariant
    (subst (AllByRecursion (λ (change : ℕ × ℕ). uint64.Within change.1)) c.deref.ensures.value c.balances_in_range.ensures)
