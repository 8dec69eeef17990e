-- Each value is one that its codec has, also where memory was refused.
use Rattle.std.proofs.Common.{ℕ, subst}
use Rattle.std.specs.List.{AllByRecursion}
use Rattle.state_parts.proofs.Within.{all_become, all_taken}
use Rattle.state_parts.proofs.values.Values.set_many.Goals as goal

pub invariant_of-self : goal.invariant_of-self
invariant_of-self g c =
    let within = g.T.Ssz.codec.Within in
    let looked_at = all_taken (λ (change : ℕ × _). within change.1) c.deref-change-items.result.now c.loop-change.change-index c.loop-change-test.false c.loop-change.invariant in
    all_become within c.set_items.result c.self.inside.list c.set_items.new.list c.args.changes.items c.set_items.ensures c.self.invariant
    (subst (AllByRecursion (λ (change : ℕ × _). within change.1)) c.deref-change-items.ensures.value looked_at)
