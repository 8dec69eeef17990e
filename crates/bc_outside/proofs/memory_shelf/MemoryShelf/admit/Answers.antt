use Rattle.std.proofs.Common.{[], ◌∷◌}
use Rattle.bc_outside.proofs.Shelved.{held_append}
use Rattle.bc_outside.proofs.memory_shelf.MemoryShelf.admit.Goals as goal

pub invariant_of-self-in-Ok-ask : goal.invariant_of-self-in-Ok-ask
invariant_of-self-in-Ok-ask c =
    let held = rw (← c.self.view_is) at c.requires.held in
    (c.self.invariant.0, rw (c.push_reserved.ensures.items, c.reserve.ensures.items, c.new.ensures, c.in-Ok-ask.ensures.given) (held_append c.self.inside.files.items c.self.inside.opened.items (_ ∷ []) c.self.invariant.1 (held, λ ended. absurd cc, tt)))
