use Rattle.std.proofs.Common.{sym, ◌∙◌, inl, inr}
use Rattle.bc_outside.proofs.memory_shelf.MemoryShelf.open_file.Goals as goal

pub refuse-requires : goal.refuse-requires
refuse-requires c = inl (sym c.is_failing.ensures ∙ c.if-is_failing.true)

pub refuse-requires-in-None : goal.refuse-requires-in-None
refuse-requires-in-None c = inr (rw (← c.self.view_is) (rw (c.deref.ensures.value, c.in-None.is) at c.find.ensures))

pub admit-requires-clause-held : goal.admit-requires-clause-held
admit-requires-clause-held c = rw (← c.self.view_is, c.in-Ok.ensures.items) (rw (c.deref.ensures.value, c.in-Some.is) at c.find.ensures)

pub admit-requires-clause-works : goal.admit-requires-clause-works
admit-requires-clause-works c = sym c.is_failing.ensures ∙ c.if-is_failing.false
