use Rattle.std.proofs.Common.{◌∙◌, List, reverse, None, ap}
use Rattle.forensics.specs.declared.entries.Entry.{Entry}
use Rattle.forensics.specs.inside.Entries.{earliest, finalizing}
use Rattle.forensics.proofs.Chained.{move_found, no_move}
use Rattle.forensics.proofs.history.History.first_move.Goals as goal

pub returns-in-Some : goal.returns-in-Some
returns-in-Some c = move_found c.args.self.now c.self.inside.entries.items _ c.self.inside.added c.self.inside.finalized c.self.view_is c.self.invariant.entries_are _ _
    (c.in-Some.ensures ∙ ap (λ (es : List Entry). finalizing es c.self.inside.finalized) c.deref.ensures.value)
    (c.earliest_move.ensures ∙ ap (λ (es : List Entry). earliest (reverse es) c.in-Some.last None) c.deref-in-Some.ensures.value)

pub returns-in-None : goal.returns-in-None
returns-in-None c = no_move c.args.self.now c.self.inside.entries.items _ c.self.inside.added c.self.inside.finalized c.self.view_is c.self.invariant.entries_are
    (c.in-None.ensures ∙ ap (λ (es : List Entry). finalizing es c.self.inside.finalized) c.deref.ensures.value)
