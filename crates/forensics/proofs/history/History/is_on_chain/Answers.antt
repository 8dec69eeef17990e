use Rattle.std.proofs.Common.{◌∙◌, List, reverse, ap}
use Rattle.forensics.specs.declared.entries.Entry.{Entry}
use Rattle.forensics.specs.inside.Entries.{reaches}
use Rattle.forensics.proofs.Chained.{on_chain_is}
use Rattle.forensics.proofs.history.History.is_on_chain.Goals as goal

pub returns : goal.returns
returns c = c.is_on_chain.ensures ∙ ap (λ (es : List Entry). reaches c.args.genesis_root.now c.args.ancestor.now (reverse es) c.args.block) c.deref.ensures.value ∙ on_chain_is c.args.self.now c.self.inside.entries.items _ c.self.inside.added c.self.inside.finalized c.self.view_is c.self.invariant.entries_are _ _ _ c.requires
