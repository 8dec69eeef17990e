-- The entry stands for the block that the store accepted.
use Rattle.std.proofs.Common.{◌∙◌, Some, ap, refl}
use Rattle.beacon_node.specs.inside.Nodes.{history_in}
use Rattle.beacon_node.proofs.Delivering.{block_in_history, kept_more}
use Rattle.beacon_node.proofs.node.Node.keep.Goals as goal

pub returns-clause-history : goal.returns-clause-history
returns-clause-history c =
    ap history_in c.in_ok-push.ensures.items
    ∙ block_in_history c.args.self.now.store.plain.config c.args.genesis.now c.args.self.now.blocks.items c.args.self.now.store.plain c.args.number c.args.given.now c.requires.added _ refl c.root-3.ensures
    (ap Some c.of-block.ensures ∙ (rw (c.state.ensures.same, c.root-2.ensures) at c.in-Some-block.ensures)) (rw (c.in-Some.is, c.root.ensures) at c.in_ok-state.ensures.state) c.requires.watched

pub returns-clause-kept : goal.returns-clause-kept
returns-clause-kept c =
    rw c.in_ok-push.ensures.items
    (kept_more c.args.self.now.store.plain.config c.args.genesis.now c.args.self.now.blocks.items c.args.self.now.store.plain c.args.number c.args.given.now c.requires.added _ refl c.root-3.ensures
    (ap Some c.of-block.ensures ∙ (rw (c.state.ensures.same, c.root-2.ensures) at c.in-Some-block.ensures)) (rw (c.in-Some.is, c.root.ensures) at c.in_ok-state.ensures.state) c.requires.watched c.requires.kept)
