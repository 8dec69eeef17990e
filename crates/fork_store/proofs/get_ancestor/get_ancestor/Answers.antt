use Rattle.std.proofs.Common.{◌≡◌, ◌<◌, ◌^◌, List, Some, None, length, subst, sym}
use Rattle.spec_fork_choice.specs.Store.{KeptBlock}
use Rattle.fork_store.specs.Arrays.{node_number}
use Rattle.fork_store.proofs.Walks.{walk_nowhere}
use Rattle.fork_store.proofs.get_ancestor.get_ancestor.Goals as goal

pub node_number-requires : goal.node_number-requires
node_number-requires c = subst (λ (b : List KeptBlock). length b < 2 ^ 32) (sym c.blocks-2.ensures) c.requires.nodes.few

pub ancestor_of-requires-clause-number : goal.ancestor_of-requires-clause-number
ancestor_of-requires-clause-number c = subst (λ (b : List KeptBlock). Some c.in-Some.node ≡ node_number b c.args.root) c.blocks-2.ensures c.in-Some.ensures

pub returns-in-None : goal.returns-in-None
returns-in-None c = walk_nowhere c.args.store.now c.args.root c.args.slot (subst (λ (b : List KeptBlock). None ≡ node_number b c.args.root) c.blocks-2.ensures c.in-None.ensures)
