use Rattle.std.proofs.Common.{◌∙◌, ◌++◌, ◌∷◌, [], ap, subst, length, arith}
use Rattle.bc_words.specs.Outcome.{Becomes}
use Rattle.genesis_maker.specs.inside.Trees.{leaves_of}
use Rattle.genesis_maker.proofs.Trees.{have_places, tree_after, layer_nodes}
use Rattle.genesis_maker.proofs.deposit_tree.DepositTree.push_counted.Goals as goal

pub grow-requires-clause-places : goal.grow-requires-clause-places
grow-requires-clause-places g c =
    have_places c.self.inside.layers c.len-place.result c.self.invariant (c.len-place.ensures ∙ ap length (layer_nodes c.self.inside.layers 0 c.index-self-0.result (omega (arith, c.self.invariant.long))))

pub invariant_of-self : goal.invariant_of-self
invariant_of-self g c =
    (tree_after c.grow.result c.self.inside.layers c.grow.new.layers c.len-place.result c.args.leaf c.self.invariant
    (c.len-place.ensures ∙ ap length (layer_nodes c.self.inside.layers 0 c.index-self-0.result (omega (arith, c.self.invariant.long)))) (omega (arith, c.requires, ap length c.self.view_is)) c.grow.ensures.put).0

pub returns-clause-leaf : goal.returns-clause-leaf
returns-clause-leaf g c =
    subst (λ ls. Becomes c.grow.result ls (leaves_of c.grow.new.layers) (ls ++ c.args.leaf ∷ [])) c.self.view_is
    (tree_after c.grow.result c.self.inside.layers c.grow.new.layers c.len-place.result c.args.leaf c.self.invariant
    (c.len-place.ensures ∙ ap length (layer_nodes c.self.inside.layers 0 c.index-self-0.result (omega (arith, c.self.invariant.long)))) (omega (arith, c.requires, ap length c.self.view_is)) c.grow.ensures.put).1
