-- The chunk of the last change, or that of the tree.
use Rattle.std.proofs.Common.{◌+◌, Bool, subst, ◌∙◌}
use Rattle.tree_nodes.specs.inside.Puts.{Reaches}
use Rattle.tree_nodes.proofs.Changes.{untouched}
use Rattle.tree_nodes.proofs.Many.{unreached, held_facts}
use Rattle.shared_tree.proofs.chunked.held_chunk.Goals as goal

pub returns-then-reaches-clause-places : goal.returns-then-reaches-clause-places
returns-then-reaches-clause-places c =
    let some = subst (λ (b : Bool). Reaches c.args.chunk c.deref.result.now b) c.if-reaches.true c.reaches.ensures in
    let high = some.1 c.pop.new.self.items (c.in-Some._at, c.in-Some.four) (c.deref.ensures.value ∙ c.in-Some.ensures.items) in
    (held_facts c.args.tree.now.1 c.args.chunk c.in-Some._at c.in-Some.four c.args.chunks.now.items c.pop.new.self.items c.requires.within c.in-Some.ensures.items high c.requires.places).0

pub returns-then-reaches-clause-held : goal.returns-then-reaches-clause-held
returns-then-reaches-clause-held c =
    let some = subst (λ (b : Bool). Reaches c.args.chunk c.deref.result.now b) c.if-reaches.true c.reaches.ensures in
    let high = some.1 c.pop.new.self.items (c.in-Some._at, c.in-Some.four) (c.deref.ensures.value ∙ c.in-Some.ensures.items) in
    (held_facts c.args.tree.now.1 c.args.chunk c.in-Some._at c.in-Some.four c.args.chunks.now.items c.pop.new.self.items c.requires.within c.in-Some.ensures.items high c.requires.places).1

pub returns-then-reaches-clause-set : goal.returns-then-reaches-clause-set
returns-then-reaches-clause-set c =
    let some = subst (λ (b : Bool). Reaches c.args.chunk c.deref.result.now b) c.if-reaches.true c.reaches.ensures in
    let high = some.1 c.pop.new.self.items (c.in-Some._at, c.in-Some.four) (c.deref.ensures.value ∙ c.in-Some.ensures.items) in
    (held_facts c.args.tree.now.1 c.args.chunk c.in-Some._at c.in-Some.four c.args.chunks.now.items c.pop.new.self.items c.requires.within c.in-Some.ensures.items high c.requires.places).2

pub returns-clause-places : goal.returns-clause-places
returns-clause-places c =
    let none = subst (λ (b : Bool). Reaches c.args.chunk c.deref.result.now b) c.if-reaches.false c.reaches.ensures in
    unreached (c.args.chunk + 1) c.args.chunk c.args.chunks.now.items c.requires.places (λ front last e. none front last (c.deref.ensures.value ∙ e))

pub returns-clause-held : goal.returns-clause-held
returns-clause-held c =
    let none = subst (λ (b : Bool). Reaches c.args.chunk c.deref.result.now b) c.if-reaches.false c.reaches.ensures in
    untouched c.args.tree.now.1 0 c.args.chunk c.args.chunks.now.items (unreached (c.args.chunk + 1) c.args.chunk c.args.chunks.now.items c.requires.places (λ front last e. none front last (c.deref.ensures.value ∙ e))) ∙ c.chunk_at.ensures
