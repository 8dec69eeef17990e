-- The chunk with the number is changed behind the others.
use Rattle.std.proofs.Common.{ℕ, ◌+◌, ◌/◌, List, sym, subst, arith}
use Rattle.tree_nodes.specs.Changes.{AreChanges}
use Rattle.tree_nodes.proofs.Many.{more_places}
use Rattle.shared_tree.proofs.ChunkChanges.{add_facts}
use Rattle.shared_tree.proofs.chunked.add_number.Goals as goal

pub returns-clause-places : goal.returns-clause-places
returns-clause-places c =
    subst (λ (cs : List (ℕ × _)). AreChanges 0 (c.args.at / 4 + 1) cs) (sym c.in_ok-push.ensures.items) (more_places 0 (c.args.at / 4) c.held_chunk.new.chunks.items c.with-four.result (omega arith) c.held_chunk.ensures.places)

pub returns-clause-made : goal.returns-clause-made
returns-clause-made c = λ numbers within was.
    add_facts c.args.tree.now.1 numbers c.args.at c.args.number c.held_chunk.result c.with-four.result c.args.chunks.now.items c.held_chunk.new.chunks.items c.push.new.self.items within was c.held_chunk.ensures.places c.held_chunk.ensures.held c.held_chunk.ensures.set c.with-four.ensures c.in_ok-push.ensures.items
