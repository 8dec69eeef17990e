-- Where every number changes, the list is that of the changes' numbers.
use Rattle.std.proofs.Common.{◌≡◌, ℕ, ◌+◌, ◌*◌, ◌≤◌, List, length, ap, subst, ◌∙◌, arith}
use Rattle.std.proofs.lemmas.List.{length-map}
use Rattle.bc_words.specs.Outcome.{Becomes}
use Rattle.hash_tree.specs.Merkle.{depth_of}
use Rattle.ssz_codec.specs.Basic.{uint64}
use Rattle.ssz_codec.specs.Lists.{leaf_count}
use Rattle.shared_tree.specs.Lists.{Limited}
use Rattle.tree_nodes.proofs.Every.{every_set}
use Rattle.shared_tree.proofs.packed_list.PackedList.set_many.Goals as goal

pub returns-then-len-self-clause-set : goal.returns-then-len-self-clause-set
returns-then-len-self-clause-set g c =
    let view = ap (λ (l : Limited ℕ). length l.items) c.self.view_is in
    let same : length c.args.changes.items ≡ length c.args.self.now.items = omega (arith, view, c.self.invariant.len_is, c.len.ensures, c.if-len-self.true) in
    subst (λ (xs : List ℕ). Becomes c.set_every.result c.args.self.now c.set_every.new.self (record { limit = c.args.self.now.limit; items = xs }))
    (c.in_ok-numbers.ensures ∙ every_set c.args.self.now.items c.args.changes.items same c.requires.places) c.set_every.ensures.set

pub set_every-requires-clause-some : goal.set_every-requires-clause-some
set_every-requires-clause-some g c =
    omega (arith, ap length c.in_ok-numbers.ensures ∙ length-map c.args.changes.items (λ change. change.1), c.len.ensures, c.if-len-self.true)

pub set_every-requires-clause-every : goal.set_every-requires-clause-every
set_every-requires-clause-every g c =
    let view = ap (λ (l : Limited ℕ). length l.items) c.self.view_is in
    omega (arith, view, c.self.invariant.len_is, c.len.ensures, c.if-len-self.true, ap length c.in_ok-numbers.ensures ∙ length-map c.args.changes.items (λ change. change.1))

pub returns-then-len-self-clause-at_most : goal.returns-then-len-self-clause-at_most
returns-then-len-self-clause-at_most g c =
    subst (λ (n : ℕ). c.set_every.new.steps ≤ c.args.steps.now + (n * depth_of (leaf_count uint64 c.args.self.now.limit) + 1)) (ap length c.in_ok-numbers.ensures ∙ length-map c.args.changes.items (λ change. change.1)) c.set_every.ensures.at_most

pub returns-then-len-self-clause-nodes : goal.returns-then-len-self-clause-nodes
returns-then-len-self-clause-nodes g c = c.set_every.ensures.nodes
