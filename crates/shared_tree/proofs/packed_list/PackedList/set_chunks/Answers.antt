-- The list with each change made, by its chunks.
use Rattle.std.proofs.Common.{◌≡◌, ℕ, ◌+◌, ◌*◌, ◌/◌, ◌≤◌, List, length, ap, subst, ◌∙◌, arith}
use Rattle.hash_tree.specs.Merkle.{depth_of}
use Rattle.ssz_codec.specs.Basic.{uint64}
use Rattle.ssz_codec.specs.Lists.{leaf_count}
use Rattle.shared_tree.specs.Lists.{Limited}
use Rattle.tree_nodes.specs.Changes.{changed}
use Rattle.tree_nodes.proofs.Changes.{length_changed}
use Rattle.shared_tree.specs.inside.Fours.{numbers_in}
use Rattle.shared_tree.proofs.Keeps.{seen_after}
use Rattle.tree_nodes.proofs.Keeps.{fewer_items}
use Rattle.shared_tree.proofs.Packing.{length_packed, unpacked}
use Rattle.shared_tree.proofs.Packs.{packed_now}
use Rattle.shared_tree.proofs.packed_list.PackedList.set_chunks.Goals as goal

pub returns-in_err-put_many-clause-at_most : goal.returns-in_err-put_many-clause-at_most
returns-in_err-put_many-clause-at_most g c =
    let deep : c.self.inside.tree.0 ≡ depth_of (leaf_count uint64 c.args.self.now.limit) = c.self.invariant.depth_is ∙ ap (λ (l : Limited ℕ). depth_of (leaf_count uint64 l.limit)) c.self.view_is in
    let few = fewer_items (length c.in_ok-chunks.chunks.items) (length c.args.changes.items) c.self.inside.tree.0 c.args.steps.now c.put_many.new.steps c.in_ok-chunks.ensures.few c.put_many.ensures.at_most in
    subst (λ (d : ℕ). c.put_many.new.steps ≤ c.args.steps.now + (length c.args.changes.items * d + 1)) deep (omega (arith, few))

pub invariant_of-self-2 : goal.invariant_of-self-2
invariant_of-self-2 g c =
    let numbers = numbers_in c.self.inside.len c.self.inside.tree.1 in
    let is = c.in_ok-put_many.ensures.put ∙ ap (λ (fs : List _). (c.self.inside.tree.0, fs)) c.in_ok-chunks.ensures.made in
    let long = length_changed (numbers_in c.self.inside.len c.self.inside.tree.1) c.args.changes.items in
    packed_now c.put_many.new.self (changed (numbers_in c.self.inside.len c.self.inside.tree.1) c.args.changes.items) c.self.inside.limit c.self.inside.tree.0 c.self.inside.len c.mix_step-self-inside.result c.top.result is c.self.invariant.depth_is c.self.invariant.wide c.self.invariant.limit_low (omega (arith, long, c.self.invariant.len_is)) c.self.invariant.fits c.in_ok-chunks.ensures.within c.top.ensures c.mix_step-self-inside.ensures.mixed

pub returns-clause-set : goal.returns-clause-set
returns-clause-set g c =
    let is = c.in_ok-put_many.ensures.put ∙ ap (λ (fs : List _). (c.self.inside.tree.0, fs)) c.in_ok-chunks.ensures.made in
    let long = length_changed (numbers_in c.self.inside.len c.self.inside.tree.1) c.args.changes.items in
    seen_after c.args.self.now c.self.inside.limit (numbers_in c.self.inside.len c.self.inside.tree.1) (numbers_in c.self.inside.len c.put_many.new.self.1) (changed c.args.self.now.items c.args.changes.items) c.self.view_is
    (unpacked c.self.inside.len (changed (numbers_in c.self.inside.len c.self.inside.tree.1) c.args.changes.items) c.put_many.new.self.1 (omega (arith, long, c.self.invariant.len_is)) (ap (λ (v : ℕ × List _). v.1) is)
    ∙ ap (λ (l : Limited ℕ). changed l.items c.args.changes.items) c.self.view_is)

pub returns-clause-at_most : goal.returns-clause-at_most
returns-clause-at_most g c =
    let deep : c.self.inside.tree.0 ≡ depth_of (leaf_count uint64 c.args.self.now.limit) = c.self.invariant.depth_is ∙ ap (λ (l : Limited ℕ). depth_of (leaf_count uint64 l.limit)) c.self.view_is in
    let few = fewer_items (length c.in_ok-chunks.chunks.items) (length c.args.changes.items) c.self.inside.tree.0 c.args.steps.now c.put_many.new.steps c.in_ok-chunks.ensures.few c.put_many.ensures.at_most in
    subst (λ (d : ℕ). c.mix_step-self-inside.new.steps ≤ c.args.steps.now + (length c.args.changes.items * d + 1)) deep (omega (arith, few, c.mix_step-self-inside.ensures.steps))

pub returns-in_err-put_many-clause-nodes : goal.returns-in_err-put_many-clause-nodes
returns-in_err-put_many-clause-nodes g c =
    let long = length_packed (numbers_in c.self.inside.len c.self.inside.tree.1) in
    let chunks : length c.self.inside.tree.1 ≡ (length c.args.self.now.items + 3) / 4 = omega (arith, ap length c.self.invariant.packs, long, ap (λ (l : Limited ℕ). length l.items) c.self.view_is) in
    let deep : c.self.inside.tree.0 ≡ depth_of (leaf_count uint64 c.args.self.now.limit) = c.self.invariant.depth_is ∙ ap (λ (l : Limited ℕ). depth_of (leaf_count uint64 l.limit)) c.self.view_is in
    subst (λ (d : ℕ). c.put_many.new.steps ≤ c.args.steps.now + (2 * leaf_count uint64 (length c.args.self.now.items) + d + 1)) deep (omega (arith, chunks, c.put_many.ensures.nodes))

pub returns-clause-nodes : goal.returns-clause-nodes
returns-clause-nodes g c =
    let long = length_packed (numbers_in c.self.inside.len c.self.inside.tree.1) in
    let chunks : length c.self.inside.tree.1 ≡ (length c.args.self.now.items + 3) / 4 = omega (arith, ap length c.self.invariant.packs, long, ap (λ (l : Limited ℕ). length l.items) c.self.view_is) in
    let deep : c.self.inside.tree.0 ≡ depth_of (leaf_count uint64 c.args.self.now.limit) = c.self.invariant.depth_is ∙ ap (λ (l : Limited ℕ). depth_of (leaf_count uint64 l.limit)) c.self.view_is in
    subst (λ (d : ℕ). c.mix_step-self-inside.new.steps ≤ c.args.steps.now + (2 * leaf_count uint64 (length c.args.self.now.items) + d + 1)) deep (omega (arith, chunks, c.put_many.ensures.nodes, c.mix_step-self-inside.ensures.steps))
