-- The list of other numbers.
use Rattle.std.proofs.Common.{◌≡◌, ℕ, ◌+◌, ◌*◌, ◌/◌, ◌≤◌, List, length, ap, subst, ◌∙◌, arith}
use Rattle.std.specs.List.{AllByRecursion}
use Rattle.hash_tree.specs.Merkle.{depth_of}
use Rattle.ssz_codec.specs.Basic.{uint64}
use Rattle.ssz_codec.specs.Lists.{leaf_count}
use Rattle.shared_tree.specs.Lists.{Limited}
use Rattle.shared_tree.specs.inside.Fours.{packed, numbers_in}
use Rattle.shared_tree.proofs.Keeps.{seen_after}
use Rattle.tree_nodes.proofs.Keeps.{fewer_items}
use Rattle.shared_tree.proofs.Packing.{length_packed, unpacked}
use Rattle.shared_tree.proofs.Packs.{packed_now}
use Rattle.shared_tree.proofs.packed_list.PackedList.set_every.Goals as goal

pub put_every-requires-clause-some : goal.put_every-requires-clause-some
put_every-requires-clause-some g c =
    let packs = c.in_ok-fours.ensures.packed ∙ ap packed c.deref.ensures.value in
    omega (arith, ap length packs, length_packed c.args.numbers.items, c.requires.some)

pub put_every-requires-clause-every : goal.put_every-requires-clause-every
put_every-requires-clause-every g c =
    let packs = c.in_ok-fours.ensures.packed ∙ ap packed c.deref.ensures.value in
    let view = ap (λ (l : Limited ℕ). length l.items) c.self.view_is in
    omega (arith, ap length packs, length_packed c.args.numbers.items, ap length c.self.invariant.packs, length_packed (numbers_in c.self.inside.len c.self.inside.tree.1), view, c.requires.every)

pub returns-in_err-put_every-clause-at_most : goal.returns-in_err-put_every-clause-at_most
returns-in_err-put_every-clause-at_most g c =
    let packs = c.in_ok-fours.ensures.packed ∙ ap packed c.deref.ensures.value in
    let deep : c.self.inside.tree.0 ≡ depth_of (leaf_count uint64 c.args.self.now.limit) = c.self.invariant.depth_is ∙ ap (λ (l : Limited ℕ). depth_of (leaf_count uint64 l.limit)) c.self.view_is in
    let less : length c.in_ok-fours.fours.items ≤ length c.args.numbers.items = omega (arith, ap length packs, length_packed c.args.numbers.items) in
    let few = fewer_items (length c.in_ok-fours.fours.items) (length c.args.numbers.items) c.self.inside.tree.0 c.args.steps.now c.put_every.new.steps less c.put_every.ensures.at_most in
    subst (λ (d : ℕ). c.put_every.new.steps ≤ c.args.steps.now + (length c.args.numbers.items * d + 1)) deep (omega (arith, few))

pub invariant_of-self-2 : goal.invariant_of-self-2
invariant_of-self-2 g c =
    let packs = c.in_ok-fours.ensures.packed ∙ ap packed c.deref.ensures.value in
    let view = ap (λ (l : Limited ℕ). length l.items) c.self.view_is in
    let is = c.in_ok-put_every.ensures.put ∙ ap (λ (fs : List _). (c.self.inside.tree.0, fs)) packs in
    packed_now c.put_every.new.self c.args.numbers.items c.self.inside.limit c.self.inside.tree.0 c.self.inside.len c.mix_step-self-inside.result c.top.result is c.self.invariant.depth_is c.self.invariant.wide c.self.invariant.limit_low (omega (arith, view, c.self.invariant.len_is, c.requires.every)) c.self.invariant.fits (subst (λ (xs : List ℕ). AllByRecursion uint64.Within xs) c.deref.ensures.value c.in_ok-fours.ensures.within) c.top.ensures c.mix_step-self-inside.ensures.mixed

pub returns-clause-set : goal.returns-clause-set
returns-clause-set g c =
    let packs = c.in_ok-fours.ensures.packed ∙ ap packed c.deref.ensures.value in
    let view = ap (λ (l : Limited ℕ). length l.items) c.self.view_is in
    let is = c.in_ok-put_every.ensures.put ∙ ap (λ (fs : List _). (c.self.inside.tree.0, fs)) packs in
    seen_after c.args.self.now c.self.inside.limit (numbers_in c.self.inside.len c.self.inside.tree.1) (numbers_in c.self.inside.len c.put_every.new.self.1) c.args.numbers.items c.self.view_is
    (unpacked c.self.inside.len c.args.numbers.items c.put_every.new.self.1 (omega (arith, view, c.self.invariant.len_is, c.requires.every)) (ap (λ (v : ℕ × List _). v.1) is))

pub returns-clause-at_most : goal.returns-clause-at_most
returns-clause-at_most g c =
    let packs = c.in_ok-fours.ensures.packed ∙ ap packed c.deref.ensures.value in
    let deep : c.self.inside.tree.0 ≡ depth_of (leaf_count uint64 c.args.self.now.limit) = c.self.invariant.depth_is ∙ ap (λ (l : Limited ℕ). depth_of (leaf_count uint64 l.limit)) c.self.view_is in
    let less : length c.in_ok-fours.fours.items ≤ length c.args.numbers.items = omega (arith, ap length packs, length_packed c.args.numbers.items) in
    let few = fewer_items (length c.in_ok-fours.fours.items) (length c.args.numbers.items) c.self.inside.tree.0 c.args.steps.now c.put_every.new.steps less c.put_every.ensures.at_most in
    subst (λ (d : ℕ). c.mix_step-self-inside.new.steps ≤ c.args.steps.now + (length c.args.numbers.items * d + 1)) deep (omega (arith, few, c.mix_step-self-inside.ensures.steps))

pub returns-in_err-put_every-clause-nodes : goal.returns-in_err-put_every-clause-nodes
returns-in_err-put_every-clause-nodes g c =
    let long = length_packed (numbers_in c.self.inside.len c.self.inside.tree.1) in
    let chunks : length c.self.inside.tree.1 ≡ (length c.args.self.now.items + 3) / 4 = omega (arith, ap length c.self.invariant.packs, long, ap (λ (l : Limited ℕ). length l.items) c.self.view_is) in
    let deep : c.self.inside.tree.0 ≡ depth_of (leaf_count uint64 c.args.self.now.limit) = c.self.invariant.depth_is ∙ ap (λ (l : Limited ℕ). depth_of (leaf_count uint64 l.limit)) c.self.view_is in
    subst (λ (d : ℕ). c.put_every.new.steps ≤ c.args.steps.now + (2 * leaf_count uint64 (length c.args.self.now.items) + d + 1)) deep (omega (arith, chunks, c.put_every.ensures.nodes))

pub returns-clause-nodes : goal.returns-clause-nodes
returns-clause-nodes g c =
    let long = length_packed (numbers_in c.self.inside.len c.self.inside.tree.1) in
    let chunks : length c.self.inside.tree.1 ≡ (length c.args.self.now.items + 3) / 4 = omega (arith, ap length c.self.invariant.packs, long, ap (λ (l : Limited ℕ). length l.items) c.self.view_is) in
    let deep : c.self.inside.tree.0 ≡ depth_of (leaf_count uint64 c.args.self.now.limit) = c.self.invariant.depth_is ∙ ap (λ (l : Limited ℕ). depth_of (leaf_count uint64 l.limit)) c.self.view_is in
    subst (λ (d : ℕ). c.mix_step-self-inside.new.steps ≤ c.args.steps.now + (2 * leaf_count uint64 (length c.args.self.now.items) + d + 1)) deep (omega (arith, chunks, c.put_every.ensures.nodes, c.mix_step-self-inside.ensures.steps))
