-- The tree of the chunks of all numbers.
use Rattle.std.proofs.Common.{◌≡◌, ℕ, List, length, ap, subst, ◌∙◌, arith}
use Rattle.std.specs.List.{AllByRecursion}
use Rattle.hash_tree.specs.Merkle.{depth_of}
use Rattle.ssz_codec.specs.Basic.{uint64}
use Rattle.shared_tree.specs.inside.Fours.{packed}
use Rattle.shared_tree.proofs.Packing.{length_packed, unpacked}
use Rattle.shared_tree.proofs.Packs.{packed_now}
use Rattle.shared_tree.proofs.packed_list.PackedList.from_vec.Goals as goal

pub of-requires-clause-fits : goal.of-requires-clause-fits
of-requires-clause-fits c =
    let same : c.deref.result.now ≡ c.args.items.items = c.deref.ensures.value in
    let chunks : length c.in_ok-fours.fours.items ≡ length (packed c.args.items.items) = ap length c.in_ok-fours.ensures.packed ∙ ap (λ (xs : List ℕ). length (packed xs)) same in
    omega (arith, length_packed c.args.items.items, c.chunk_limit.ensures.enough, c.depth_of.ensures.fits, c.requires.fits)

pub invariant_of-result : goal.invariant_of-result
invariant_of-result c =
    let same : c.deref.result.now ≡ c.args.items.items = c.deref.ensures.value in
    let is = c.in_ok-tree.ensures ∙ ap (λ (fs : List _). (c.depth_of.result, fs)) (c.in_ok-fours.ensures.packed ∙ ap packed same) in
    packed_now c.in_ok-tree.tree c.args.items.items c.args.limit c.depth_of.result c.len-len.result c.mix_in_length-root.result c.top.result is (c.depth_of.ensures.depth ∙ ap depth_of c.chunk_limit.ensures.exact) (omega (arith, c.chunk_limit.ensures.exact, c.depth_of.ensures.fits)) c.requires.low (omega (arith, c.len-len.ensures)) (omega (arith, c.len-len.ensures, c.requires.fits)) (subst (λ (xs : List ℕ). AllByRecursion uint64.Within xs) same c.in_ok-fours.ensures.within) c.top.ensures c.mix_in_length-root.ensures

pub returns : goal.returns
returns c =
    let same : c.deref.result.now ≡ c.args.items.items = c.deref.ensures.value in
    let chunks : c.in_ok-tree.tree.1 ≡ packed c.args.items.items = ap (λ (v : ℕ × List _). v.1) c.in_ok-tree.ensures ∙ (c.in_ok-fours.ensures.packed ∙ ap packed same) in
    ap (λ (xs : List ℕ). record { limit = c.args.limit; items = xs }) (unpacked c.len-len.result c.args.items.items c.in_ok-tree.tree.1 (omega (arith, c.len-len.ensures)) chunks)
