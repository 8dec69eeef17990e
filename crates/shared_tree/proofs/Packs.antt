-- What a list of numbers keeps after a change.
use Rattle.std.proofs.Common.{◌≡◌, ℕ, ◌+◌, ◌<◌, ◌≤◌, ◌^◌, List, length, map, max, sym, ap, subst, ◌∙◌, arith}
use Rattle.std.specs.List.{AllByRecursion}
use Rattle.hash_tree.specs.Merkle.{merkle_root, merkleize, mix_in_length, depth_of, u64_chunks, uints_to_bytes}
use Rattle.ssz_codec.specs.Basic.{uint64}
use Rattle.ssz_codec.specs.Lists.{leaf_count, list_codec, vector_codec}
use Rattle.shared_tree.specs.declared.four.Four.{Four}
use Rattle.shared_tree.specs.Lists.{Limited}
use Rattle.shared_tree.specs.inside.Fours.{packed, numbers_in}
use Rattle.shared_tree.specs.inside.Kept.{IsPacked}
use Rattle.tree_nodes.specs.inside.Puts.{put_at}
use Rattle.tree_nodes.proofs.Puts.{length_put}
use Rattle.shared_tree.proofs.Packing.{unpacked, packed_roots, put_below}

-- the root of numbers in a tree of their chunks
pub numbers_top : (tree : ℕ × List Four) (items : List ℕ) (limit depth : ℕ) (top : List ℕ) → tree.1 ≡ packed items → tree.0 ≡ depth_of (leaf_count uint64 limit) → top ≡ merkle_root tree.0 (map (λ f. merkle_root 0 (u64_chunks f.numbers)) tree.1) → top ≡ (vector_codec uint64 limit).hash_tree_root items
unfolding merkleize uints_to_bytes
numbers_top tree items limit depth top is deep top_is =
    top_is
    ∙ (ap (λ (fs : List Four). merkle_root tree.0 (map (λ f. merkle_root 0 (u64_chunks f.numbers)) fs)) is
    ∙ (ap (λ (c : List (List ℕ)). merkle_root tree.0 c) (packed_roots items) ∙ ap (λ (d : ℕ). merkle_root d (u64_chunks items)) deep))

pub numbers_root : (tree : ℕ × List Four) (items : List ℕ) (limit len : ℕ) (root top : List ℕ) → tree.1 ≡ packed items → tree.0 ≡ depth_of (leaf_count uint64 limit) → len ≡ length items → top ≡ merkle_root tree.0 (map (λ f. merkle_root 0 (u64_chunks f.numbers)) tree.1) → root ≡ mix_in_length top len → root ≡ (list_codec uint64 limit).hash_tree_root items
numbers_root tree items limit len root top is deep long top_is root_is =
    root_is
    ∙ (ap (λ (t : List ℕ). mix_in_length t len) (numbers_top tree items limit tree.0 top is deep top_is)
    ∙ ap (λ (n : ℕ). mix_in_length ((vector_codec uint64 limit).hash_tree_root items) n) long)

-- the list as it is seen
abbrev pub top_of : Limited ℕ → List ℕ
top_of list = (vector_codec uint64 list.limit).hash_tree_root list.items

pub packed_now : (tree : ℕ × List Four) (items : List ℕ) (limit depth len : ℕ) (root top : List ℕ) → tree ≡ (depth, packed items) → depth ≡ depth_of (leaf_count uint64 limit) → leaf_count uint64 limit ≤ 2 ^ depth → limit ≤ 2 ^ 40 → len ≡ length items → len ≤ limit → AllByRecursion uint64.Within items → top ≡ merkle_root tree.0 (map (λ f. merkle_root 0 (u64_chunks f.numbers)) tree.1) → root ≡ mix_in_length top len → IsPacked tree len limit root
packed_now tree items limit depth len root top is depth_is wide low long fits within top_is root_is =
    let deep : tree.0 ≡ depth = ap (λ (v : ℕ × List Four). v.0) is in
    let chunks : tree.1 ≡ packed items = ap (λ (v : ℕ × List Four). v.1) is in
    let same : numbers_in len tree.1 ≡ items = unpacked len items tree.1 long chunks in
    record {
      depth_is = deep ∙ depth_is;
      limit_low = low;
      wide = subst (λ (d : ℕ). leaf_count uint64 limit ≤ 2 ^ d) (sym deep) wide;
      fits = fits;
      len_is = long ∙ sym (ap length same);
      packs = chunks ∙ sym (ap packed same);
      within = subst (λ (xs : List ℕ). AllByRecursion uint64.Within xs) (sym same) within;
      root_is = numbers_root tree items limit len root top chunks (deep ∙ depth_is) long top_is root_is ∙ ap (λ (xs : List ℕ). (list_codec uint64 limit).hash_tree_root xs) (sym same);
    }

-- the numbers after one is put among them
pub numbers_put : (tree new : ℕ × List Four) (len next at n : ℕ) → len ≡ length (numbers_in len tree.1) → new ≡ (tree.0, packed (put_at (numbers_in len tree.1) at n)) → at ≤ len → next ≡ max len (at + 1) → numbers_in next new.1 ≡ put_at (numbers_in len tree.1) at n
numbers_put tree new len next at n long is place next_is =
    let count : length (put_at (numbers_in len tree.1) at n) ≡ max (length (numbers_in len tree.1)) (at + 1) = length_put (numbers_in len tree.1) at n (omega arith) in
    unpacked next (put_at (numbers_in len tree.1) at n) new.1 (omega arith) (ap (λ (v : ℕ × List Four). v.1) is)

pub packed_put : (tree new : ℕ × List Four) (len next at limit n : ℕ) (old_root root top : List ℕ) → IsPacked tree len limit old_root → new ≡ (tree.0, packed (put_at (numbers_in len tree.1) at n)) → at ≤ len → next ≡ max len (at + 1) → next ≤ limit → n < 2 ^ 64 → top ≡ merkle_root new.0 (map (λ f. merkle_root 0 (u64_chunks f.numbers)) new.1) → root ≡ mix_in_length top next → IsPacked new next limit root
packed_put tree new len next at limit n old_root root top h is place next_is fits below top_is root_is =
    let long = h.len_is in
    let count : length (put_at (numbers_in len tree.1) at n) ≡ max (length (numbers_in len tree.1)) (at + 1) = length_put (numbers_in len tree.1) at n (omega arith) in
    packed_now new (put_at (numbers_in len tree.1) at n) limit tree.0 next root top is h.depth_is h.wide h.limit_low (omega arith) fits (put_below (numbers_in len tree.1) at n h.within below) top_is root_is
