-- What lists keep beside their trees.
use Rattle.std.specs.Prelude.{◌≡◌, ℕ, ◌≤◌, ◌^◌, List, length, map, Option, IfSome}
use Rattle.std.specs.List.{AllByRecursion}
use Rattle.hash_tree.specs.Merkle.{merkleize, mix_in_length, depth_of}
use Rattle.ssz_codec.specs.Basic.{uint64}
use Rattle.ssz_codec.specs.Lists.{leaf_count, list_codec}
use Rattle.shared_tree.specs.declared.four.Four.{Four}
use Rattle.shared_tree.specs.inside.Fours.{packed, numbers_in}

-- a list of values, by its tree; the root is kept where it was made and nothing is set since
pub record IsKept {T : Type 0} (root_of : T → List ℕ) (tree : ℕ × List T) (limit : ℕ) (root : Option (List ℕ)) : Type 0 where
  pub depth_is : tree.0 ≡ depth_of limit
  pub limit_low : limit ≤ 2 ^ 40
  pub wide : limit ≤ 2 ^ tree.0
  pub fits : length tree.1 ≤ limit
  pub root_is : IfSome root (λ r. r ≡ mix_in_length (merkleize (map root_of tree.1) limit) (length tree.1))

-- a list of numbers, by its tree of chunks
pub record IsPacked (tree : ℕ × List Four) (len limit : ℕ) (root : List ℕ) : Type 0 where
  pub depth_is : tree.0 ≡ depth_of (leaf_count uint64 limit)
  pub limit_low : limit ≤ 2 ^ 40
  pub wide : leaf_count uint64 limit ≤ 2 ^ tree.0
  pub fits : len ≤ limit
  pub len_is : len ≡ length (numbers_in len tree.1)
  pub packs : tree.1 ≡ packed (numbers_in len tree.1)
  pub within : AllByRecursion uint64.Within (numbers_in len tree.1)
  pub root_is : root ≡ (list_codec uint64 limit).hash_tree_root (numbers_in len tree.1)
