-- The root of a tree of a greater depth over the same chunks.
use Rattle.std.specs.Prelude.{◌≡◌, ℕ, ◌≤◌, ◌^◌, List, length}
use Rattle.hash_tree.specs.Merkle.{merkle_root}

-- whichever chunks a root at the lower depth stands for, the other stands for them at the greater
abbrev pub Lifts : ℕ → ℕ → List ℕ → List ℕ → Type 0
Lifts low depth root top =
    (chunks : List (List ℕ)) → length chunks ≤ 2 ^ low → root ≡ merkle_root low chunks → top ≡ merkle_root depth chunks
