-- A tree that becomes deeper by more items.
use Rattle.std.specs.Prelude.{◌≡◌, ℕ, ◌+◌, ◌-◌, ◌*◌, ◌<◌, ◌≤◌, ◌^◌, List, ◌++◌, length, min}

-- the halves of a tree as one of this depth, which may be greater: then it is itself the left half
pub record GrownHalves {T : Type 0} (node : ℕ × List T) (depth : ℕ) (left right : ℕ × List T) : Type 0 where
  pub left_depth : left.0 ≡ min node.0 (depth - 1)
  pub right_depth : right.0 ≡ depth - 1
  pub left_fits : length left.1 ≤ 2 ^ left.0
  pub right_fits : length right.1 ≤ 2 ^ (depth - 1)
  pub left_first : 0 < length right.1 → length left.1 ≡ 2 ^ (depth - 1)
  pub whole : node.1 ≡ left.1 ++ right.1

-- there are more items, and a tree that is a level lower would have room for one less at most
pub record IsLeast (depth len count : ℕ) : Type 0 where
  pub some : 0 < count
  pub least : 2 ^ depth ≤ 2 * (len + count) + 1
