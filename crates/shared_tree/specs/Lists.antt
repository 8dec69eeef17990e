-- What a shared list is seen as.
use Rattle.std.specs.Prelude.{ℕ, List}

-- the items of a list, and how many it may have
pub record Limited (A : Type 0) : Type 0 where
  pub limit : ℕ
  pub items : List A
