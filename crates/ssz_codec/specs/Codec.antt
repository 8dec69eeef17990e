-- What an SSZ type is (simple-serialize.md): which values it has, the writing of each, its hash tree root, and the
-- reading of bytes, which is tied to the writing by a law (`Lawful`).
use Rattle.std.specs.Prelude.{ℕ, Bool, List, Option}
use Rattle.ssz_codec.specs.declared.layout.Field.{Field}

pub record Codec (A : Type 0) : Type 1 where
  -- how a value stands in the fixed part of a container
  pub field : Field
  -- whether it is a basic type, whose values are packed in the leaves of a list ("Typing")
  pub basic : Bool
  -- the values that have a writing: within the limits, and each offset fits in four bytes
  pub Within : A → Type 0
  -- serialize
  pub serialize : A → List ℕ
  -- deserialize: the value whose writing these bytes are, if there is one
  pub deserialize : List ℕ → Option A
  -- hash_tree_root
  pub hash_tree_root : A → List ℕ
