-- Containers (simple-serialize.md, "Vectors, containers, lists"): the constructor, then a line for each field in its
-- order, with its getter and its type.
use Rattle.std.specs.Prelude.{◌≡◌, ℕ, ◌+◌, false, List, [], ◌∷◌, length, Option, Some, None}
use Rattle.hash_tree.specs.Merkle.{merkleize}
use Rattle.ssz_codec.specs.declared.layout.Field.{Field}
use Rattle.ssz_codec.specs.declared.layout.Field.TheVariants.{Fixed, Variable}
use Rattle.ssz_codec.specs.Layout.{◌and_then◌, fixed_length, joined, OffsetsFit, cut}
use Rattle.ssz_codec.specs.Codec.{Codec}

-- a pair, nested to the right
infixr 20 ◌⊗◌
pub record ◌⊗◌ (A : Type 0) (B : Type 0) : Type 0 where
  pub first : A
  pub rest : B

abbrev pub pair : {A B : Type 0} → A → B → A ⊗ B
pair a b = record { first = a; rest = b }

-- Some fields of a container S, in order. From their values comes a B: the container itself where no field is missing,
-- and else a function of those that are. Lists of fields, parts and roots go before those of the fields that follow.
pub record Fields (S B : Type 0) : Type 1 where
  -- the values of the fields, what they make, and those of a container
  pub Values : Type 0
  pub make : Values → B
  pub values : S → Values
  pub Within : Values → Type 0
  -- how the fields stand in the fixed part
  pub layout : List Field → List Field
  -- the writing and the root of each value
  pub parts : Values → List (List ℕ) → List (List ℕ)
  pub roots : Values → List (List ℕ) → List (List ℕ)
  -- the values of parts, given to what reads the rest
  pub deserialize : (B → List (List ℕ) → Option S) → List (List ℕ) → Option S

-- no field yet
abbrev pub fields_of : {S B : Type 0} → B → Fields S B
fields_of make = record {
  Values = Unit {0};
  make = λ a. make;
  values = λ s. tt;
  Within = λ a. Unit {0};
  layout = λ more. more;
  parts = λ a more. more;
  roots = λ a more. more;
  deserialize = λ next. next make;
}

-- the value of the next part, given to what reads the rest
abbrev pub deserialize_next : {S A : Type 0} → Codec A → (A → List (List ℕ) → Option S) → List (List ℕ) → Option S
deserialize_next c next [] = None
deserialize_next c next (part ∷ parts) = c.deserialize part and_then λ a. next a parts

-- one more field: its getter and its type
infixl 10 ◌▹◌∶◌
abbrev pub ◌▹◌∶◌ : {S A B : Type 0} → Fields S (A → B) → (S → A) → Codec A → Fields S B
q ▹ get ∶ c = record {
  Values = q.Values ⊗ _;
  make = λ a. q.make a.first a.rest;
  values = λ s. pair (q.values s) (get s);
  Within = λ a. q.Within a.first × c.Within a.rest;
  layout = λ more. q.layout (c.field ∷ more);
  parts = λ a more. q.parts a.first (c.serialize a.rest ∷ more);
  roots = λ a more. q.roots a.first (c.hash_tree_root a.rest ∷ more);
  deserialize = λ next. q.deserialize (λ f. deserialize_next c (λ a. next (f a)));
}

-- one more field, which has no part and this value
infixl 10 ◌▹◌≔◌
abbrev pub ◌▹◌≔◌ : {S A B : Type 0} → Fields S (A → B) → (S → A) → A → Fields S B
q ▹ get ≔ x = record {
  Values = q.Values ⊗ _;
  make = λ a. q.make a.first a.rest;
  values = λ s. pair (q.values s) (get s);
  Within = λ a. q.Within a.first × (a.rest ≡ x);
  layout = q.layout;
  parts = λ a. q.parts a.first;
  roots = λ a. q.roots a.first;
  deserialize = λ next. q.deserialize (λ f. next (f x));
}

abbrev pub and_fixed : ℕ → Field → Field
and_fixed n (Fixed m) = Fixed (n + m)
and_fixed n Variable = Variable

-- a container is of fixed size where all its fields are
abbrev pub field_of : List Field → Field
field_of [] = Fixed 0
field_of (Fixed n ∷ fs) = and_fixed n (field_of fs)
field_of (Variable ∷ fs) = Variable

-- no part is left
abbrev pub all_read : {S : Type 0} → S → List (List ℕ) → Option S
all_read s [] = Some s
all_read s (part ∷ parts) = None

-- how all fields stand in the fixed part, and the parts and roots of all fields of a container
abbrev pub layout_of : {S B : Type 0} → Fields S B → List Field
layout_of q = q.layout []

abbrev pub parts_of : {S B : Type 0} → Fields S B → S → List (List ℕ)
parts_of q s = q.parts (q.values s) []

abbrev pub roots_of : {S B : Type 0} → Fields S B → S → List (List ℕ)
roots_of q s = q.roots (q.values s) []

-- The container of the fields. Its root is that of the fields' roots, in the tree over as many leaves as it has fields.
abbrev pub container_of : {S : Type 0} → Fields S S → Codec S
container_of q = record {
  field = field_of (layout_of q);
  basic = false;
  Within = λ s. q.Within (q.values s) × OffsetsFit (layout_of q) (parts_of q s) (fixed_length (layout_of q));
  serialize = λ s. joined (layout_of q) (parts_of q s);
  deserialize = λ bytes. cut (layout_of q) bytes and_then λ parts. q.deserialize all_read parts;
  hash_tree_root = λ s. merkleize (roots_of q s) (length (layout_of q));
}
