-- Vectors and lists (simple-serialize.md, "Vectors, containers, lists").
use Rattle.std.specs.Prelude.{◌≡◌, ℕ, zero, suc, false, ◌*◌, ◌/◌, ◌≤◌, List, [], ◌∷◌, length, take, drop, map, replicate, Option, Some, None, nat_lt, ◌==◌, if◌then◌else◌}
use Rattle.std.specs.List.{flat_map, AllByRecursion}
use Rattle.hash_tree.specs.Merkle.{merkleize, mix_in_length, chunk_count, byte_chunks}
use Rattle.ssz_codec.specs.declared.layout.Field.{Field}
use Rattle.ssz_codec.specs.declared.layout.Field.TheVariants.{Fixed, Variable}
use Rattle.ssz_codec.specs.Layout.{◌and_then◌, field_length, offset_of, joined, OffsetsFit, cut}
use Rattle.ssz_codec.specs.Codec.{Codec}

-- so many values of the size, one after another, and nothing behind them
unfoldable pub parse_items : {A : Type 0} → (List ℕ → Option A) → ℕ → ℕ → List ℕ → Option (List A)
parse_items parse size zero bytes = if length bytes == 0 then Some [] else None
parse_items parse size (suc count) bytes =
    if nat_lt (length bytes) size then None
    else (parse (take size bytes) and_then λ x. parse_items parse size count (drop size bytes) and_then λ xs. Some (x ∷ xs))

-- one value of each part
unfoldable pub parse_parts : {A : Type 0} → (List ℕ → Option A) → List (List ℕ) → Option (List A)
parse_parts parse [] = Some []
parse_parts parse (part ∷ parts) = parse part and_then λ x. parse_parts parse parts and_then λ xs. Some (x ∷ xs)

-- chunk_count: the leaves of the tree over so many values. Basic values are packed, others have a leaf each.
abbrev pub leaf_count : {A : Type 0} → Codec A → ℕ → ℕ
leaf_count c n = if c.basic then chunk_count (field_length c.field * n) else n

-- the leaves of these values: packed, or their roots
abbrev pub leaves : {A : Type 0} → Codec A → List A → List (List ℕ)
leaves c xs = if c.basic then byte_chunks (flat_map c.serialize xs) else map c.hash_tree_root xs

-- Vector[T, N] of values of fixed size
abbrev pub vector_codec : {A : Type 0} → Codec A → ℕ → Codec (List A)
vector_codec c count = record {
  field = Fixed (count * field_length c.field);
  basic = false;
  Within = λ xs. (length xs ≡ count) × AllByRecursion c.Within xs;
  serialize = λ xs. flat_map c.serialize xs;
  deserialize = parse_items c.deserialize (field_length c.field) count;
  hash_tree_root = λ xs. merkleize (leaves c xs) (leaf_count c count);
}

-- as many values as fill the bytes, up to the limit
unfoldable pub parse_list : {A : Type 0} → (List ℕ → Option A) → ℕ → ℕ → List ℕ → Option (List A)
parse_list parse size limit bytes =
    if nat_lt limit (length bytes / size) then None else parse_items parse size (length bytes / size) bytes

-- a list of values of fixed size, one after another
abbrev pub fixed_size_list : {A : Type 0} → Codec A → ℕ → Codec (List A)
fixed_size_list c limit = record {
  field = Variable;
  basic = false;
  Within = λ xs. (length xs ≤ limit) × AllByRecursion c.Within xs;
  serialize = λ xs. flat_map c.serialize xs;
  deserialize = parse_list c.deserialize (field_length c.field) limit;
  hash_tree_root = λ xs. mix_in_length (merkleize (leaves c xs) (leaf_count c limit)) (length xs);
}

-- a list of variable parts: the first offset says how many there are
unfoldable pub parse_variable_list : {A : Type 0} → (List ℕ → Option A) → ℕ → List ℕ → Option (List A)
parse_variable_list parse limit bytes =
    let count = offset_of (take 4 bytes) / 4 in
    if length bytes == 0 then Some []
    else (if nat_lt limit count then None else (cut (replicate count Variable) bytes and_then λ parts. parse_parts parse parts))

-- a list of values of variable size, each at its offset. They are never basic: each is a leaf
abbrev pub variable_size_list : {A : Type 0} → Codec A → ℕ → Codec (List A)
variable_size_list c limit = record {
  field = Variable;
  basic = false;
  Within = λ xs. (length xs ≤ limit) × AllByRecursion c.Within xs × OffsetsFit (replicate (length xs) Variable) (map c.serialize xs) (4 * length xs);
  serialize = λ xs. joined (replicate (length xs) Variable) (map c.serialize xs);
  deserialize = parse_variable_list c.deserialize limit;
  hash_tree_root = λ xs. mix_in_length (merkleize (map c.hash_tree_root xs) limit) (length xs);
}

-- List[T, N]: whether its values have offsets follows from their type
abbrev pub list_by_field : {A : Type 0} → Field → Codec A → ℕ → Codec (List A)
list_by_field (Fixed size) c limit = fixed_size_list c limit
list_by_field Variable c limit = variable_size_list c limit

abbrev pub list_codec : {A : Type 0} → Codec A → ℕ → Codec (List A)
list_codec c limit = list_by_field c.field c limit
