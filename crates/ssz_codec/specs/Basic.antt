-- Basic types and vectors of bytes and bits (simple-serialize.md, "Basic types", "uintN", "boolean", "Bitvector[N]").
use Rattle.std.specs.Prelude.{◌≡◌, ℕ, zero, suc, ◌+◌, ◌-◌, ◌/◌, ◌%◌, ◌<◌, ◌^◌, Bool, true, false, List, [], ◌∷◌, ◌++◌, length, Option, Some, None, nat_lt, ◌==◌, if◌then◌else◌}
use Rattle.hash_tree.specs.Merkle.{merkleize, padded_chunk, chunk_count, bit_chunk_count, byte_chunks, uint_to_bytes, bytes_to_uint64, bool_bytes, bits_bytes}
use Rattle.ssz_codec.specs.declared.layout.Field.TheVariants.{Fixed}
use Rattle.ssz_codec.specs.Layout.{◌and_then◌}
use Rattle.ssz_codec.specs.Codec.{Codec}
use Rattle.ssz_codec.specs.Lawful.{IsBytes}

-- uint64
abbrev pub uint64 : Codec ℕ
uint64 = record {
  field = Fixed 8;
  basic = true;
  Within = λ n. n < 2 ^ 64;
  serialize = uint_to_bytes;
  deserialize = λ bytes. if length bytes == 8 then Some (bytes_to_uint64 bytes) else None;
  hash_tree_root = λ n. padded_chunk (uint_to_bytes n);
}

abbrev pub parse_bool : List ℕ → Option Bool
parse_bool [] = None
parse_bool (zero ∷ []) = Some false
parse_bool (suc zero ∷ []) = Some true
parse_bool (suc (suc n) ∷ []) = None
parse_bool (n ∷ m ∷ bytes) = None

-- boolean
abbrev pub boolean : Codec Bool
boolean = record {
  field = Fixed 1;
  basic = true;
  Within = λ b. Unit {0};
  serialize = bool_bytes;
  deserialize = parse_bool;
  hash_tree_root = λ b. padded_chunk (bool_bytes b);
}

-- BytesN, a vector of N bytes, which is its own writing
abbrev pub bytes_codec : ℕ → Codec (List ℕ)
bytes_codec n = record {
  field = Fixed n;
  basic = false;
  Within = λ v. (length v ≡ n) × IsBytes v;
  serialize = λ v. v;
  deserialize = λ bytes. if length bytes == n then Some bytes else None;
  hash_tree_root = λ v. merkleize (byte_chunks v) (chunk_count n);
}

abbrev pub bytes4 : Codec (List ℕ)
bytes4 = bytes_codec 4

-- Bytes32 fills one chunk, which is its own root
abbrev pub bytes32 : Codec (List ℕ)
bytes32 = record (bytes_codec 32) { hash_tree_root = λ chunk. chunk }

abbrev pub bytes48 : Codec (List ℕ)
bytes48 = bytes_codec 48

abbrev pub bytes96 : Codec (List ℕ)
bytes96 = bytes_codec 96

-- so many binary digits of a number, the lowest first
abbrev pub number_bits : ℕ → ℕ → List Bool
number_bits zero n = []
number_bits (suc k) n = (n % 2 == 1) ∷ number_bits k (n / 2)

-- how many of so many bits stand in the first byte
abbrev pub first_bits : ℕ → ℕ
first_bits count = if nat_lt count 8 then count else 8

-- so many bits of the bytes: eight of each, and of the last those that are left, whose spare bits are 0
abbrev pub parse_bits : ℕ → List ℕ → Option (List Bool)
parse_bits count [] = if count == 0 then Some [] else None
parse_bits count (n ∷ bytes) =
    if count == 0 then None
    else (if nat_lt n (2 ^ first_bits count) then (parse_bits (count - 8) bytes and_then λ bits. Some (number_bits (first_bits count) n ++ bits)) else None)

-- Bitvector[N]
abbrev pub bitvector : ℕ → Codec (List Bool)
bitvector count = record {
  field = Fixed ((count + 7) / 8);
  basic = false;
  Within = λ bits. length bits ≡ count;
  serialize = bits_bytes;
  deserialize = parse_bits count;
  hash_tree_root = λ bits. merkleize (byte_chunks (bits_bytes bits)) (bit_chunk_count count);
}
