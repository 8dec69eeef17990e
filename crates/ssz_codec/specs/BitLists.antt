-- Lists of bits (simple-serialize.md, "Bitlist[N]").
use Rattle.std.specs.Prelude.{ℕ, zero, suc, ◌/◌, ◌%◌, ◌≤◌, Bool, true, false, List, [], ◌∷◌, ◌++◌, length, Option, Some, None, nat_lt, ◌==◌, if◌then◌else◌}
use Rattle.hash_tree.specs.Merkle.{merkleize, mix_in_length, bit_chunk_count, byte_chunks, bits_bytes}
use Rattle.ssz_codec.specs.declared.layout.Field.TheVariants.{Variable}
use Rattle.ssz_codec.specs.Layout.{◌and_then◌}
use Rattle.ssz_codec.specs.Codec.{Codec}
use Rattle.ssz_codec.specs.Basic.{number_bits}

-- serialize: a bit 1 stands behind the last bit
unfoldable pub bit_list_bytes : List Bool → List ℕ
bit_list_bytes bits = bits_bytes (bits ++ true ∷ [])

-- deserialize: the bits of a last byte, below its highest 1
unfoldable pub bits_below_top : ℕ → ℕ → Option (List Bool)
bits_below_top zero n = None
bits_below_top (suc places) n =
    if n == 0 then None
    else (if n == 1 then Some [] else (bits_below_top places (n / 2) and_then λ bits. Some ((n % 2 == 1) ∷ bits)))

-- the bits of all bytes
unfoldable pub bits_before_end : List ℕ → Option (List Bool)
bits_before_end [] = None
bits_before_end (n ∷ []) = bits_below_top 8 n
bits_before_end (n ∷ m ∷ bytes) = bits_before_end (m ∷ bytes) and_then λ bits. Some (number_bits 8 n ++ bits)

-- as many as the limit allows
unfoldable pub parse_bit_list : ℕ → List ℕ → Option (List Bool)
parse_bit_list limit bytes = bits_before_end bytes and_then λ bits. if nat_lt limit (length bits) then None else Some bits

-- Bitlist[N]. The root is that of the bits alone in chunks, with their number mixed in.
abbrev pub bitlist : ℕ → Codec (List Bool)
bitlist limit = record {
  field = Variable;
  basic = false;
  Within = λ bits. length bits ≤ limit;
  serialize = bit_list_bytes;
  deserialize = parse_bit_list limit;
  hash_tree_root = λ bits. mix_in_length (merkleize (byte_chunks (bits_bytes bits)) (bit_chunk_count limit)) (length bits);
}
