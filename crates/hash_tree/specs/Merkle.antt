-- Merkle trees over chunks of 32 bytes (simple-serialize.md, "Merkleization"). A chunk and a root are lists of
-- 32 bytes, and a byte is a number below 256.
use Rattle.std.specs.Prelude.{ℕ, zero, suc, ◌+◌, ◌-◌, ◌*◌, ◌/◌, ◌^◌, Bool, cond, List, [], ◌∷◌, ◌++◌, length, take, drop, replicate, nat_lt, if◌then◌else◌}
use Rattle.std.specs.List.{flat_map}
use Rattle.std.specs.Int.{w64, to_le_bytes, from_le_bytes}
use Rattle.sha2.specs.Sha256.{sha256}

-- hash of beacon-chain.md, "Crypto": SHA-256 of the bytes
unfoldable pub hash : List ℕ → List ℕ
hash bytes = sha256 bytes

-- 32 zero bytes: a chunk without a byte of its own, and the root that stands where there is none (Bytes32(), Root())
abbrev pub zero_root : List ℕ
zero_root = replicate 32 0

-- the root of the chunks in a tree of this depth, that is with 2 ^ depth leaves, where a leaf that no chunk fills is
-- the zero chunk
unfoldable pub merkle_root : ℕ → List (List ℕ) → List ℕ
merkle_root zero [] = zero_root
merkle_root zero (chunk ∷ chunks) = chunk
merkle_root (suc depth) chunks =
    hash (merkle_root depth (take (2 ^ depth) chunks) ++ merkle_root depth (drop (2 ^ depth) chunks))

-- the least depth from d on whose tree has that many leaves, within so many steps
unfoldable pub depth_from : ℕ → ℕ → ℕ → ℕ
depth_from zero d leaves = d
depth_from (suc steps) d leaves = if nat_lt (2 ^ d) leaves then depth_from steps (d + 1) leaves else d

-- the depth of the tree whose number of leaves is the next power of two of the limit, for limits up to 2 ^ 40
unfoldable pub depth_of : ℕ → ℕ
depth_of limit = depth_from 40 0 limit

-- merkleize(chunks, limit): the root of at most so many chunks
unfoldable pub merkleize : List (List ℕ) → ℕ → List ℕ
merkleize chunks limit = merkle_root (depth_of limit) chunks

-- the bytes of one chunk, filled up with zeros
unfoldable pub padded_chunk : List ℕ → List ℕ
padded_chunk bytes = bytes ++ replicate (32 - length bytes) 0

-- pack: the bytes cut into that many chunks, where the bytes that are missing are zeros
unfoldable pub chunks_of : ℕ → List ℕ → List (List ℕ)
chunks_of zero bytes = []
chunks_of (suc count) bytes = padded_chunk (take 32 bytes) ∷ chunks_of count (drop 32 bytes)

-- uint_to_bytes of a uint64: its eight bytes, low byte first
unfoldable pub uint_to_bytes : ℕ → List ℕ
uint_to_bytes n = to_le_bytes w64 n

-- bytes_to_uint64: the number that eight bytes write, low byte first
abbrev pub bytes_to_uint64 : List ℕ → ℕ
bytes_to_uint64 bytes = from_le_bytes w64 bytes

-- the bytes of numbers of 64 bits, one after another
unfoldable pub uints_to_bytes : List ℕ → List ℕ
uints_to_bytes numbers = flat_map uint_to_bytes numbers

-- chunk_count: how many chunks so many bytes need
abbrev pub chunk_count : ℕ → ℕ
chunk_count bytes = (bytes + 31) / 32

-- and how many so many bits need (chunk_count of Bitlist and Bitvector)
abbrev pub bit_chunk_count : ℕ → ℕ
bit_chunk_count bits = (bits + 255) / 256

-- pack, for as many chunks as the bytes need
abbrev pub byte_chunks : List ℕ → List (List ℕ)
byte_chunks bytes = chunks_of (chunk_count (length bytes)) bytes

-- the number whose binary digits these are, the lowest first
abbrev pub bits_number : List Bool → ℕ
bits_number [] = 0
bits_number (b ∷ bs) = cond b 1 0 + 2 * bits_number bs

-- so many bytes of bits: eight to a byte, the first in its lowest place, and 0 for bits that are missing
unfoldable pub packed_bits : ℕ → List Bool → List ℕ
packed_bits zero bits = []
packed_bits (suc count) bits = bits_number (take 8 bits) ∷ packed_bits count (drop 8 bits)

-- the bytes of pack_bits: as few as hold the bits
abbrev pub bits_bytes : List Bool → List ℕ
bits_bytes bits = packed_bits ((length bits + 7) / 8) bits

-- a boolean in one byte
abbrev pub bool_bytes : Bool → List ℕ
bool_bytes b = cond b 1 0 ∷ []

-- pack of numbers of 64 bits, four to a chunk
abbrev pub u64_chunks : List ℕ → List (List ℕ)
u64_chunks numbers = byte_chunks (uints_to_bytes numbers)

-- a length as 32 bytes, low byte first
unfoldable pub length_chunk : ℕ → List ℕ
length_chunk n = uint_to_bytes n ++ replicate 24 0

-- mix_in_length
unfoldable pub mix_in_length : List ℕ → ℕ → List ℕ
mix_in_length root n = hash (root ++ length_chunk n)
