-- A digest is 32 bytes, and so are zeros.
use Rattle.std.proofs.Common.{◌≡◌, ℕ, zero, suc, ◌/◌, ◌^◌, ◌<◌, List, [], ◌∷◌, ◌++◌, length, replicate, slice_index, refl, arith}
use Rattle.std.specs.Int.{w32, byte_at, bytes_high_first, to_be_bytes}
use Rattle.std.proofs.Math.Nat.{mod-lt}
use Rattle.sha2.specs.Sha256.{sha256, digest_bytes}
use Rattle.sha2.proofs.Facts256.{length-sha256}
use Rattle.hash_tree.specs.Merkle.{hash, zero_root}
use Rattle.ssz_codec.specs.Basic.{bytes32}
use Rattle.ssz_codec.specs.Lawful.{IsBytes}
use Rattle.ssz_codec.specs.laws.Layout.{IsBytes-append}

pub byte_low : (i n : ℕ) → byte_at i n < 256
byte_low zero n = mod-lt n (omega arith)
byte_low (suc i) n = mod-lt (n / 256 ^ suc i) (omega arith)

high_fits : (k n : ℕ) → IsBytes (bytes_high_first k n)
high_fits zero n i = omega arith
high_fits (suc k) n zero = byte_low k n
high_fits (suc k) n (suc i) = high_fits k n i

digest_fits : (h : List ℕ) (n : ℕ) → IsBytes (digest_bytes h n)
unfolding digest_bytes
digest_fits h zero i = omega arith
digest_fits h (suc n) i = IsBytes-append (digest_bytes h n) (to_be_bytes w32 (slice_index h n)) (digest_fits h n) (high_fits 4 (slice_index h n)) i

pub hash_fits : (m : List ℕ) → IsBytes (hash m)
unfolding hash sha256
hash_fits m = digest_fits _ 8

hash_long : (m : List ℕ) → length (hash m) ≡ 32
unfolding hash
hash_long m = length-sha256 m

pub hash_within : (m : List ℕ) → bytes32.Within (hash m)
hash_within m = (hash_long m, hash_fits m)

-- one byte again and again
pub replicate_fits : (n b : ℕ) → b < 256 → IsBytes (replicate n b)
replicate_fits zero b low i = omega arith
replicate_fits (suc n) b low zero = low
replicate_fits (suc n) b low (suc i) = replicate_fits n b low i

pub zero_root_within : bytes32.Within zero_root
zero_root_within = (refl, replicate_fits 32 0 (omega arith))
