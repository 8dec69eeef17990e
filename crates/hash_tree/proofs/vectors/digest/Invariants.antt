-- The bytes written so far are those of the words before.
use Rattle.std.proofs.Common.{◌≡◌, ◌*◌, length, take}
use Rattle.sha2.specs.Sha256.{digest_bytes}
use Rattle.hash_tree.proofs.vectors.digest.Given as goal

abbrev pub invariant-words : goal.invariant-words
invariant-words l = record { room : length l.bytes ≡ 32; so_far : take (4 * l.i) l.bytes ≡ digest_bytes l.h l.i }
