-- The seed is the hash of the domain, the epoch and the mix before it.
use Rattle.std.proofs.Common.{rules}
use Rattle.hash_tree.specs.Merkle.{hash, uint_to_bytes}
use Rattle.committees.specs.Seeds.{seed_from}
use Rattle.committees.proofs.seed.seed_of.Goals as goal

pub returns : goal.returns
unfolding seed_from hash uint_to_bytes
returns g c = search rules
