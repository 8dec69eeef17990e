-- At most 512 bits stand in the first two chunks.
use Rattle.std.proofs.Common.{◌∙◌, arith}
use Rattle.beacon_types.specs.inside.AttestationChunks.{bits_root}
use Rattle.beacon_types.proofs.AttestationLanes.{root_of_bits}
use Rattle.beacon_types.proofs.attestation_roots.root_of_bits.Goals as goal

pub returns-then-len-le512 : goal.returns-then-len-le512
returns-then-len-le512 c = c.requires ∙ root_of_bits c.args.attestation.now (omega arith)

pub returns-else-len-le512 : goal.returns-else-len-le512
unfolding bits_root
returns-else-len-le512 c = c.root.ensures
