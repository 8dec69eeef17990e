-- A signature has 96 bytes.
use Rattle.std.proofs.Common.{arith}
use Rattle.beacon_types.proofs.AttestationLanes.{root_of_signature}
use Rattle.beacon_types.proofs.attestation_roots.is_root_of_signature.Goals as goal

pub returns : goal.returns
returns c = root_of_signature c.args.attestation.now (omega arith)
