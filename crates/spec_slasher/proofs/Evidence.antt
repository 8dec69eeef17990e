-- Both attestations of an operation are carried.
use Rattle.std.proofs.Common.{List, ◌++◌, refl, sym, subst}
use Rattle.std.specs.List.{All}
use Rattle.beacon_types.specs.declared.attester_slashing.AttesterSlashing.{AttesterSlashing}
use Rattle.ffg_law.specs.Links.{IsOneOf}
use Rattle.spec_state.specs.declared.plain.PlainState.{PlainState}
use Rattle.spec_forensics.specs.Histories.{AcceptedBlock}
use Rattle.spec_slasher.specs.AttestationOf.{CarriedAttestation, all_attestations, indexed}
use Rattle.spec_slasher.specs.Operations.{operations, IsCarriedIn, AreCarriedIn}
use Rattle.spec_slasher.proofs.Lists.{contained, all_are}
use Rattle.spec_slasher.proofs.Operations.{operation_is}
use Rattle.spec_slasher.proofs.Stands.{stands}

carried_in : (first second : List AcceptedBlock) (c : CarriedAttestation) → IsOneOf c (all_attestations first second) → IsCarriedIn (first ++ second) (indexed c)
unfolding indexed
carried_in first second c h =
    let s = stands first second c h in
    record { accepted = c.accepted; is_accepted = contained (first ++ second) c.accepted s.accepted; attestation = c.attestation; is_carried = contained c.accepted.block.body.attestations c.attestation s.carried; is = refl }

operation_carried : (genesis : PlainState) (first second : List AcceptedBlock) (operation : AttesterSlashing) → IsOneOf operation (operations genesis first second) → AreCarriedIn (first ++ second) operation
operation_carried genesis first second operation h =
    let w = (operation_is genesis first second operation h).what in
    subst (AreCarriedIn (first ++ second)) (sym w.is) (record { first = carried_in first second w.one w.one_listed; second = carried_in first second w.other w.other_listed })

pub all_carried : (genesis : PlainState) (first second : List AcceptedBlock) → All (AreCarriedIn (first ++ second)) (operations genesis first second)
all_carried genesis first second = all_are (AreCarriedIn (first ++ second)) (operations genesis first second) (operation_carried genesis first second)
