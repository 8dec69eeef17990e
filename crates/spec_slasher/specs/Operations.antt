-- The attester slashings that two histories give: for each offence, in order of validator, the pair of the attestations that its
-- votes name, in the offence's order. An operation that equals an earlier one is left out.
use Rattle.std.specs.Prelude.{◌≡◌, ℕ, Bool, Contains, List, [], ◌∷◌, ◌++◌, map, Option, Some, None, if◌then◌else◌}
use Rattle.std.specs.List.{filter_map, list_any}
use Rattle.beacon_types.specs.declared.indexed_attestation.IndexedAttestation.{IndexedAttestation}
use Rattle.beacon_types.specs.declared.attestation.Attestation.{Attestation}
use Rattle.beacon_types.specs.declared.attester_slashing.AttesterSlashing.{AttesterSlashing}
use Rattle.spec_state.specs.declared.plain.PlainState.{PlainState}
use Rattle.spec_fork_choice.specs.SameBlock.{same_attester_slashing}
use Rattle.spec_forensics.specs.declared.offence.Offence.{Offence}
use Rattle.spec_forensics.specs.Histories.{AcceptedBlock}
use Rattle.spec_forensics.specs.Verdict.{offences_of}
use Rattle.spec_slasher.specs.GetIndexedAttestation.{get_indexed_attestation}
use Rattle.spec_slasher.specs.AttestationOf.{attestation_of}

-- the operation of two attestations, where both are there
unfoldable pub pair_of : Option IndexedAttestation → Option IndexedAttestation → Option AttesterSlashing
pair_of (Some first) (Some second) = Some (record { attestation_1 = first; attestation_2 = second })
pair_of (Some first) None = None
pair_of None second = None

-- the operation of an offence: the attestation that its first vote names, and then that of its second
unfoldable pub operation_of : PlainState → List AcceptedBlock → List AcceptedBlock → Offence → Option AttesterSlashing
operation_of genesis first second offence = pair_of (attestation_of genesis first second offence.first) (attestation_of genesis first second offence.second)

-- whether an operation equals one of a list
unfoldable pub is_listed : List AttesterSlashing → AttesterSlashing → Bool
is_listed operations operation = list_any (λ other. same_attester_slashing other operation) operations

-- the operations of a list that equal neither an earlier one of it nor one of those before
unfoldable pub each_once : List AttesterSlashing → List AttesterSlashing → List AttesterSlashing
each_once before [] = []
each_once before (operation ∷ later) =
    if is_listed before operation then each_once before later else operation ∷ each_once (before ++ operation ∷ []) later

-- the operations of all offences, each once
unfoldable pub operations : PlainState → List AcceptedBlock → List AcceptedBlock → List AttesterSlashing
operations genesis first second = each_once [] (filter_map (operation_of genesis first second) (offences_of genesis first second))

-- an attestation is one that an accepted block carries, with all its attesters in the state behind the block
pub record IsCarriedIn (blocks : List AcceptedBlock) (indexed : IndexedAttestation) : Type 0 where
  pub accepted : AcceptedBlock
  pub is_accepted : Contains blocks accepted
  pub attestation : Attestation
  pub is_carried : Contains accepted.block.body.attestations attestation
  pub is : indexed ≡ get_indexed_attestation accepted.state attestation

-- both attestations of an operation are
pub record AreCarriedIn (blocks : List AcceptedBlock) (operation : AttesterSlashing) : Type 0 where
  pub first : IsCarriedIn blocks operation.attestation_1
  pub second : IsCarriedIn blocks operation.attestation_2

-- an offence has an operation, which is one of those of all offences
pub record HasOperation (genesis : PlainState) (first second : List AcceptedBlock) (offence : Offence) : Type 0 where
  pub operation : AttesterSlashing
  pub is : operation_of genesis first second offence ≡ Some operation
  pub listed : Contains (operations genesis first second) operation

-- the validators that have an offence
unfoldable pub offenders : PlainState → List AcceptedBlock → List AcceptedBlock → List ℕ
offenders genesis first second = map (λ offence. offence.validator) (offences_of genesis first second)

-- a validator's index stands in both attestations of an operation
pub record IsCommon (operation : AttesterSlashing) (index : ℕ) : Type 0 where
  pub first : Contains operation.attestation_1.attesting_indices index
  pub second : Contains operation.attestation_2.attesting_indices index

-- and that operation is one of a list
pub record IsNamed (operations : List AttesterSlashing) (index : ℕ) : Type 0 where
  pub operation : AttesterSlashing
  pub listed : Contains operations operation
  pub common : IsCommon operation index
