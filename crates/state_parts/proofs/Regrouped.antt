-- Reading a state is reading its groups.
use Rattle.std.proofs.Common.{◌≡◌, ℕ, Bool, List, [], ◌∷◌, length, take, drop, Option, Some, None, refl, arith}
use Rattle.ssz_codec.specs.Layout.{◌and_then◌}
use Rattle.ssz_codec.specs.Containers.{all_read}
use Rattle.ssz_codec.specs.Basic.{uint64, bytes32, bitvector}
use Rattle.ssz_codec.specs.Lists.{vector_codec, list_codec}
use Rattle.bc_preset.specs.declared.presets.Preset.{Preset}
use Rattle.beacon_types.specs.Containers.{fork_codec, checkpoint_codec, validator_codec, eth1_data_codec, block_header_codec, pending_attestation_codec}
use Rattle.beacon_types.specs.declared.fork.Fork.{Fork}
use Rattle.beacon_types.specs.declared.checkpoint.Checkpoint.{Checkpoint}
use Rattle.beacon_types.specs.declared.validator.Validator.{Validator}
use Rattle.beacon_types.specs.declared.eth1_data.Eth1Data.{Eth1Data}
use Rattle.beacon_types.specs.declared.block_header.BeaconBlockHeader.{BeaconBlockHeader}
use Rattle.beacon_types.specs.declared.pending_attestation.PendingAttestation.{PendingAttestation}
use Rattle.spec_state.specs.declared.plain.PlainState.{PlainState}
use Rattle.spec_state.specs.States.{votes_limit, attestations_limit, state_fields}
use Rattle.state_parts.specs.inside.Groups.{clock_fields, history_fields, eth1_fields, registry_fields, pending_fields, finality_fields, state_of, read_groups}
use Rattle.state_parts.specs.declared.parts.Clock.{Clock}
use Rattle.state_parts.specs.declared.parts.History.{History}
use Rattle.state_parts.specs.declared.parts.Eth1.{Eth1}
use Rattle.state_parts.specs.declared.parts.Registry.{Registry}
use Rattle.state_parts.specs.declared.parts.Pending.{Pending}
use Rattle.state_parts.specs.declared.parts.Finality.{Finality}

abbrev some_clock : Option (ℕ) → Option (List ℕ) → Option (ℕ) → Option (Fork) → Option (BeaconBlockHeader) → Option Clock
some_clock o0 o1 o2 o3 o4 = o0 and_then λ x0. o1 and_then λ x1. o2 and_then λ x2. o3 and_then λ x3. o4 and_then λ x4. Some (record { genesis_time = x0; genesis_validators_root = x1; slot = x2; fork = x3; latest_block_header = x4 })

abbrev some_history : Option (List (List ℕ)) → Option (List (List ℕ)) → Option (List (List ℕ)) → Option History
some_history o5 o6 o7 = o5 and_then λ x5. o6 and_then λ x6. o7 and_then λ x7. Some (record { block_roots = x5; state_roots = x6; historical_roots = x7 })

abbrev some_eth1 : Option (Eth1Data) → Option (List Eth1Data) → Option (ℕ) → Option Eth1
some_eth1 o8 o9 o10 = o8 and_then λ x8. o9 and_then λ x9. o10 and_then λ x10. Some (record { eth1_data = x8; eth1_data_votes = x9; eth1_deposit_index = x10 })

abbrev some_registry : Option (List Validator) → Option (List ℕ) → Option (List (List ℕ)) → Option (List ℕ) → Option Registry
some_registry o11 o12 o13 o14 = o11 and_then λ x11. o12 and_then λ x12. o13 and_then λ x13. o14 and_then λ x14. Some (record { validators = x11; balances = x12; randao_mixes = x13; slashings = x14 })

abbrev some_pending : Option (List PendingAttestation) → Option (List PendingAttestation) → Option Pending
some_pending o15 o16 = o15 and_then λ x15. o16 and_then λ x16. Some (record { previous_epoch_attestations = x15; current_epoch_attestations = x16 })

abbrev some_finality : Option (List Bool) → Option (Checkpoint) → Option (Checkpoint) → Option (Checkpoint) → Option Finality
some_finality o17 o18 o19 o20 = o17 and_then λ x17. o18 and_then λ x18. o19 and_then λ x19. o20 and_then λ x20. Some (record { justification_bits = x17; previous_justified_checkpoint = x18; current_justified_checkpoint = x19; finalized_checkpoint = x20 })

abbrev flat : Preset → Option (ℕ) → Option (List ℕ) → Option (ℕ) → Option (Fork) → Option (BeaconBlockHeader) → Option (List (List ℕ)) → Option (List (List ℕ)) → Option (List (List ℕ)) → Option (Eth1Data) → Option (List Eth1Data) → Option (ℕ) → Option (List Validator) → Option (List ℕ) → Option (List (List ℕ)) → Option (List ℕ) → Option (List PendingAttestation) → Option (List PendingAttestation) → Option (List Bool) → Option (Checkpoint) → Option (Checkpoint) → Option (Checkpoint) → Option PlainState
flat p o0 o1 o2 o3 o4 o5 o6 o7 o8 o9 o10 o11 o12 o13 o14 o15 o16 o17 o18 o19 o20 =
    o0 and_then λ x0. o1 and_then λ x1. o2 and_then λ x2. o3 and_then λ x3. o4 and_then λ x4. o5 and_then λ x5. o6 and_then λ x6. o7 and_then λ x7. o8 and_then λ x8. o9 and_then λ x9. o10 and_then λ x10. o11 and_then λ x11. o12 and_then λ x12. o13 and_then λ x13. o14 and_then λ x14. o15 and_then λ x15. o16 and_then λ x16. o17 and_then λ x17. o18 and_then λ x18. o19 and_then λ x19. o20 and_then λ x20. Some (record { preset = p; genesis_time = x0; genesis_validators_root = x1; slot = x2; fork = x3; latest_block_header = x4; block_roots = x5; state_roots = x6; historical_roots = x7; eth1_data = x8; eth1_data_votes = x9; eth1_deposit_index = x10; validators = x11; balances = x12; randao_mixes = x13; slashings = x14; previous_epoch_attestations = x15; current_epoch_attestations = x16; justification_bits = x17; previous_justified_checkpoint = x18; current_justified_checkpoint = x19; finalized_checkpoint = x20 })

abbrev grouped : Preset → Option (ℕ) → Option (List ℕ) → Option (ℕ) → Option (Fork) → Option (BeaconBlockHeader) → Option (List (List ℕ)) → Option (List (List ℕ)) → Option (List (List ℕ)) → Option (Eth1Data) → Option (List Eth1Data) → Option (ℕ) → Option (List Validator) → Option (List ℕ) → Option (List (List ℕ)) → Option (List ℕ) → Option (List PendingAttestation) → Option (List PendingAttestation) → Option (List Bool) → Option (Checkpoint) → Option (Checkpoint) → Option (Checkpoint) → Option PlainState
grouped p o0 o1 o2 o3 o4 o5 o6 o7 o8 o9 o10 o11 o12 o13 o14 o15 o16 o17 o18 o19 o20 =
    some_clock o0 o1 o2 o3 o4 and_then λ clock. some_history o5 o6 o7 and_then λ history. some_eth1 o8 o9 o10 and_then λ eth1. some_registry o11 o12 o13 o14 and_then λ registry. some_pending o15 o16 and_then λ pending. some_finality o17 o18 o19 o20 and_then λ finality. Some (state_of p clock history eth1 registry pending finality)

regroup : (p : Preset) (o0 : Option (ℕ)) (o1 : Option (List ℕ)) (o2 : Option (ℕ)) (o3 : Option (Fork)) (o4 : Option (BeaconBlockHeader)) (o5 : Option (List (List ℕ))) (o6 : Option (List (List ℕ))) (o7 : Option (List (List ℕ))) (o8 : Option (Eth1Data)) (o9 : Option (List Eth1Data)) (o10 : Option (ℕ)) (o11 : Option (List Validator)) (o12 : Option (List ℕ)) (o13 : Option (List (List ℕ))) (o14 : Option (List ℕ)) (o15 : Option (List PendingAttestation)) (o16 : Option (List PendingAttestation)) (o17 : Option (List Bool)) (o18 : Option (Checkpoint)) (o19 : Option (Checkpoint)) (o20 : Option (Checkpoint)) → flat p o0 o1 o2 o3 o4 o5 o6 o7 o8 o9 o10 o11 o12 o13 o14 o15 o16 o17 o18 o19 o20 ≡ grouped p o0 o1 o2 o3 o4 o5 o6 o7 o8 o9 o10 o11 o12 o13 o14 o15 o16 o17 o18 o19 o20
regroup p None o1 o2 o3 o4 o5 o6 o7 o8 o9 o10 o11 o12 o13 o14 o15 o16 o17 o18 o19 o20 = refl
regroup p (Some x0) None o2 o3 o4 o5 o6 o7 o8 o9 o10 o11 o12 o13 o14 o15 o16 o17 o18 o19 o20 = refl
regroup p (Some x0) (Some x1) None o3 o4 o5 o6 o7 o8 o9 o10 o11 o12 o13 o14 o15 o16 o17 o18 o19 o20 = refl
regroup p (Some x0) (Some x1) (Some x2) None o4 o5 o6 o7 o8 o9 o10 o11 o12 o13 o14 o15 o16 o17 o18 o19 o20 = refl
regroup p (Some x0) (Some x1) (Some x2) (Some x3) None o5 o6 o7 o8 o9 o10 o11 o12 o13 o14 o15 o16 o17 o18 o19 o20 = refl
regroup p (Some x0) (Some x1) (Some x2) (Some x3) (Some x4) None o6 o7 o8 o9 o10 o11 o12 o13 o14 o15 o16 o17 o18 o19 o20 = refl
regroup p (Some x0) (Some x1) (Some x2) (Some x3) (Some x4) (Some x5) None o7 o8 o9 o10 o11 o12 o13 o14 o15 o16 o17 o18 o19 o20 = refl
regroup p (Some x0) (Some x1) (Some x2) (Some x3) (Some x4) (Some x5) (Some x6) None o8 o9 o10 o11 o12 o13 o14 o15 o16 o17 o18 o19 o20 = refl
regroup p (Some x0) (Some x1) (Some x2) (Some x3) (Some x4) (Some x5) (Some x6) (Some x7) None o9 o10 o11 o12 o13 o14 o15 o16 o17 o18 o19 o20 = refl
regroup p (Some x0) (Some x1) (Some x2) (Some x3) (Some x4) (Some x5) (Some x6) (Some x7) (Some x8) None o10 o11 o12 o13 o14 o15 o16 o17 o18 o19 o20 = refl
regroup p (Some x0) (Some x1) (Some x2) (Some x3) (Some x4) (Some x5) (Some x6) (Some x7) (Some x8) (Some x9) None o11 o12 o13 o14 o15 o16 o17 o18 o19 o20 = refl
regroup p (Some x0) (Some x1) (Some x2) (Some x3) (Some x4) (Some x5) (Some x6) (Some x7) (Some x8) (Some x9) (Some x10) None o12 o13 o14 o15 o16 o17 o18 o19 o20 = refl
regroup p (Some x0) (Some x1) (Some x2) (Some x3) (Some x4) (Some x5) (Some x6) (Some x7) (Some x8) (Some x9) (Some x10) (Some x11) None o13 o14 o15 o16 o17 o18 o19 o20 = refl
regroup p (Some x0) (Some x1) (Some x2) (Some x3) (Some x4) (Some x5) (Some x6) (Some x7) (Some x8) (Some x9) (Some x10) (Some x11) (Some x12) None o14 o15 o16 o17 o18 o19 o20 = refl
regroup p (Some x0) (Some x1) (Some x2) (Some x3) (Some x4) (Some x5) (Some x6) (Some x7) (Some x8) (Some x9) (Some x10) (Some x11) (Some x12) (Some x13) None o15 o16 o17 o18 o19 o20 = refl
regroup p (Some x0) (Some x1) (Some x2) (Some x3) (Some x4) (Some x5) (Some x6) (Some x7) (Some x8) (Some x9) (Some x10) (Some x11) (Some x12) (Some x13) (Some x14) None o16 o17 o18 o19 o20 = refl
regroup p (Some x0) (Some x1) (Some x2) (Some x3) (Some x4) (Some x5) (Some x6) (Some x7) (Some x8) (Some x9) (Some x10) (Some x11) (Some x12) (Some x13) (Some x14) (Some x15) None o17 o18 o19 o20 = refl
regroup p (Some x0) (Some x1) (Some x2) (Some x3) (Some x4) (Some x5) (Some x6) (Some x7) (Some x8) (Some x9) (Some x10) (Some x11) (Some x12) (Some x13) (Some x14) (Some x15) (Some x16) None o18 o19 o20 = refl
regroup p (Some x0) (Some x1) (Some x2) (Some x3) (Some x4) (Some x5) (Some x6) (Some x7) (Some x8) (Some x9) (Some x10) (Some x11) (Some x12) (Some x13) (Some x14) (Some x15) (Some x16) (Some x17) None o19 o20 = refl
regroup p (Some x0) (Some x1) (Some x2) (Some x3) (Some x4) (Some x5) (Some x6) (Some x7) (Some x8) (Some x9) (Some x10) (Some x11) (Some x12) (Some x13) (Some x14) (Some x15) (Some x16) (Some x17) (Some x18) None o20 = refl
regroup p (Some x0) (Some x1) (Some x2) (Some x3) (Some x4) (Some x5) (Some x6) (Some x7) (Some x8) (Some x9) (Some x10) (Some x11) (Some x12) (Some x13) (Some x14) (Some x15) (Some x16) (Some x17) (Some x18) (Some x19) None = refl
regroup p (Some x0) (Some x1) (Some x2) (Some x3) (Some x4) (Some x5) (Some x6) (Some x7) (Some x8) (Some x9) (Some x10) (Some x11) (Some x12) (Some x13) (Some x14) (Some x15) (Some x16) (Some x17) (Some x18) (Some x19) (Some x20) = refl

explicit_groups : (p : Preset) (q0 q1 q2 q3 q4 q5 q6 q7 q8 q9 q10 q11 q12 q13 q14 q15 q16 q17 q18 q19 q20 : List ℕ) → (state_fields p).deserialize all_read (q0 ∷ q1 ∷ q2 ∷ q3 ∷ q4 ∷ q5 ∷ q6 ∷ q7 ∷ q8 ∷ q9 ∷ q10 ∷ q11 ∷ q12 ∷ q13 ∷ q14 ∷ q15 ∷ q16 ∷ q17 ∷ q18 ∷ q19 ∷ q20 ∷ []) ≡ read_groups p (q0 ∷ q1 ∷ q2 ∷ q3 ∷ q4 ∷ []) (q5 ∷ q6 ∷ q7 ∷ []) (q8 ∷ q9 ∷ q10 ∷ []) (q11 ∷ q12 ∷ q13 ∷ q14 ∷ []) (q15 ∷ q16 ∷ []) (q17 ∷ q18 ∷ q19 ∷ q20 ∷ [])
unfolding state_fields read_groups clock_fields history_fields eth1_fields registry_fields pending_fields finality_fields
explicit_groups p q0 q1 q2 q3 q4 q5 q6 q7 q8 q9 q10 q11 q12 q13 q14 q15 q16 q17 q18 q19 q20 = regroup p (uint64.deserialize q0) (bytes32.deserialize q1) (uint64.deserialize q2) (fork_codec.deserialize q3) (block_header_codec.deserialize q4) ((vector_codec bytes32 p.slots_per_historical_root).deserialize q5) ((vector_codec bytes32 p.slots_per_historical_root).deserialize q6) ((list_codec bytes32 p.historical_roots_limit).deserialize q7) (eth1_data_codec.deserialize q8) ((list_codec eth1_data_codec (votes_limit p)).deserialize q9) (uint64.deserialize q10) ((list_codec validator_codec p.validator_registry_limit).deserialize q11) ((list_codec uint64 p.validator_registry_limit).deserialize q12) ((vector_codec bytes32 p.epochs_per_historical_vector).deserialize q13) ((vector_codec uint64 p.epochs_per_slashings_vector).deserialize q14) ((list_codec pending_attestation_codec (attestations_limit p)).deserialize q15) ((list_codec pending_attestation_codec (attestations_limit p)).deserialize q16) ((bitvector 4).deserialize q17) (checkpoint_codec.deserialize q18) (checkpoint_codec.deserialize q19) (checkpoint_codec.deserialize q20)

-- the parts of each group, of 21
pub groups_are_read : (p : Preset) (parts : List (List ℕ)) → length parts ≡ 21 → (state_fields p).deserialize all_read parts ≡ read_groups p (take 5 parts) (take 3 (drop 5 parts)) (take 3 (drop 3 (drop 5 parts)))
    (take 4 (drop 3 (drop 3 (drop 5 parts)))) (take 2 (drop 4 (drop 3 (drop 3 (drop 5 parts))))) (drop 2 (drop 4 (drop 3 (drop 3 (drop 5 parts)))))
groups_are_read p [] e = absurd (omega arith)
groups_are_read p (q0 ∷ []) e = absurd (omega arith)
groups_are_read p (q0 ∷ q1 ∷ []) e = absurd (omega arith)
groups_are_read p (q0 ∷ q1 ∷ q2 ∷ []) e = absurd (omega arith)
groups_are_read p (q0 ∷ q1 ∷ q2 ∷ q3 ∷ []) e = absurd (omega arith)
groups_are_read p (q0 ∷ q1 ∷ q2 ∷ q3 ∷ q4 ∷ []) e = absurd (omega arith)
groups_are_read p (q0 ∷ q1 ∷ q2 ∷ q3 ∷ q4 ∷ q5 ∷ []) e = absurd (omega arith)
groups_are_read p (q0 ∷ q1 ∷ q2 ∷ q3 ∷ q4 ∷ q5 ∷ q6 ∷ []) e = absurd (omega arith)
groups_are_read p (q0 ∷ q1 ∷ q2 ∷ q3 ∷ q4 ∷ q5 ∷ q6 ∷ q7 ∷ []) e = absurd (omega arith)
groups_are_read p (q0 ∷ q1 ∷ q2 ∷ q3 ∷ q4 ∷ q5 ∷ q6 ∷ q7 ∷ q8 ∷ []) e = absurd (omega arith)
groups_are_read p (q0 ∷ q1 ∷ q2 ∷ q3 ∷ q4 ∷ q5 ∷ q6 ∷ q7 ∷ q8 ∷ q9 ∷ []) e = absurd (omega arith)
groups_are_read p (q0 ∷ q1 ∷ q2 ∷ q3 ∷ q4 ∷ q5 ∷ q6 ∷ q7 ∷ q8 ∷ q9 ∷ q10 ∷ []) e = absurd (omega arith)
groups_are_read p (q0 ∷ q1 ∷ q2 ∷ q3 ∷ q4 ∷ q5 ∷ q6 ∷ q7 ∷ q8 ∷ q9 ∷ q10 ∷ q11 ∷ []) e = absurd (omega arith)
groups_are_read p (q0 ∷ q1 ∷ q2 ∷ q3 ∷ q4 ∷ q5 ∷ q6 ∷ q7 ∷ q8 ∷ q9 ∷ q10 ∷ q11 ∷ q12 ∷ []) e = absurd (omega arith)
groups_are_read p (q0 ∷ q1 ∷ q2 ∷ q3 ∷ q4 ∷ q5 ∷ q6 ∷ q7 ∷ q8 ∷ q9 ∷ q10 ∷ q11 ∷ q12 ∷ q13 ∷ []) e = absurd (omega arith)
groups_are_read p (q0 ∷ q1 ∷ q2 ∷ q3 ∷ q4 ∷ q5 ∷ q6 ∷ q7 ∷ q8 ∷ q9 ∷ q10 ∷ q11 ∷ q12 ∷ q13 ∷ q14 ∷ []) e = absurd (omega arith)
groups_are_read p (q0 ∷ q1 ∷ q2 ∷ q3 ∷ q4 ∷ q5 ∷ q6 ∷ q7 ∷ q8 ∷ q9 ∷ q10 ∷ q11 ∷ q12 ∷ q13 ∷ q14 ∷ q15 ∷ []) e = absurd (omega arith)
groups_are_read p (q0 ∷ q1 ∷ q2 ∷ q3 ∷ q4 ∷ q5 ∷ q6 ∷ q7 ∷ q8 ∷ q9 ∷ q10 ∷ q11 ∷ q12 ∷ q13 ∷ q14 ∷ q15 ∷ q16 ∷ []) e = absurd (omega arith)
groups_are_read p (q0 ∷ q1 ∷ q2 ∷ q3 ∷ q4 ∷ q5 ∷ q6 ∷ q7 ∷ q8 ∷ q9 ∷ q10 ∷ q11 ∷ q12 ∷ q13 ∷ q14 ∷ q15 ∷ q16 ∷ q17 ∷ []) e = absurd (omega arith)
groups_are_read p (q0 ∷ q1 ∷ q2 ∷ q3 ∷ q4 ∷ q5 ∷ q6 ∷ q7 ∷ q8 ∷ q9 ∷ q10 ∷ q11 ∷ q12 ∷ q13 ∷ q14 ∷ q15 ∷ q16 ∷ q17 ∷ q18 ∷ []) e = absurd (omega arith)
groups_are_read p (q0 ∷ q1 ∷ q2 ∷ q3 ∷ q4 ∷ q5 ∷ q6 ∷ q7 ∷ q8 ∷ q9 ∷ q10 ∷ q11 ∷ q12 ∷ q13 ∷ q14 ∷ q15 ∷ q16 ∷ q17 ∷ q18 ∷ q19 ∷ []) e = absurd (omega arith)
groups_are_read p (q0 ∷ q1 ∷ q2 ∷ q3 ∷ q4 ∷ q5 ∷ q6 ∷ q7 ∷ q8 ∷ q9 ∷ q10 ∷ q11 ∷ q12 ∷ q13 ∷ q14 ∷ q15 ∷ q16 ∷ q17 ∷ q18 ∷ q19 ∷ q20 ∷ []) e = explicit_groups p q0 q1 q2 q3 q4 q5 q6 q7 q8 q9 q10 q11 q12 q13 q14 q15 q16 q17 q18 q19 q20
groups_are_read p (q0 ∷ q1 ∷ q2 ∷ q3 ∷ q4 ∷ q5 ∷ q6 ∷ q7 ∷ q8 ∷ q9 ∷ q10 ∷ q11 ∷ q12 ∷ q13 ∷ q14 ∷ q15 ∷ q16 ∷ q17 ∷ q18 ∷ q19 ∷ q20 ∷ more ∷ rest) e = absurd (omega arith)
