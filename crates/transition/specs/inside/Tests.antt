-- Soundness as tests, which the code does one after another.
use Rattle.std.specs.Prelude.{ℕ, ◌/◌, Bool, false, not, ◌&&◌, ◌||◌, List, length, Option, Some, None, nat_lt, nat_le, nat_eq}
use Rattle.std.specs.List.{slice_get}
use Rattle.committees.specs.Committees.{Committees, committee_at}
use Rattle.beacon_types.specs.declared.pending_attestation.PendingAttestation.{PendingAttestation}
use Rattle.spec_state.specs.declared.plain.PlainState.{PlainState}
use Rattle.spec_state.specs.Accessors.{get_current_epoch, get_previous_epoch}
use Rattle.transition.specs.declared.pending.Pending.{Pending}
use Rattle.transition.specs.declared.pending.Pending.TheVariants.{Previous, Current}

abbrev pub attestations_of : Pending → PlainState → List PendingAttestation
attestations_of Previous state = state.previous_epoch_attestations
attestations_of Current state = state.current_epoch_attestations

abbrev pub epoch_of : Pending → PlainState → ℕ
epoch_of Previous state = get_previous_epoch state
epoch_of Current state = get_current_epoch state

abbrev as_many : List Bool → Option (List ℕ) → Bool
as_many bits None = false
as_many bits (Some members) = nat_eq (length members) (length bits)

abbrev pub bits_test : Committees → ℕ → ℕ → List Bool → Bool
bits_test committees slot index bits = as_many bits (committee_at committees slot index)

abbrev pub pending_test : Committees → PlainState → ℕ → PendingAttestation → Bool
pending_test committees state epoch a =
    nat_eq (a.content.slot / state.preset.slots_per_epoch) epoch && (nat_lt a.content.slot state.slot && (nat_eq a.content.target.epoch epoch
    && (nat_lt a.content.index committees.per_slot && (bits_test committees a.content.slot a.content.index a.aggregation_bits
    && (nat_le 1 a.inclusion_delay && nat_lt a.proposer_index (length state.validators))))))

abbrev tested : (PendingAttestation → Bool) → Option PendingAttestation → Bool
tested test None = false
tested test (Some a) = test a

abbrev pub passes_at : (PendingAttestation → Bool) → List PendingAttestation → ℕ → Bool
passes_at test items i = tested test (slice_get items i)

-- the justified epochs
abbrev pub justified_test : ℕ → PlainState → Bool
justified_test justified state = nat_le state.previous_justified_checkpoint.epoch justified && nat_le state.current_justified_checkpoint.epoch justified

-- balances, header and checkpoints, and that nothing is pending before the first epoch
abbrev pub figures_test : ℕ → PlainState → Bool
figures_test justified state =
    nat_eq (length state.balances) (length state.validators) && (nat_le state.latest_block_header.slot state.slot && (justified_test justified state
    && (nat_le state.finalized_checkpoint.epoch (get_previous_epoch state)
    && (not (nat_eq (get_current_epoch state) 0) || nat_eq (length state.previous_epoch_attestations) 0))))
