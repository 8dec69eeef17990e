-- A genesis that the check accepts is sound.
use Rattle.std.proofs.Common.{◌≡◌, ℕ, ◌≤◌, Bool, true, false, not, ◌&&◌, ◌==◌, cond, List, [], length, Option, Some, None, refl, sym, subst, arith}
use Rattle.std.specs.List.{list_all, AllByRecursion}
use Rattle.std.proofs.lemmas.Bool.{and_parts, eqb-true}
use Rattle.std.proofs.lemmas.List.{nil_from_length}
use Rattle.beacon_types.specs.declared.pending_attestation.PendingAttestation.{PendingAttestation}
use Rattle.spec_state.specs.declared.plain.PlainState.{PlainState}
use Rattle.spec_state.specs.Genesis.{genesis_fault, is_genesis_header, is_zero_checkpoint}
use Rattle.spec_state.specs.Soundness.{IsSound}

-- no fault: the test doesn't hold, and there is none behind it
passed : {A : Type 0} (b : Bool) (fault : A) (rest : Option A) → cond (not b) (Some fault) rest ≡ None → (b ≡ true) × (rest ≡ None)
passed true fault rest h = (refl, h)
passed false fault rest h = absurd cc

none_of : (P : PendingAttestation → Type 0) (items : List PendingAttestation) → items ≡ [] → AllByRecursion P items
none_of P items e = subst (AllByRecursion P) (sym e) tt

nothing_below : (m n : ℕ) → m ≡ 0 → m ≤ n
nothing_below m n is = omega arith

pub genesis_sound : (s : PlainState) → genesis_fault s ≡ None → IsSound s
unfolding genesis_fault
genesis_sound s h =
    let slot = passed (s.slot == 0) _ _ h in
    let header = passed (is_genesis_header s.latest_block_header) _ _ slot.1 in
    let checkpoints =
    passed (is_zero_checkpoint s.previous_justified_checkpoint && (is_zero_checkpoint s.current_justified_checkpoint && is_zero_checkpoint s.finalized_checkpoint)) _ _ header.1 in
    let bits = passed (list_all not s.justification_bits) _ _ checkpoints.1 in
    let slashings = passed (list_all (λ n. n == 0) s.slashings) _ _ bits.1 in
    let lists =
    passed ((length s.previous_epoch_attestations == 0) && ((length s.current_epoch_attestations == 0) && ((length s.eth1_data_votes == 0) && (length s.historical_roots == 0)))) _ _ slashings.1 in
    let balances = passed (length s.balances == length s.validators) _ _ lists.1 in
    let three = and_parts _ _ checkpoints.0 in
    let two = and_parts _ _ three.1 in
    let no_previous : s.previous_epoch_attestations ≡ [] = nil_from_length s.previous_epoch_attestations (eqb-true _ _ (and_parts _ _ lists.0).0) in
    let no_current : s.current_epoch_attestations ≡ [] = nil_from_length s.current_epoch_attestations (eqb-true _ _ (and_parts _ _ (and_parts _ _ lists.0).1).0) in
    let header_slot : s.latest_block_header.slot ≡ 0 = eqb-true _ _ (and_parts _ _ header.0).0 in
    let previous : s.previous_justified_checkpoint.epoch ≡ 0 = eqb-true _ _ (and_parts _ _ three.0).0 in
    let current : s.current_justified_checkpoint.epoch ≡ 0 = eqb-true _ _ (and_parts _ _ two.0).0 in
    let finalized : s.finalized_checkpoint.epoch ≡ 0 = eqb-true _ _ (and_parts _ _ two.1).0 in
    record {
      balances = eqb-true _ _ balances.0;
      header = nothing_below _ _ header_slot;
      previous_justified = nothing_below _ _ previous;
      current_justified = nothing_below _ _ current;
      finalized = nothing_below _ _ finalized;
      previous_attestations = none_of _ _ no_previous;
      current_attestations = none_of _ _ no_current;
      none_before = λ first. no_previous;
    }
