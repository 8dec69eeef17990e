-- The votes that a made block carries are accepted by its state.
use Rattle.std.proofs.Common.{◌≡◌, ◌∙◌, ◌⊎◌, ℕ, zero, suc, ◌+◌, ◌-◌, ◌*◌, ◌/◌, ◌%◌, ◌<◌, ◌≤◌, Bool, true, false, ◌==◌, ◌||◌, not, leb, nat_lt, List, [], ◌∷◌, ◌++◌, length, map, if◌then◌else◌, refl, sym, ap, subst, inl, inr, arith, length-append}
use Rattle.spec_drill.specs.MakeGenesis.{zero_eth1}
use Rattle.spec_drill.specs.MakeVotes.{source_for, vote_of, votes_of}
use Rattle.spec_blocks.specs.Gives.{Gives}
use Rattle.spec_drill.specs.inside.Calm.{IsFullRegistry}
use Rattle.std.specs.List.{range_with_len}
use Rattle.std.proofs.lemmas.Bool.{eqb-true, eq-eqb, lt-ltb, le-leb}
use Rattle.bc_words.specs.Outcome.{done, checked_add, checked_sub, checked_push}
use Rattle.std.proofs.Math.Nat.{div-le_self, mod-lt}
use Rattle.bc_words.specs.declared.refusal.Refusal.TheVariants.{AtTargetEpoch, AtSlotEpoch, AtEarly, AtLate, AtIndex, AtBits, AtSource, AtEmpty}
use Rattle.bc_preset.specs.Presets.{IsPreset}
use Rattle.bc_preset.specs.declared.presets.Preset.{Preset}
use Rattle.bc_preset.specs.laws.Bounds.{HasPresetBounds}
use Rattle.bc_preset.proofs.Bounds.{preset_bounds}
use Rattle.beacon_types.specs.Equality.{same_checkpoint}
use Rattle.beacon_types.proofs.Equality.{checkpoint_decides}
use Rattle.beacon_types.specs.declared.attestation_data.AttestationData.{AttestationData}
use Rattle.beacon_types.specs.declared.pending_attestation.PendingAttestation.{PendingAttestation}
use Rattle.spec_state.specs.declared.plain.PlainState.{PlainState}
use Rattle.spec_state.specs.States.{votes_limit, attestations_limit}
use Rattle.spec_state.specs.Constants.{far_future_epoch}
use Rattle.spec_state.specs.Misc.{compute_epoch_at_slot}
use Rattle.spec_state.specs.Accessors.{get_current_epoch, get_previous_epoch, get_committee_count_per_slot, get_beacon_committee, get_attesting_indices}
use Rattle.spec_blocks.proofs.Done.{chosen}
use Rattle.spec_blocks.specs.Checks.{check, each_of}
use Rattle.spec_blocks.specs.ProcessAttestation.{process_attestation, check_times, check_committee, with_pending, with_current_pending, with_previous_pending}
use Rattle.committees.specs.Committees.{committee_count_per_slot}
use Rattle.spec_blocks.proofs.Gives.{gives_done, gives_then, gives_if, gives_more, gives_is, is_gives, check_gives, add_gives, sub_gives, push_gives}
use Rattle.spec_drill.proofs.Slots.{next_place}
use Rattle.spec_drill.proofs.Epoch.{full_stays, epoch_stays}
use Rattle.spec_drill.proofs.Committees.{committee_size, count_is, size_is, committees_small, length_replicate, all_members}

or_true : (t : Bool) → (t || true) ≡ true
or_true true = refl
or_true false = refl

pub not_zero : (k : ℕ) → 0 < k → not (k == 0) ≡ true
not_zero k some = elim (chosen (k == 0) false true _ refl) [
  | inl zeros ↦ absurd (let z = eqb-true k 0 zeros.0 in omega arith)
  | inr other ↦ ap not other.0
]

-- a state within the block of a state's slot: with so many votes more at most in its lists
pub record IsVoting (s : PlainState) (votes : ℕ) (x : PlainState) : Type 0 where
  pub preset : x.preset ≡ s.preset
  pub slot : x.slot ≡ s.slot
  pub validators : x.validators ≡ s.validators
  pub balances : x.balances ≡ s.balances
  pub slashings : x.slashings ≡ s.slashings
  pub eth1 : x.eth1_data ≡ zero_eth1
  pub index : x.eth1_deposit_index ≡ 0
  pub current_justified : x.current_justified_checkpoint ≡ s.current_justified_checkpoint
  pub previous_justified : x.previous_justified_checkpoint ≡ s.previous_justified_checkpoint
  pub eth1_votes : length x.eth1_data_votes ≤ s.slot % votes_limit s.preset + 1
  pub historical : length x.historical_roots ≤ get_current_epoch s
  pub previous : length x.previous_epoch_attestations ≤ 4 * (s.preset.slots_per_epoch + s.slot % s.preset.slots_per_epoch) + votes
  pub current : length x.current_epoch_attestations ≤ 4 * (s.slot % s.preset.slots_per_epoch) + votes

-- the slot before a state's slot, of which the votes are
pub record IsBefore (s : PlainState) (slot : ℕ) : Type 0 where
  pub next : s.slot ≡ slot + 1
  pub preset : IsPreset s.preset
  pub full : IsFullRegistry s
  pub early : s.slot ≤ 1024

module _ (s : PlainState) (root : List ℕ) (slot : ℕ) (b : IsBefore s slot) where
  abbrev n : ℕ
  n = s.preset.slots_per_epoch

  bounds : HasPresetBounds s.preset
  bounds = preset_bounds s.preset b.preset

  abbrev voted_epoch : ℕ
  voted_epoch = compute_epoch_at_slot s.preset slot

  data_of : ℕ → AttestationData
  data_of index = (vote_of s root slot index).content

  bits_of : ℕ → List Bool
  bits_of index = (vote_of s root slot index).aggregation_bits

  pending_of : ℕ → ℕ → ℕ → PendingAttestation
  pending_of index delay proposer = record { aggregation_bits = bits_of index; content = data_of index; inclusion_delay = delay; proposer_index = proposer }

  -- the epoch of the votes is the state's, or the one before
  record EitherEpoch : Type 0 where
    either : (voted_epoch ≡ get_current_epoch s) ⊎ (voted_epoch ≡ get_previous_epoch s)

  epoch_is_either : EitherEpoch
  unfolding get_current_epoch get_previous_epoch
  epoch_is_either =
      let at = b.next in
      let e : s.slot / n ≡ (slot + 1) / n = ap (λ (k : ℕ). k / s.preset.slots_per_epoch) b.next in
      elim (next_place s.preset slot b.preset) [
        | inl within ↦ let w = within.epoch in record { either = inl (sym w ∙ sym e) }
        | inr begins ↦ let w = begins.epoch in record { either = inr (let f : s.slot / s.preset.slots_per_epoch ≡ slot / s.preset.slots_per_epoch + 1 = e ∙ w in omega arith) }
      ]

  low_epoch : voted_epoch < far_future_epoch
  low_epoch = let d = div-le_self slot s.preset.slots_per_epoch in let a = b.next in let e = b.early in omega arith

  -- ---- the checks, in a state within the block

  module _ (x : PlainState) (votes : ℕ) (v : IsVoting s votes x) where
    x_epoch : get_current_epoch x ≡ get_current_epoch s
    x_epoch = epoch_stays s x v.preset v.slot

    x_previous : get_previous_epoch x ≡ get_previous_epoch s
    unfolding get_previous_epoch
    x_previous = ap (λ (e : ℕ). e - 1) x_epoch

    x_full : IsFullRegistry x
    x_full = full_stays s x v.validators b.full

    times_hold : (index : ℕ) → check_times x (data_of index) ≡ done tt
    unfolding check_times data_of vote_of
    times_hold index =
        let e = epoch_is_either in
        let epoch_s : ℕ = compute_epoch_at_slot s.preset slot in
        let one : ((epoch_s == get_previous_epoch x) || (epoch_s == get_current_epoch x)) ≡ true = elim e.either [
          | inl c ↦ ap (λ t. (epoch_s == get_previous_epoch x) || t) (eq-eqb _ _ (c ∙ sym x_epoch)) ∙ or_true _
          | inr p ↦ ap (λ t. t || (epoch_s == get_current_epoch x)) (eq-eqb _ _ (p ∙ sym x_previous))
        ] in
        let two : (epoch_s == compute_epoch_at_slot x.preset slot) ≡ true = eq-eqb _ _ (ap (λ (p : Preset). slot / p.slots_per_epoch) (sym v.preset)) in
        let a = b.next in let early = b.early in let x_slot = v.slot in
        let one_more = bounds.min_attestation_inclusion_delay in
        let same_one : x.preset.min_attestation_inclusion_delay ≡ s.preset.min_attestation_inclusion_delay = ap (λ (p : Preset). p.min_attestation_inclusion_delay) v.preset in
        let same_n : x.preset.slots_per_epoch ≡ s.preset.slots_per_epoch = ap (λ (p : Preset). p.slots_per_epoch) v.preset in
        let most = bounds.slots_per_epoch in let least = bounds.least_slots_per_epoch in
        gives_is tt _
        (gives_then (λ u. u ≡ tt) (λ u. u ≡ tt) (check ((epoch_s == get_previous_epoch x) || (epoch_s == get_current_epoch x)) AtTargetEpoch) _ (is_gives tt _ (check_gives _ AtTargetEpoch one)) (λ u h.
        gives_then (λ u. u ≡ tt) (λ u. u ≡ tt) (check (epoch_s == compute_epoch_at_slot x.preset slot) AtSlotEpoch) _ (is_gives tt _ (check_gives _ AtSlotEpoch two)) (λ u h.
        gives_then (λ c. c ≡ slot + x.preset.min_attestation_inclusion_delay) (λ u. u ≡ tt) (checked_add slot x.preset.min_attestation_inclusion_delay) _ (add_gives _ _ (omega arith)) (λ earliest earliest_is.
        gives_then (λ u. u ≡ tt) (λ u. u ≡ tt) (check (leb earliest x.slot) AtEarly) _ (is_gives tt _ (check_gives _ AtEarly (le-leb _ _ (omega arith)))) (λ u h.
        gives_then (λ c. c ≡ slot + x.preset.slots_per_epoch) (λ u. u ≡ tt) (checked_add slot x.preset.slots_per_epoch) _ (add_gives _ _ (omega arith)) (λ latest latest_is.
        is_gives tt _ (check_gives _ AtLate (le-leb _ _ (omega arith)))))))))

    -- as many bits as members
    bits_many : (index : ℕ) → length (bits_of index) ≡ length (get_beacon_committee x slot index)
    unfolding bits_of vote_of
    bits_many index =
        length_replicate (length (get_beacon_committee s slot index)) true
        ∙ (size_is s slot index b.full low_epoch
        ∙ (ap (λ (p : Preset). committee_size p (slot % p.slots_per_epoch * committee_count_per_slot p 64 + index)) (sym v.preset)
        ∙ sym (size_is x slot index x_full (subst (λ (p : Preset). slot / p.slots_per_epoch < far_future_epoch) (sym v.preset) low_epoch))))

    committee_holds : (index : ℕ) → index < get_committee_count_per_slot s voted_epoch → check_committee x (data_of index) (bits_of index) ≡ done tt
    unfolding check_committee data_of vote_of
    committee_holds index less =
        let same : get_committee_count_per_slot x voted_epoch ≡ get_committee_count_per_slot s voted_epoch =
        count_is x voted_epoch x_full low_epoch ∙ (ap (λ (p : Preset). committee_count_per_slot p 64) v.preset ∙ sym (count_is s voted_epoch b.full low_epoch)) in
        gives_is tt _
        (gives_then (λ u. u ≡ tt) (λ u. u ≡ tt) (check (nat_lt index (get_committee_count_per_slot x voted_epoch)) AtIndex) _ (is_gives tt _ (check_gives _ AtIndex (lt-ltb _ _ (omega arith)))) (λ u h.
        is_gives tt _ (check_gives _ AtBits (eq-eqb _ _ (bits_many index)))))

    somebody : (index : ℕ) → not (length (get_attesting_indices x (data_of index) (bits_of index)) == 0) ≡ true
    unfolding get_attesting_indices data_of bits_of vote_of
    somebody index =
        let committee = get_beacon_committee x slot index in
        let many : length (get_beacon_committee s slot index) ≡ length committee = sym (length_replicate (length (get_beacon_committee s slot index)) true) ∙ bits_many index in
        let all = all_members committee (length (get_beacon_committee s slot index)) (omega arith) in
        let some = (committees_small s.preset b.preset).some (slot % s.preset.slots_per_epoch * committee_count_per_slot s.preset 64 + index) in
        let size = size_is s slot index b.full low_epoch in
        ap (λ (ms : List ℕ). not (length ms == 0)) all ∙ not_zero (length committee) (omega arith)

    -- the vote waits in its list
    pending_gives : (index delay proposer : ℕ) → votes < 4 → Gives (IsVoting s (votes + 1)) (with_pending x (pending_of index delay proposer))
    unfolding with_pending with_current_pending with_previous_pending pending_of data_of vote_of source_for
    pending_gives index delay proposer few =
        let vp = v.previous in let vc = v.current in let ve = v.eth1_votes in
        let place : s.slot % s.preset.slots_per_epoch < s.preset.slots_per_epoch = mod-lt s.slot (omega (arith, bounds.least_slots_per_epoch)) in
        let limit : attestations_limit x.preset ≡ 128 * s.preset.slots_per_epoch = ap (λ (p : Preset). p.max_attestations * p.slots_per_epoch) v.preset ∙ ap (λ (m : ℕ). m * s.preset.slots_per_epoch) bounds.max_attestations in
        let most = bounds.slots_per_epoch in let least = bounds.least_slots_per_epoch in
        let epoch : ℕ = compute_epoch_at_slot s.preset slot in
        let pending : PendingAttestation = pending_of index delay proposer in
        gives_if (IsVoting s (votes + 1)) (epoch == get_current_epoch x) _ _
        (λ now.
        let here : (epoch == get_current_epoch s) ≡ true = ap (λ (e : ℕ). epoch == e) (sym x_epoch) ∙ now in
        let source : (if epoch == get_current_epoch s then s.current_justified_checkpoint else s.previous_justified_checkpoint) ≡ x.current_justified_checkpoint = ap (λ (t : Bool). if t then s.current_justified_checkpoint else s.previous_justified_checkpoint) here ∙ sym v.current_justified in
        gives_then (λ u. u ≡ tt) (IsVoting s (votes + 1)) (check (same_checkpoint (if epoch == get_current_epoch s then s.current_justified_checkpoint else s.previous_justified_checkpoint) x.current_justified_checkpoint) AtSource) _ (is_gives tt _ (check_gives _ AtSource ((checkpoint_decides _ _).1 source))) (λ u h.
        gives_then (λ ys. ys ≡ x.current_epoch_attestations ++ pending ∷ []) (IsVoting s (votes + 1)) (checked_push (attestations_limit x.preset) x.current_epoch_attestations pending) _ (is_gives _ _ (push_gives (attestations_limit x.preset) x.current_epoch_attestations pending (omega arith))) (λ ys ys_is.
        let many = ap length ys_is ∙ length-append x.current_epoch_attestations (pending ∷ []) in
        gives_done (IsVoting s (votes + 1)) (record x { current_epoch_attestations = ys }) (record { preset = v.preset; slot = v.slot; validators = v.validators; balances = v.balances; slashings = v.slashings; eth1 = v.eth1; index = v.index; current_justified = v.current_justified; previous_justified = v.previous_justified; eth1_votes = v.eth1_votes; historical = v.historical; previous = omega arith; current = omega arith }))))
        (λ before.
        let there : (epoch == get_current_epoch s) ≡ false = ap (λ (e : ℕ). epoch == e) (sym x_epoch) ∙ before in
        let source : (if epoch == get_current_epoch s then s.current_justified_checkpoint else s.previous_justified_checkpoint) ≡ x.previous_justified_checkpoint = ap (λ (t : Bool). if t then s.current_justified_checkpoint else s.previous_justified_checkpoint) there ∙ sym v.previous_justified in
        gives_then (λ u. u ≡ tt) (IsVoting s (votes + 1)) (check (same_checkpoint (if epoch == get_current_epoch s then s.current_justified_checkpoint else s.previous_justified_checkpoint) x.previous_justified_checkpoint) AtSource) _ (is_gives tt _ (check_gives _ AtSource ((checkpoint_decides _ _).1 source))) (λ u h.
        gives_then (λ ys. ys ≡ x.previous_epoch_attestations ++ pending ∷ []) (IsVoting s (votes + 1)) (checked_push (attestations_limit x.preset) x.previous_epoch_attestations pending) _ (is_gives _ _ (push_gives (attestations_limit x.preset) x.previous_epoch_attestations pending (omega arith))) (λ ys ys_is.
        let many = ap length ys_is ∙ length-append x.previous_epoch_attestations (pending ∷ []) in
        gives_done (IsVoting s (votes + 1)) (record x { previous_epoch_attestations = ys }) (record { preset = v.preset; slot = v.slot; validators = v.validators; balances = v.balances; slashings = v.slashings; eth1 = v.eth1; index = v.index; current_justified = v.current_justified; previous_justified = v.previous_justified; eth1_votes = v.eth1_votes; historical = v.historical; previous = omega arith; current = omega arith }))))

    -- process_attestation
    vote_gives : (index proposer : ℕ) → index < get_committee_count_per_slot s voted_epoch → votes < 4 → Gives (IsVoting s (votes + 1)) (process_attestation x (vote_of s root slot index) proposer)
    unfolding process_attestation data_of bits_of pending_of vote_of
    vote_gives index proposer less few =
        let at = b.next in let x_slot = v.slot in
        gives_then (λ u. u ≡ tt) (IsVoting s (votes + 1)) (check_times x (data_of index)) _ (is_gives tt _ (times_hold index)) (λ u h.
        gives_then (λ u. u ≡ tt) (IsVoting s (votes + 1)) (check_committee x (data_of index) (bits_of index)) _ (is_gives tt _ (committee_holds index less)) (λ u h.
        gives_then (λ d. Unit {0}) (IsVoting s (votes + 1)) (checked_sub x.slot slot) _ (gives_more (λ d. d ≡ x.slot - slot) (λ d. Unit {0}) _ (λ d h. tt) (sub_gives x.slot slot (omega arith))) (λ delay any.
        gives_then (IsVoting s (votes + 1)) (IsVoting s (votes + 1)) (with_pending x (pending_of index delay proposer)) _ (pending_gives index delay proposer few) (λ y y_voting.
        gives_then (λ u. u ≡ tt) (IsVoting s (votes + 1)) (check (not (length (get_attesting_indices x (data_of index) (bits_of index)) == 0)) AtEmpty) _ (is_gives tt _ (check_gives _ AtEmpty (somebody index))) (λ u h.
        gives_done (IsVoting s (votes + 1)) y y_voting)))))

  -- ---- all of them

  votes_give : (proposer start count : ℕ) (x : PlainState) (votes : ℕ) → IsVoting s votes x → votes + count ≤ 4 → start + count ≤ get_committee_count_per_slot s voted_epoch
      → Gives (IsVoting s (votes + count)) (each_of (λ y operation. process_attestation y operation proposer) x (map (vote_of s root slot) (range_with_len start count)))
  unfolding each_of
  votes_give proposer start zero x votes v few low = gives_done (IsVoting s (votes + 0)) x (subst (λ (k : ℕ). IsVoting s k x) (let e : votes ≡ votes + 0 = omega arith in e) v)
  votes_give proposer start (suc count) x votes v few low =
      gives_then (IsVoting s (votes + 1)) (IsVoting s (votes + suc count)) (process_attestation x (vote_of s root slot start) proposer) _ (vote_gives x votes v start proposer (omega arith) (omega arith)) (λ y y_voting.
      subst (λ (k : ℕ). Gives (IsVoting s k) (each_of (λ y operation. process_attestation y operation proposer) y (map (vote_of s root slot) (range_with_len (start + 1) count)))) (let e : votes + 1 + count ≡ votes + suc count = omega arith in e)
      (votes_give proposer (start + 1) count y (votes + 1) y_voting (omega arith) (omega arith)))

  pub all_votes_give : (proposer : ℕ) (x : PlainState) → IsVoting s 0 x → Gives (IsVoting s 4) (each_of (λ y operation. process_attestation y operation proposer) x (votes_of s root slot))
  unfolding votes_of
  all_votes_give proposer x v =
      let count : ℕ = get_committee_count_per_slot s (compute_epoch_at_slot s.preset slot) in
      let few = (committees_small s.preset b.preset).most in
      let is = count_is s (compute_epoch_at_slot s.preset slot) b.full low_epoch in
      gives_more (IsVoting s (0 + count)) (IsVoting s 4) _ (λ y y_voting. let p = y_voting.previous in let c = y_voting.current in record { preset = y_voting.preset; slot = y_voting.slot; validators = y_voting.validators; balances = y_voting.balances; slashings = y_voting.slashings; eth1 = y_voting.eth1; index = y_voting.index; current_justified = y_voting.current_justified; previous_justified = y_voting.previous_justified; eth1_votes = y_voting.eth1_votes; historical = y_voting.historical; previous = omega arith; current = omega arith })
      (votes_give proposer 0 count x 0 v (omega arith) (omega arith))
