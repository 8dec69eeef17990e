-- Who attests, by the committees of an epoch, and an attestation as an event.
use Rattle.std.proofs.Common.{◌≡◌, ℕ, ◌+◌, ◌*◌, ◌%◌, ◌/◌, ◌^◌, ◌<◌, ◌≤◌, Bool, not, List, [], length, map, Option, Some, None, slice_get, ltb, leb, ◌==◌, Result, refl, sym, ap, ◌∙◌, subst, inl, inr, arith, true}
use Rattle.std.specs.List.{range_with_len}
use Rattle.std.proofs.lemmas.Bool.{cases_Bool, ltb-true, ltb-false}
use Rattle.std.proofs.Math.Nat.{div-mul-le_self, div-le_of_le-mul, mul-le-mul_right}
use Rattle.bc_words.proofs.Outcomes.{stops_bound}
use Rattle.beacon_types.specs.declared.checkpoint.Checkpoint.{Checkpoint}
use Rattle.spec_fork_choice.specs.Slots.{start_slot_of}
use Rattle.spec_blocks.specs.Checks.{check}
use Rattle.std.proofs.lemmas.Option.{slice_get-get_or, slice_get_past}
use Rattle.std.proofs.lemmas.List.FromFn.{length-map-range_with_len, get_or-map-range_with_len}
use Rattle.bc_words.specs.Outcome.{Outcome, done, refused, limited, bind, Stops, GivesBy}
use Rattle.bc_words.specs.Events.{accepted, store_stop, StoreStops}
use Rattle.bc_words.specs.declared.stop.Stop.{Stop}
use Rattle.bc_words.specs.declared.stop.Stop.TheVariants as stops
use Rattle.bc_words.specs.declared.refusal.Refusal.TheVariants.{FcCommittee, FcBitsShort, FcEmpty}
use Rattle.beacon_types.specs.declared.attestation.Attestation.{Attestation}
use Rattle.committees.specs.Committees.{Committees, committees_of, committee_at, compute_committee}
use Rattle.spec_state.specs.declared.plain.PlainState.{PlainState}
use Rattle.spec_state.specs.Misc.{compute_epoch_at_slot}
use Rattle.spec_state.specs.Accessors.{get_committee_count_per_slot, get_beacon_committee, get_attesting_indices, get_active_validator_indices, get_seed, members_with_bits}
use Rattle.spec_state.specs.inside.EpochCommittees.{epoch_committees}
use Rattle.spec_state.specs.Constants.{domain_beacon_attester}
use Rattle.spec_fork_choice.specs.Store.{Store, is_kept}
use Rattle.spec_fork_choice.specs.StoreTargetCheckpointState.{store_target_checkpoint_state}
use Rattle.spec_fork_choice.specs.ValidateOnAttestation.{check_time, validate_on_attestation}
use Rattle.spec_blocks.proofs.Done.{on_the_way, check_holds}
use Rattle.bc_words.specs.declared.refusal.Refusal.TheVariants.{FcSlotEpoch, FcTargetUnknown, FcBlockUnknown}
use Rattle.spec_fork_choice.specs.UpdateLatestMessages.{update_latest_messages}
use Rattle.spec_fork_choice.specs.OnAttestation.{committee_number, check_target_committee, on_attestation}
use Rattle.fork_store.specs.inside.Votes.{attesters_among, attesters_in, attesters_of, judged, event_of}

-- ---- the committee with a number of the epoch

at : {A : Type 0} (f : ℕ → A) (count k : ℕ) (d : A) → k < count → slice_get (map f (range_with_len 0 count)) k ≡ Some (f k)
at f count k d less =
    let fits : k < length (map f (range_with_len 0 count)) = omega (arith, length-map-range_with_len f 0 count) in
    slice_get-get_or (map f (range_with_len 0 count)) k d fits ∙ ap Some (get_or-map-range_with_len f 0 count k k d less (omega arith))

module _ (state : PlainState) (slot index : ℕ) where
  abbrev epoch : ℕ
  epoch = compute_epoch_at_slot state.preset slot

  abbrev per_slot : ℕ
  per_slot = get_committee_count_per_slot state epoch

  abbrev number : ℕ
  number = slot % state.preset.slots_per_epoch * per_slot + index

  one_of_epoch : number < per_slot * state.preset.slots_per_epoch → committee_at (epoch_committees state epoch) slot index ≡ Some (get_beacon_committee state slot index)
  unfolding committees_of committee_at get_committee_count_per_slot get_beacon_committee
  one_of_epoch less = at _ _ number [] less

  none_of_epoch : per_slot * state.preset.slots_per_epoch ≤ number → committee_at (epoch_committees state epoch) slot index ≡ None
  unfolding committees_of committee_at get_committee_count_per_slot get_beacon_committee
  none_of_epoch over =
      let count : ℕ = per_slot * state.preset.slots_per_epoch in
      let few : length (map (λ k. compute_committee state.preset.shuffle_round_count (get_active_validator_indices state epoch) (get_seed state epoch domain_beacon_attester) k count) (range_with_len 0 count)) ≡ count =
      length-map-range_with_len (λ k. compute_committee state.preset.shuffle_round_count (get_active_validator_indices state epoch) (get_seed state epoch domain_beacon_attester) k count) 0 count in
      slice_get_past _ number (omega (arith, over, few))

-- ---- the epoch of a slot of 64 bits, and where it begins

pub epoch_is_low : (slot slots epoch : ℕ) → slot / slots ≡ epoch → 8 ≤ slots → slot < 2 ^ 64 → epoch ≤ 2 ^ 61
epoch_is_low slot slots epoch e many fits =
    let low : slot / slots ≤ 2 ^ 61 = div-le_of_le-mul slots {m = slot} {n = 2 ^ 61} (omega (arith, many, fits, mul-le-mul_right (2 ^ 61) many)) in
    omega (arith, low, e)

pub start_is_low : (store : Store) (checkpoint : Checkpoint) (slot : ℕ) → compute_epoch_at_slot store.config.preset slot ≡ checkpoint.epoch → slot < 2 ^ 64 → start_slot_of store checkpoint < 2 ^ 64
start_is_low store checkpoint slot e fits =
    let slots : ℕ = store.config.preset.slots_per_epoch in
    let low : slot / slots * slots ≤ slot = div-mul-le_self slot slots in
    let same : slot / slots * slots ≡ checkpoint.epoch * slots = ap (λ n. n * slots) e in
    omega (arith, low, same, fits)

-- ---- the attesters by that committee

-- what is asked of a committee of so many with a number
abbrev asked : ℕ → ℕ → List ℕ → List Bool → Outcome (List ℕ)
asked number total committee bits =
    bind (bind (check (ltb number total) FcCommittee) (λ _. check (leb (length committee) (length bits)) FcBitsShort))
    (λ _. bind (check (not (length (members_with_bits committee bits) == 0)) FcEmpty) (λ _. done (members_with_bits committee bits)))

either_way : (number total : ℕ) (found : Option (List ℕ)) (committee : List ℕ) (bits : List Bool) → (number < total → found ≡ Some committee) → (total ≤ number → found ≡ None) → attesters_among found bits ≡ asked number total committee bits
unfolding attesters_among
either_way number total found committee bits there gone =
    let asked_if : Bool → Outcome (List ℕ) = λ b. bind (bind (check b FcCommittee) (λ _. check (leb (length committee) (length bits)) FcBitsShort)) (λ _. bind (check (not (length (members_with_bits committee bits) == 0)) FcEmpty) (λ _. done (members_with_bits committee bits))) in
    elim (cases_Bool (ltb number total)) as (λ _. attesters_among found bits ≡ asked number total committee bits) [
      | inl t ↦ ap (λ f. attesters_among f bits) (there (ltb-true number total t)) ∙ sym (ap asked_if t)
      | inr f ↦ ap (λ o. attesters_among o bits) (gone (ltb-false number total f)) ∙ sym (ap asked_if f)
    ]

attesters_by : (state : PlainState) (attestation : Attestation) (target_epoch : ℕ) → compute_epoch_at_slot state.preset attestation.content.slot ≡ target_epoch
    → attesters_among (committee_at (epoch_committees state target_epoch) attestation.content.slot attestation.content.index) attestation.aggregation_bits
    ≡ asked (attestation.content.slot % state.preset.slots_per_epoch * get_committee_count_per_slot state target_epoch + attestation.content.index) (get_committee_count_per_slot state target_epoch * state.preset.slots_per_epoch) (get_beacon_committee state attestation.content.slot attestation.content.index) attestation.aggregation_bits
attesters_by state attestation target_epoch e =
    let slot = attestation.content.slot in
    let index = attestation.content.index in
    let bits = attestation.aggregation_bits in
    subst (λ n. attesters_among (committee_at (epoch_committees state n) slot index) bits ≡ asked (slot % state.preset.slots_per_epoch * get_committee_count_per_slot state n + index) (get_committee_count_per_slot state n * state.preset.slots_per_epoch) (get_beacon_committee state slot index) bits) e
    (either_way (number state slot index) (per_slot state slot index * state.preset.slots_per_epoch) (committee_at (epoch_committees state (epoch state slot index)) slot index) (get_beacon_committee state slot index) bits (one_of_epoch state slot index) (none_of_epoch state slot index))

pub attesters_same : (state : PlainState) (attestation : Attestation) (committees : Committees) → compute_epoch_at_slot state.preset attestation.content.slot ≡ attestation.content.target.epoch → committees ≡ epoch_committees state attestation.content.target.epoch
    → attesters_among (committee_at committees attestation.content.slot attestation.content.index) attestation.aggregation_bits ≡ attesters_in state attestation
unfolding attesters_in check_target_committee committee_number get_attesting_indices
attesters_same state attestation committees e is =
    ap (λ c. attesters_among (committee_at c attestation.content.slot attestation.content.index) attestation.aggregation_bits) is
    ∙ attesters_by state attestation attestation.content.target.epoch e

pub attesters_are : {X : Type 0} (view : X → List ℕ) (result : Result X Stop) (state : PlainState) (attestation : Attestation) (committees : Committees) → compute_epoch_at_slot state.preset attestation.content.slot ≡ attestation.content.target.epoch → committees ≡ epoch_committees state attestation.content.target.epoch
    → GivesBy view result (attesters_among (committee_at committees attestation.content.slot attestation.content.index) attestation.aggregation_bits) → GivesBy view result (attesters_in state attestation)
attesters_are view result state attestation committees e is given = subst (GivesBy view result) (attesters_same state attestation committees e is) given

-- ---- an attestation as an event

pub assoc : {A B C : Type 0} (outcome : Outcome A) (f : A → Outcome B) (g : B → Outcome C) → bind (bind outcome f) g ≡ bind outcome (λ x. bind (f x) g)
assoc (done x) f g = refl
assoc (refused why) f g = refl
assoc (limited bound) f g = refl

pub same_next : {A B : Type 0} (outcome : Outcome A) (f g : A → Outcome B) → ((x : A) → f x ≡ g x) → bind outcome f ≡ bind outcome g
same_next (done x) f g same = same x
same_next (refused why) f g same = refl
same_next (limited bound) f g same = refl

handled : (store : Store) (attestation : Attestation) (is_from_block : Bool) → bind (judged store attestation is_from_block) (λ indices. done (update_latest_messages store indices attestation)) ≡ on_attestation store attestation is_from_block
unfolding judged attesters_of attesters_in on_attestation
handled store attestation is_from_block =
    let update : List ℕ → Outcome Store = λ indices. done (update_latest_messages store indices attestation) in
    assoc (validate_on_attestation store attestation is_from_block) (λ _. attesters_of store attestation) update
    ∙ same_next (validate_on_attestation store attestation is_from_block) (λ _. bind (attesters_of store attestation) update) _ (λ _.
    assoc (store_target_checkpoint_state store attestation.content.target) (λ s. attesters_in s attestation) update
    ∙ same_next (store_target_checkpoint_state store attestation.content.target) (λ s. bind (attesters_in s attestation) update) _ (λ s.
    assoc (check_target_committee s attestation) _ update
    ∙ same_next (check_target_committee s attestation) _ _ (λ _.
    assoc (check (not (length (get_attesting_indices s attestation.content attestation.aggregation_bits) == 0)) FcEmpty) _ update)))

pub stops_event : {A : Type 0} (stop : Stop) (outcome : Outcome A) → Stops stop outcome → StoreStops (store_stop stop) (event_of outcome)
stops_event (stops.Refused why) outcome e = ap event_of e
stops_event (stops.Limit bound) outcome e = ap event_of e
stops_event stops.NoMemory outcome e = tt

pub attestation_stops : (store : Store) (attestation : Attestation) (is_from_block : Bool) (stop : Stop) → Stops stop (judged store attestation is_from_block) → StoreStops (store_stop stop) (event_of (on_attestation store attestation is_from_block))
attestation_stops store attestation is_from_block stop e =
    stops_event stop (on_attestation store attestation is_from_block)
    (subst (Stops stop) (handled store attestation is_from_block) (stops_bound stop (judged store attestation is_from_block) (λ indices. done (update_latest_messages store indices attestation)) e))

pub attestation_done : (store : Store) (attestation : Attestation) (is_from_block : Bool) (indices voters : List ℕ) (new : Store) → judged store attestation is_from_block ≡ done indices → voters ≡ indices → new ≡ update_latest_messages store voters attestation → event_of (on_attestation store attestation is_from_block) ≡ accepted new
attestation_done store attestation is_from_block indices voters new e same is =
    ap event_of (sym (handled store attestation is_from_block) ∙ ap (λ o. bind o (λ xs. done (update_latest_messages store xs attestation))) e)
    ∙ ap accepted (ap (λ xs. update_latest_messages store xs attestation) (sym same) ∙ sym is)

-- ---- the block that is voted for

pub voted_is_kept : (store : Store) (attestation : Attestation) (is_from_block : Bool) (indices : List ℕ) → judged store attestation is_from_block ≡ done indices → is_kept store.blocks attestation.content.beacon_block_root ≡ true
unfolding judged validate_on_attestation
voted_is_kept store attestation is_from_block indices is =
    let content = attestation.content in
    let valid = on_the_way (validate_on_attestation store attestation is_from_block) _ indices is in
    let time = on_the_way (check_time store attestation is_from_block) _ _ valid.first in
    let epoch = on_the_way (check (content.target.epoch == compute_epoch_at_slot store.config.preset content.slot) FcSlotEpoch) _ _ time.then_done in
    let target = on_the_way (check (is_kept store.blocks content.target.root) FcTargetUnknown) _ _ epoch.then_done in
    let known = on_the_way (check (is_kept store.blocks content.beacon_block_root) FcBlockUnknown) _ _ target.then_done in
    check_holds (is_kept store.blocks content.beacon_block_root) FcBlockUnknown _ known.first
