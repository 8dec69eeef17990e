-- What keeps a state sound: its pending attestations stay sound where the committees of their epochs stay.
use Rattle.std.proofs.Common.{◌≡◌, ◌∙◌, ℕ, zero, suc, ◌+◌, ◌-◌, ◌*◌, ◌%◌, ◌≤◌, Bool, false, Option, Some, None, List, [], ◌∷◌, ◌++◌, length, slice_get, slice_set, refl, sym, ap, ap₂, subst, if◌then◌else◌, arith}
use Rattle.bc_preset.specs.declared.presets.Preset.{Preset}
use Rattle.std.specs.List.{AllByRecursion}
use Rattle.beacon_types.specs.declared.checkpoint.Checkpoint.{Checkpoint}
use Rattle.beacon_types.specs.declared.validator.Validator.{Validator}
use Rattle.beacon_types.specs.declared.pending_attestation.PendingAttestation.{PendingAttestation}
use Rattle.committees.specs.Committees.{committee_count_per_slot, compute_committee}
use Rattle.spec_state.specs.declared.plain.PlainState.{PlainState}
use Rattle.spec_state.specs.Constants.{domain_beacon_attester}
use Rattle.spec_state.specs.Misc.{compute_epoch_at_slot}
use Rattle.spec_state.specs.Accessors.{get_current_epoch, get_previous_epoch, get_active_validator_indices, get_seed, get_committee_count_per_slot, get_beacon_committee, indices_from}
use Rattle.spec_state.specs.Soundness.{IsSoundPending, IsSoundTo, IsSound}

-- the previous epoch is the one before the current one, or the same
pub previous_below : (s : PlainState) → (get_previous_epoch s ≤ get_current_epoch s) × (get_current_epoch s ≤ get_previous_epoch s + 1)
unfolding get_previous_epoch
previous_below s = (omega arith, omega arith)

-- the committees of an epoch are those of another state
pub record SameCommittees (s t : PlainState) (epoch : ℕ) : Type 0 where
  pub preset : t.preset ≡ s.preset
  pub active : get_active_validator_indices t epoch ≡ get_active_validator_indices s epoch
  pub seed : get_seed t epoch domain_beacon_attester ≡ get_seed s epoch domain_beacon_attester

pub same_count : (s t : PlainState) (epoch : ℕ) → SameCommittees s t epoch → get_committee_count_per_slot t epoch ≡ get_committee_count_per_slot s epoch
unfolding get_committee_count_per_slot
same_count s t epoch same = ap₂ (λ (p : Preset) (active : List ℕ). committee_count_per_slot p (length active)) same.preset same.active

-- a committee, by what it depends on
abbrev committee_by : ℕ → ℕ → Preset → List ℕ → List ℕ → List ℕ
committee_by slot index p active seed =
    let per_slot : ℕ = committee_count_per_slot p (length active) in
    compute_committee p.shuffle_round_count active seed (slot % p.slots_per_epoch * per_slot + index) (per_slot * p.slots_per_epoch)

by_parts : (s : PlainState) (slot index : ℕ) → get_beacon_committee s slot index ≡ committee_by slot index s.preset (get_active_validator_indices s (compute_epoch_at_slot s.preset slot)) (get_seed s (compute_epoch_at_slot s.preset slot) domain_beacon_attester)
unfolding get_beacon_committee get_committee_count_per_slot
by_parts s slot index = refl

pub same_committee : (s t : PlainState) (slot index : ℕ) → SameCommittees s t (compute_epoch_at_slot s.preset slot) → get_beacon_committee t slot index ≡ get_beacon_committee s slot index
same_committee s t slot index same =
    by_parts t slot index
    ∙ (ap (λ (p : Preset). committee_by slot index t.preset (get_active_validator_indices t (compute_epoch_at_slot p slot)) (get_seed t (compute_epoch_at_slot p slot) domain_beacon_attester)) same.preset
    ∙ (ap (λ (p : Preset). committee_by slot index p (get_active_validator_indices t (compute_epoch_at_slot s.preset slot)) (get_seed t (compute_epoch_at_slot s.preset slot) domain_beacon_attester)) same.preset
    ∙ (ap₂ (λ (active seed : List ℕ). committee_by slot index s.preset active seed) same.active same.seed
    ∙ sym (by_parts s slot index))))

pub pending_stays : (s t : PlainState) (epoch : ℕ) (a : PendingAttestation) → SameCommittees s t epoch → s.slot ≤ t.slot → length s.validators ≤ length t.validators → IsSoundPending s epoch a → IsSoundPending t epoch a
pending_stays s t epoch a same later grown sound = record {
  slot_epoch = ap (λ (p : Preset). compute_epoch_at_slot p a.content.slot) same.preset ∙ sound.slot_epoch;
  earlier = omega (arith, sound.earlier);
  target = sound.target;
  index = let count = same_count s t epoch same in omega (arith, sound.index);
  bits = sound.bits ∙ ap length (sym (same_committee s t a.content.slot a.content.index (subst (λ (e : ℕ). SameCommittees s t e) (sym sound.slot_epoch) same)));
  delay = sound.delay;
  proposer = omega (arith, sound.proposer);
}

pub all_pending_stay : (s t : PlainState) (epoch : ℕ) → SameCommittees s t epoch → s.slot ≤ t.slot → length s.validators ≤ length t.validators → (list : List PendingAttestation) → AllByRecursion (IsSoundPending s epoch) list → AllByRecursion (IsSoundPending t epoch) list
all_pending_stay s t epoch same later grown [] sound = sound
all_pending_stay s t epoch same later grown (a ∷ list) sound = (pending_stays s t epoch a same later grown sound.0, all_pending_stay s t epoch same later grown list sound.1)

-- What a step leaves as it was, so that a sound state stays sound: the epoch, the committees of the two epochs whose
-- attestations may wait, the checkpoints, and the lists of pending attestations
pub record Keeps (s t : PlainState) : Type 0 where
  pub epoch : get_current_epoch t ≡ get_current_epoch s
  pub slot : s.slot ≤ t.slot
  pub current : SameCommittees s t (get_current_epoch s)
  pub previous : SameCommittees s t (get_previous_epoch s)
  pub validators : length s.validators ≤ length t.validators
  pub balances : length t.balances ≡ length t.validators
  pub header : t.latest_block_header.slot ≤ t.slot
  pub previous_justified : t.previous_justified_checkpoint ≡ s.previous_justified_checkpoint
  pub current_justified : t.current_justified_checkpoint ≡ s.current_justified_checkpoint
  pub finalized : t.finalized_checkpoint ≡ s.finalized_checkpoint
  pub previous_attestations : t.previous_epoch_attestations ≡ s.previous_epoch_attestations
  pub current_attestations : t.current_epoch_attestations ≡ s.current_epoch_attestations

-- the epoch before, of states of one epoch
pub same_previous : (s t : PlainState) → get_current_epoch t ≡ get_current_epoch s → get_previous_epoch t ≡ get_previous_epoch s
unfolding get_previous_epoch
same_previous s t same = ap (λ (e : ℕ). e - 1) same

carried : (P : ℕ → PendingAttestation → Type 0) {e f : ℕ} {xs ys : List PendingAttestation} → e ≡ f → xs ≡ ys → AllByRecursion (P e) xs → AllByRecursion (P f) ys
carried P {e} {f} {xs} {ys} epoch list all = subst (λ (zs : List PendingAttestation). AllByRecursion (P f) zs) list (subst (λ (n : ℕ). AllByRecursion (P n) xs) epoch all)

-- a step that keeps these keeps soundness
pub sound_stays : (justified : ℕ) (s t : PlainState) → Keeps s t → IsSoundTo justified s → IsSoundTo justified t
sound_stays justified s t keeps sound = record {
  balances = keeps.balances;
  header = keeps.header;
  previous_justified = let same = ap (λ (c : Checkpoint). c.epoch) keeps.previous_justified in omega (arith, sound.previous_justified);
  current_justified = let same = ap (λ (c : Checkpoint). c.epoch) keeps.current_justified in omega (arith, sound.current_justified);
  finalized = let same = ap (λ (c : Checkpoint). c.epoch) keeps.finalized in let before = same_previous s t keeps.epoch in omega (arith, sound.finalized);
  previous_attestations =
      carried (IsSoundPending t) (sym (same_previous s t keeps.epoch)) (sym keeps.previous_attestations) (all_pending_stay s t (get_previous_epoch s) keeps.previous keeps.slot keeps.validators s.previous_epoch_attestations sound.previous_attestations);
  current_attestations =
      carried (IsSoundPending t) (sym keeps.epoch) (sym keeps.current_attestations) (all_pending_stay s t (get_current_epoch s) keeps.current keeps.slot keeps.validators s.current_epoch_attestations sound.current_attestations);
  none_before = λ first. keeps.previous_attestations ∙ sound.none_before (sym keeps.epoch ∙ first);
}

-- a sound state stays sound where its epoch stays and its step keeps these
pub still_sound : (s t : PlainState) → Keeps s t → IsSound s → IsSound t
still_sound s t keeps sound = subst (λ (e : ℕ). IsSoundTo e t) (sym (same_previous s t keeps.epoch)) (sound_stays (get_previous_epoch s) s t keeps sound)

abbrev held : Validator → Option Validator → Validator
held v None = v
held v (Some w) = w

-- the list of those that pass a test, where one changes and passes as before
pub indices_of_changed : (test : Validator → Bool) (first index : ℕ) (vs : List Validator) (old new : Validator) → slice_get vs index ≡ Some old → test new ≡ test old → indices_from test first (slice_set vs index new) ≡ indices_from test first vs
unfolding indices_from
indices_of_changed test first zero (v ∷ vs) old new is same =
    ap (λ (passes : Bool). if passes then first ∷ indices_from test (suc first) vs else indices_from test (suc first) vs) (same ∙ ap test (sym (ap (held v) is)))
indices_of_changed test first (suc index) (v ∷ vs) old new is same =
    ap (λ (list : List ℕ). if test v then first ∷ list else list) (indices_of_changed test (suc first) index vs old new is same)
indices_of_changed test first index [] old new is same = refl

-- and where one is added that does not pass
pub indices_of_added : (test : Validator → Bool) (first : ℕ) (vs : List Validator) (new : Validator) → test new ≡ false → indices_from test first (vs ++ new ∷ []) ≡ indices_from test first vs
unfolding indices_from
indices_of_added test first [] new fails = ap (λ (passes : Bool). if passes then first ∷ [] else []) fails
indices_of_added test first (v ∷ vs) new fails = ap (λ (list : List ℕ). if test v then first ∷ list else list) (indices_of_added test (suc first) vs new fails)
