-- The duties of an epoch, part by part.
use Rattle.std.proofs.Common.{◌≡◌, ◌≢◌, ◌==◌, ◌<◌, ◌≤◌, ◌+◌, ◌*◌, ◌/◌, ◌^◌, ℕ, zero, suc, nat_lt, true, false, List, [], ◌∷◌, ◌++◌, Option, map, Result, refl, ap, ap₂, ◌∙◌, inl, inr, arith}
use Rattle.std.specs.Prelude.{flat_map, unwrap_or}
use Rattle.std.specs.List.{range_with_len}
use Rattle.std.proofs.lemmas.Bool.{cases_lt}
use Rattle.std.proofs.lemmas.Grind.{common_steps}
use Rattle.std.proofs.Math.Nat.{div-eq_of_lt-le, mul-le-mul_left, suc-mul}
use Rattle.bc_preset.specs.declared.presets.Preset.{Preset}
use Rattle.committees.specs.Committees.{Committees, committee_at, committees_of}
use Rattle.balance_totals.specs.inside.PerSlot.{ArePublished}
use Rattle.bc_words.specs.Outcome.{done, checked_mul, GivesBy, Stops, StopsExactly}
use Rattle.bc_words.specs.declared.stop.Stop.{Stop}
use Rattle.bc_words.specs.declared.stop.Stop.TheVariants as stops
use Rattle.spec_state.specs.declared.plain.PlainState.{PlainState}
use Rattle.spec_state.specs.Accessors.{get_beacon_committee, get_committee_count_per_slot, get_current_epoch}
use Rattle.spec_state.specs.inside.EpochCommittees.{epoch_committees}
use Rattle.duties.specs.Duties.{CommitteeDuty, committee_duties, current_proposers, duty_lists, get_duties, proposer_duties, slot_committees, table_committees}
use Rattle.duties.specs.declared.duties.Duties.{Duties}
use Rattle.duties.specs.declared.proposers.ProposerDuty.{ProposerDuty}

current_is : (state : PlainState) (epoch current : ℕ) → current ≡ get_current_epoch state → epoch ≡ current → current_proposers state epoch ≡ proposer_duties state (get_current_epoch state)
unfolding current_proposers
current_is state epoch current is same =
    let now : epoch ≡ get_current_epoch state = same ∙ is in
    let test : (get_current_epoch state == get_current_epoch state) ≡ true = grind (arith, common_steps) in
    rw (now, test) refl

pub told_now : {X : Type 0} (view : X → List ProposerDuty) (state : PlainState) (epoch current : ℕ) (result : Result X Stop) → current ≡ get_current_epoch state → epoch ≡ current
    → GivesBy view result (proposer_duties state (get_current_epoch state)) → GivesBy view result (current_proposers state epoch)
told_now view state epoch current result is same h = rw (current_is state epoch current is same) h

pub told_later : (state : PlainState) (epoch current : ℕ) → current ≡ get_current_epoch state → epoch ≢ current → current_proposers state epoch ≡ done []
unfolding current_proposers
told_later state epoch current is other =
    let test : (epoch == get_current_epoch state) ≡ false = grind (arith, common_steps, is, other) in
    rw test refl

-- the product of the epoch's end fits
pub end_fits : (a b x : ℕ) → checked_mul a b ≡ done x → a * b < 2 ^ 64
unfolding checked_mul
end_fits a b x is = elim (cases_lt (a * b) (2 ^ 64)) [
  | inl less ↦ less
  | inr more ↦ let test : nat_lt (a * b) (2 ^ 64) ≡ false = grind (arith, common_steps) in cc (rw test at is)
]

-- so the epoch is low
pub epoch_is_low : (epoch n : ℕ) → 8 ≤ n → (epoch + 1) * n < 2 ^ 64 → epoch ≤ 2 ^ 61
epoch_is_low epoch n least less =
    let eight : (epoch + 1) * 8 ≤ (epoch + 1) * n = mul-le-mul_left (epoch + 1) least in
    omega (arith, eight, less)

slots_of : (same preset : Preset) → same ≡ preset → same.slots_per_epoch ≡ preset.slots_per_epoch
slots_of same preset is = ap (λ (p : Preset). p.slots_per_epoch) is

-- its end doesn't fit
pub end_stops : (state : PlainState) (epoch : ℕ) (same : Preset) (stop : Stop) → same ≡ state.preset → StopsExactly stop (checked_mul (epoch + 1) same.slots_per_epoch) → Stops stop (get_duties state epoch)
unfolding get_duties
end_stops state epoch same (stops.Refused why) is h = rw (rw (slots_of same state.preset is) at h) refl
end_stops state epoch same (stops.Limit bound) is h = rw (rw (slots_of same state.preset is) at h) refl
end_stops state epoch same stops.NoMemory is h = tt

-- a proposer can't be told
pub proposers_stop : (state : PlainState) (epoch end : ℕ) (same : Preset) (stop : Stop) → same ≡ state.preset → checked_mul (epoch + 1) same.slots_per_epoch ≡ done end
    → Stops stop (current_proposers state epoch) → Stops stop (get_duties state epoch)
unfolding get_duties
proposers_stop state epoch end same (stops.Refused why) is fits h = rw (rw (slots_of same state.preset is) at fits, h) refl
proposers_stop state epoch end same (stops.Limit bound) is fits h = rw (rw (slots_of same state.preset is) at fits, h) refl
proposers_stop state epoch end same stops.NoMemory is fits h = tt

-- two functions that agree on numbers in a row
pub flat_same : {A : Type 0} (f g : ℕ → List A) (a n : ℕ) → ((k : ℕ) → a ≤ k → k < a + n → f k ≡ g k) → flat_map f (range_with_len a n) ≡ flat_map g (range_with_len a n)
flat_same f g a zero same = refl
flat_same {A} f g a (suc n) same = ap₂ (λ (x y : List A). x ++ y) (same a (omega arith) (omega arith)) (flat_same f g (a + 1) n (λ k low high. same k (omega arith) (omega arith)))

map_same : {A : Type 0} (f g : ℕ → A) (a n : ℕ) → ((k : ℕ) → a ≤ k → k < a + n → f k ≡ g k) → map f (range_with_len a n) ≡ map g (range_with_len a n)
map_same f g a zero same = refl
map_same {A} f g a (suc n) same = ap₂ (λ (x : A) (y : List A). x ∷ y) (same a (omega arith) (omega arith)) (map_same f g (a + 1) n (λ k low high. same k (omega arith) (omega arith)))

module _ (state : PlainState) (epoch : ℕ) (committees : Committees) (is : committees ≡ epoch_committees state epoch) (published : ArePublished state epoch committees) where
  count_is : committees.per_slot ≡ get_committee_count_per_slot state epoch
  unfolding committees_of get_committee_count_per_slot
  count_is = rw is refl

  slots_are : committees.slots ≡ state.preset.slots_per_epoch
  unfolding committees_of
  slots_are = rw is refl

  duty_is : (slot index : ℕ) → epoch * state.preset.slots_per_epoch ≤ slot → slot < epoch * state.preset.slots_per_epoch + state.preset.slots_per_epoch → index < get_committee_count_per_slot state epoch
      → ◌≡◌ {A = CommitteeDuty} (record { slot = slot; index = index; members = unwrap_or (committee_at committees slot index) [] }) (record { slot = slot; index = index; members = get_beacon_committee state slot index })
  duty_is slot index low high less =
      let of_epoch : slot / state.preset.slots_per_epoch ≡ epoch = div-eq_of_lt-le state.preset.slots_per_epoch low (omega (arith, high, suc-mul epoch state.preset.slots_per_epoch)) in
      ap (λ (o : Option (List ℕ)). record { slot = slot; index = index; members = unwrap_or o [] }) (published slot index of_epoch less)

  slot_is : (slot : ℕ) → epoch * state.preset.slots_per_epoch ≤ slot → slot < epoch * state.preset.slots_per_epoch + state.preset.slots_per_epoch → table_committees committees slot ≡ slot_committees state epoch slot
  slot_is slot low high =
      ap (λ n. map (λ index. record { slot = slot; index = index; members = unwrap_or (committee_at committees slot index) [] }) (range_with_len 0 n)) count_is
      ∙ map_same _ _ 0 (get_committee_count_per_slot state epoch) (λ index zero_low less. duty_is slot index low high (omega (arith, less)))

  -- the table's committees are those of the epoch
  pub table_is : (first : ℕ) → first ≡ epoch * state.preset.slots_per_epoch → flat_map (table_committees committees) (range_with_len first committees.slots) ≡ committee_duties state epoch
  unfolding committee_duties
  table_is first begins =
      ap₂ (λ a n. flat_map (table_committees committees) (range_with_len a n)) begins slots_are
      ∙ flat_same (table_committees committees) (slot_committees state epoch) _ _ slot_is

-- all is told
pub told : (state : PlainState) (epoch end : ℕ) (same : Preset) (duties : Duties) → same ≡ state.preset → checked_mul (epoch + 1) same.slots_per_epoch ≡ done end → current_proposers state epoch ≡ done duties.proposers.items
    → duties.committees ≡ epoch_committees state epoch → ArePublished state epoch duties.committees → duties.first_slot ≡ epoch * same.slots_per_epoch → get_duties state epoch ≡ done (duty_lists duties)
unfolding get_duties duty_lists
told state epoch end same duties is fits proposers exact published begins =
    rw (rw (slots_of same state.preset is) at fits, proposers, table_is state epoch duties.committees exact published duties.first_slot (begins ∙ ap (λ n. epoch * n) (slots_of same state.preset is))) refl
