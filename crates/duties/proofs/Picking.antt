-- The proposers of the slots, one slot after the other.
use Rattle.std.proofs.Common.{◌≡◌, ◌<◌, ◌≤◌, ◌+◌, ◌-◌, ◌*◌, ◌/◌, ℕ, suc, List, [], ◌∷◌, ◌++◌, append_assoc, append-nil, refl, sym, ap, ◌∙◌, arith}
use Rattle.std.proofs.Math.Nat.{div-eq_of_lt-le, suc-mul}
use Rattle.bc_preset.specs.declared.presets.Preset.{Preset}
use Rattle.bc_words.specs.Outcome.{Outcome, bind, done, refused, limited, Stops, StopsExactly}
use Rattle.bc_words.specs.declared.stop.Stop.{Stop}
use Rattle.bc_words.specs.declared.stop.Stop.TheVariants as stops
use Rattle.spec_state.specs.declared.plain.PlainState.{PlainState}
use Rattle.spec_state.specs.Accessors.{get_beacon_proposer_index}
use Rattle.duties.specs.Duties.{at_slot, proposers_from}
use Rattle.duties.specs.declared.proposers.ProposerDuty.{ProposerDuty}

-- the duties in front, and those of so many slots from this one on
abbrev pub with_rest : PlainState → List ProposerDuty → ℕ → ℕ → Outcome (List ProposerDuty)
with_rest state front slot count = bind (proposers_from state slot count) (λ behind. done (front ++ behind))

-- the epoch of a slot of it
pub slot_epoch : (preset same : Preset) (epoch slot : ℕ) → same ≡ preset → epoch * same.slots_per_epoch ≤ slot → slot < (epoch + 1) * same.slots_per_epoch → slot / preset.slots_per_epoch ≡ epoch
slot_epoch preset same epoch slot is low less = ap (λ (p : Preset). slot / p.slots_per_epoch) (sym is) ∙ div-eq_of_lt-le same.slots_per_epoch low less

-- nothing in front
all_to_come : (state : PlainState) (slot count : ℕ) → proposers_from state slot count ≡ with_rest state [] slot count
all_to_come state slot count = same (proposers_from state slot count)
  where
    same : (outcome : Outcome (List ProposerDuty)) → outcome ≡ bind outcome (λ behind. done behind)
    same (done x) = refl
    same (refused why) = refl
    same (limited bound) = refl

-- the epoch's first slot
pub begun : (state : PlainState) (same : Preset) (epoch current : ℕ) → same ≡ state.preset → epoch ≡ current
    → proposers_from state (current * state.preset.slots_per_epoch) state.preset.slots_per_epoch ≡ with_rest state [] (epoch * same.slots_per_epoch) ((epoch + 1) * same.slots_per_epoch - epoch * same.slots_per_epoch)
begun state same epoch current is now =
    let n : ℕ = state.preset.slots_per_epoch in
    let slots : same.slots_per_epoch ≡ n = ap (λ (p : Preset). p.slots_per_epoch) is in
    let whole : (current + 1) * n - current * n ≡ n = omega (arith, suc-mul current n) in
    rw (slots, now, whole) (all_to_come state (current * n) n)

pick_more : (outcome : Outcome (List ProposerDuty)) (front : List ProposerDuty) (duty : ProposerDuty)
    → bind (bind outcome (λ behind. done (duty ∷ behind))) (λ behind. done (front ++ behind)) ≡ bind outcome (λ behind. done ((front ++ duty ∷ []) ++ behind))
pick_more (done x) front duty = ap done (sym (append_assoc front (duty ∷ []) x))
pick_more (refused why) front duty = refl
pick_more (limited bound) front duty = refl

one_less : (slot end : ℕ) → slot < end → end - slot ≡ suc (end - (slot + 1))
one_less slot end less = omega (arith, less)

-- one proposer more
pub picked : (state : PlainState) (front : List ProposerDuty) (slot end validator : ℕ) (whole : Outcome (List ProposerDuty)) → slot < end → get_beacon_proposer_index (at_slot state slot) ≡ done validator
    → whole ≡ with_rest state front slot (end - slot) → whole ≡ with_rest state (front ++ record { slot = slot; validator = validator } ∷ []) (slot + 1) (end - (slot + 1))
unfolding proposers_from
picked state front slot end validator whole less is comes =
    comes ∙ ap (λ n. with_rest state front slot n) (one_less slot end less)
    ∙ ap (λ (o : Outcome ℕ). bind (bind o (λ v. bind (proposers_from state (slot + 1) (end - (slot + 1))) (λ behind. done (record { slot = slot; validator = v } ∷ behind)))) (λ behind. done (front ++ behind))) is
    ∙ pick_more (proposers_from state (slot + 1) (end - (slot + 1))) front (record { slot = slot; validator = validator })

-- a slot has none
pub unpicked : (state : PlainState) (front : List ProposerDuty) (slot end : ℕ) (stop : Stop) (whole : Outcome (List ProposerDuty)) → slot < end → StopsExactly stop (get_beacon_proposer_index (at_slot state slot))
    → whole ≡ with_rest state front slot (end - slot) → Stops stop whole
unfolding proposers_from
unpicked state front slot end (stops.Refused why) whole less is comes = rw (one_less slot end less, is) at comes
unpicked state front slot end (stops.Limit bound) whole less is comes = rw (one_less slot end less, is) at comes
unpicked state front slot end stops.NoMemory whole less is comes = tt

-- no slot is left
pub all_picked : (state : PlainState) (front : List ProposerDuty) (slot end : ℕ) (whole : Outcome (List ProposerDuty)) → end ≤ slot → whole ≡ with_rest state front slot (end - slot) → whole ≡ done front
unfolding proposers_from
all_picked state front slot end whole past comes =
    let none : end - slot ≡ 0 = omega (arith, past) in
    comes ∙ ap (λ n. with_rest state front slot n) none ∙ ap done (append-nil front)
