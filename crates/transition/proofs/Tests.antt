-- The tests are exactly soundness.
use Rattle.std.proofs.Common.{◌≡◌, ℕ, ◌<◌, ◌↔◌, Bool, true, not, ◌&&◌, ◌||◌, nat_eq, List, [], ◌∷◌, length, refl, sym, ap, subst, ◌∙◌, arith, inl, inr}
use Rattle.std.specs.List.{list_all, AllByRecursion}
use Rattle.std.proofs.lemmas.Bool.{and_parts, and_from, ltb-true, leb-true, eqb-true, lt-ltb, le-leb, eq-eqb, or_cases, or_left, or_right, cases_Bool, not-true, both_ways, not_from_false}
use Rattle.bc_preset.specs.Presets.{IsPreset}
use Rattle.beacon_types.specs.declared.pending_attestation.PendingAttestation.{PendingAttestation}
use Rattle.spec_state.specs.declared.plain.PlainState.{PlainState}
use Rattle.spec_state.specs.Misc.{compute_epoch_at_slot}
use Rattle.spec_state.specs.Accessors.{get_current_epoch, get_previous_epoch, get_committee_count_per_slot, get_beacon_committee}
use Rattle.spec_state.specs.inside.EpochCommittees.{epoch_committees}
use Rattle.spec_state.proofs.BeaconCommittees.{count_is_published, committee_is_published}
use Rattle.spec_state.specs.Soundness.{IsSoundPending, IsSoundTo}
use Rattle.transition.specs.inside.Tests.{bits_test, pending_test, figures_test}

bits_are : (s : PlainState) (epoch slot index : ℕ) (bits : List Bool) → IsPreset s.preset → compute_epoch_at_slot s.preset slot ≡ epoch → index < get_committee_count_per_slot s epoch
    → bits_test (epoch_committees s epoch) slot index bits ≡ nat_eq (length (get_beacon_committee s slot index)) (length bits)
bits_are s epoch slot index bits is e h = rw (committee_is_published s epoch slot index is e h) refl

sound_from_test : (s : PlainState) (epoch : ℕ) (a : PendingAttestation) → IsPreset s.preset → pending_test (epoch_committees s epoch) s epoch a ≡ true → IsSoundPending s epoch a
sound_from_test s epoch a is h =
    let p1 = and_parts _ _ h in
    let p2 = and_parts _ _ p1.1 in
    let p3 = and_parts _ _ p2.1 in
    let p4 = and_parts _ _ p3.1 in
    let p5 = and_parts _ _ p4.1 in
    let p6 = and_parts _ _ p5.1 in
    let epoch_is : compute_epoch_at_slot s.preset a.content.slot ≡ epoch = eqb-true _ _ p1.0 in
    let index : a.content.index < get_committee_count_per_slot s epoch = subst (λ n. a.content.index < n) (count_is_published s epoch) (ltb-true _ _ p4.0) in
    let count = eqb-true _ _ (sym (bits_are s epoch a.content.slot a.content.index a.aggregation_bits is epoch_is index) ∙ p5.0) in
    record {
      slot_epoch = epoch_is;
      earlier = ltb-true _ _ p2.0;
      target = eqb-true _ _ p3.0;
      index = index;
      bits = sym count;
      delay = leb-true _ _ p6.0;
      proposer = ltb-true _ _ p6.1;
    }

test_from_sound : (s : PlainState) (epoch : ℕ) (a : PendingAttestation) → IsPreset s.preset → IsSoundPending s epoch a → pending_test (epoch_committees s epoch) s epoch a ≡ true
test_from_sound s epoch a is sound =
    and_from _ _ (eq-eqb _ _ sound.slot_epoch) (and_from _ _ (lt-ltb _ _ sound.earlier) (and_from _ _ (eq-eqb _ _ sound.target)
    (and_from _ _ (lt-ltb _ _ (subst (λ n. a.content.index < n) (sym (count_is_published s epoch)) sound.index))
    (and_from _ _ (bits_are s epoch a.content.slot a.content.index a.aggregation_bits is sound.slot_epoch sound.index ∙ eq-eqb _ _ (sym sound.bits))
    (and_from _ _ (le-leb _ _ sound.delay) (lt-ltb _ _ sound.proposer))))))

all_from_test : (s : PlainState) (epoch : ℕ) (items : List PendingAttestation) → IsPreset s.preset → list_all (pending_test (epoch_committees s epoch) s epoch) items ≡ true → AllByRecursion (IsSoundPending s epoch) items
all_from_test s epoch [] is h = tt
all_from_test s epoch (a ∷ items) is h = let p = and_parts _ _ h in (sound_from_test s epoch a is p.0, all_from_test s epoch items is p.1)

test_from_all : (s : PlainState) (epoch : ℕ) (items : List PendingAttestation) → IsPreset s.preset → AllByRecursion (IsSoundPending s epoch) items → list_all (pending_test (epoch_committees s epoch) s epoch) items ≡ true
test_from_all s epoch [] is all = refl
test_from_all s epoch (a ∷ items) is all = and_from _ _ (test_from_sound s epoch a is all.0) (test_from_all s epoch items is all.1)

pub empty_is : {X : Type 0} (xs : List X) → length xs ≡ 0 → xs ≡ []
empty_is [] h = refl
empty_is (x ∷ xs) h = absurd (omega arith)

none_from : {X : Type 0} (epoch : ℕ) (xs : List X) → (not (nat_eq epoch 0) || nat_eq (length xs) 0) ≡ true → epoch ≡ 0 → xs ≡ []
none_from epoch xs h zero_is = elim (or_cases _ _ h) [
  | inl later ↦ absurd (both_ways (nat_eq epoch 0) (not-true _ later) (eq-eqb _ _ zero_is))
  | inr none ↦ empty_is xs (eqb-true _ _ none)
]

from_none : {X : Type 0} (epoch : ℕ) (xs : List X) → (epoch ≡ 0 → xs ≡ []) → (not (nat_eq epoch 0) || nat_eq (length xs) 0) ≡ true
from_none epoch xs h = elim (cases_Bool (nat_eq epoch 0)) [
  | inl first ↦ or_right _ _ (eq-eqb _ _ (ap length (h (eqb-true _ _ first))))
  | inr later ↦ or_left _ _ (not_from_false _ later)
]

-- the tests of a state hold exactly where it is sound
pub sound_exactly : (justified : ℕ) (s : PlainState) → IsPreset s.preset → ((figures_test justified s && (list_all (pending_test (epoch_committees s (get_previous_epoch s)) s (get_previous_epoch s)) s.previous_epoch_attestations
    && list_all (pending_test (epoch_committees s (get_current_epoch s)) s (get_current_epoch s)) s.current_epoch_attestations)) ≡ true) ↔ IsSoundTo justified s
sound_exactly justified s is = (
  λ h.
      let p1 = and_parts _ _ h in
      let lists = and_parts _ _ p1.1 in
      let f1 = and_parts _ _ p1.0 in
      let f2 = and_parts _ _ f1.1 in
      let f3 = and_parts _ _ f2.1 in
      let epochs = and_parts _ _ f3.0 in
      let f4 = and_parts _ _ f3.1 in
      record {
        balances = eqb-true _ _ f1.0;
        header = leb-true _ _ f2.0;
        previous_justified = leb-true _ _ epochs.0;
        current_justified = leb-true _ _ epochs.1;
        finalized = leb-true _ _ f4.0;
        previous_attestations = all_from_test s _ _ is lists.0;
        current_attestations = all_from_test s _ _ is lists.1;
        none_before = none_from _ _ f4.1;
      },
  λ sound.
      and_from _ _
      (and_from _ _ (eq-eqb _ _ sound.balances) (and_from _ _ (le-leb _ _ sound.header)
      (and_from _ _ (and_from _ _ (le-leb _ _ sound.previous_justified) (le-leb _ _ sound.current_justified))
      (and_from _ _ (le-leb _ _ sound.finalized) (from_none _ _ sound.none_before)))))
      (and_from _ _ (test_from_all s _ _ is sound.previous_attestations) (test_from_all s _ _ is sound.current_attestations)),
)
