-- The test of soundness is true exactly of the sound states.
use Rattle.std.proofs.Common.{◌≡◌, ◌↔◌, ℕ, Bool, true, false, IsTrue, not, ◌||◌, List, [], ◌∷◌, length, refl, ap, arith, inl, inr}
use Rattle.std.specs.Prelude.{◌==◌}
use Rattle.std.specs.List.{list_all, AllByRecursion}
use Rattle.std.proofs.lemmas.Bool.{and_parts, and_from, ltb-true, leb-true, eqb-true, lt-ltb, le-leb, eq-eqb, or_cases, or_left, or_right, cases_Bool, not-true, both_ways, not_from_false}
use Rattle.beacon_types.specs.declared.pending_attestation.PendingAttestation.{PendingAttestation}
use Rattle.spec_state.specs.declared.plain.PlainState.{PlainState}
use Rattle.spec_state.specs.Soundness.{IsSoundPending, IsSound}
use Rattle.spec_fork_choice.specs.Soundness.{is_sound, is_sound_pending}

pending_from : (s : PlainState) (epoch : ℕ) (a : PendingAttestation) → is_sound_pending s epoch a ≡ true → IsSoundPending s epoch a
unfolding is_sound_pending
pending_from s epoch a h =
    let p1 = and_parts _ _ h in
    let p2 = and_parts _ _ p1.1 in
    let p3 = and_parts _ _ p2.1 in
    let p4 = and_parts _ _ p3.1 in
    let p5 = and_parts _ _ p4.1 in
    let p6 = and_parts _ _ p5.1 in
    record {
      slot_epoch = eqb-true _ _ p1.0;
      earlier = ltb-true _ _ p2.0;
      target = eqb-true _ _ p3.0;
      index = ltb-true _ _ p4.0;
      bits = eqb-true _ _ p5.0;
      delay = leb-true _ _ p6.0;
      proposer = ltb-true _ _ p6.1;
    }

from_pending : (s : PlainState) (epoch : ℕ) (a : PendingAttestation) → IsSoundPending s epoch a → is_sound_pending s epoch a ≡ true
unfolding is_sound_pending
from_pending s epoch a h =
    and_from _ _ (eq-eqb _ _ h.slot_epoch) (and_from _ _ (lt-ltb _ _ h.earlier) (and_from _ _ (eq-eqb _ _ h.target) (and_from _ _ (lt-ltb _ _ h.index)
    (and_from _ _ (eq-eqb _ _ h.bits) (and_from _ _ (le-leb _ _ h.delay) (lt-ltb _ _ h.proposer))))))

all_from : (s : PlainState) (epoch : ℕ) (items : List PendingAttestation) → list_all (is_sound_pending s epoch) items ≡ true → AllByRecursion (IsSoundPending s epoch) items
all_from s epoch [] h = tt
all_from s epoch (a ∷ items) h = let p = and_parts _ _ h in (pending_from s epoch a p.0, all_from s epoch items p.1)

from_all : (s : PlainState) (epoch : ℕ) (items : List PendingAttestation) → AllByRecursion (IsSoundPending s epoch) items → list_all (is_sound_pending s epoch) items ≡ true
from_all s epoch [] h = refl
from_all s epoch (a ∷ items) h = and_from _ _ (from_pending s epoch a h.0) (from_all s epoch items h.1)

empty_is : {X : Type 0} (xs : List X) → length xs ≡ 0 → xs ≡ []
empty_is [] h = refl
empty_is (x ∷ xs) h = absurd (omega arith)

none_from : {X : Type 0} (epoch : ℕ) (xs : List X) → (not (epoch == 0) || (length xs == 0)) ≡ true → epoch ≡ 0 → xs ≡ []
none_from epoch xs h zero_is = elim (or_cases _ _ h) [
  | inl later ↦ absurd (both_ways (epoch == 0) (not-true _ later) (eq-eqb _ _ zero_is))
  | inr none ↦ empty_is xs (eqb-true _ _ none)
]

from_none : {X : Type 0} (epoch : ℕ) (xs : List X) → (epoch ≡ 0 → xs ≡ []) → (not (epoch == 0) || (length xs == 0)) ≡ true
from_none epoch xs h = elim (cases_Bool (epoch == 0)) [
  | inl first ↦ or_right _ _ (eq-eqb _ _ (ap length (h (eqb-true _ _ first))))
  | inr later ↦ or_left _ _ (not_from_false _ later)
]

pub soundness_is_tested : (s : PlainState) → (is_sound s ≡ true) ↔ IsSound s
unfolding is_sound
soundness_is_tested s = (
  λ h.
      let p1 = and_parts _ _ h in
      let p2 = and_parts _ _ p1.1 in
      let p3 = and_parts _ _ p2.1 in
      let p4 = and_parts _ _ p3.1 in
      let p5 = and_parts _ _ p4.1 in
      let p6 = and_parts _ _ p5.1 in
      let p7 = and_parts _ _ p6.1 in
      record {
        balances = eqb-true _ _ p1.0;
        header = leb-true _ _ p2.0;
        previous_justified = leb-true _ _ p3.0;
        current_justified = leb-true _ _ p4.0;
        finalized = leb-true _ _ p5.0;
        previous_attestations = all_from s _ _ p6.0;
        current_attestations = all_from s _ _ p7.0;
        none_before = none_from _ _ p7.1;
      },
  λ sound.
      and_from _ _ (eq-eqb _ _ sound.balances) (and_from _ _ (le-leb _ _ sound.header) (and_from _ _ (le-leb _ _ sound.previous_justified)
      (and_from _ _ (le-leb _ _ sound.current_justified) (and_from _ _ (le-leb _ _ sound.finalized) (and_from _ _ (from_all s _ _ sound.previous_attestations)
      (and_from _ _ (from_all s _ _ sound.current_attestations) (from_none _ _ sound.none_before))))))),
)

-- the code's test of soundness
pub tested : (s : PlainState) (sound : Bool) → IsTrue sound ↔ IsSound s → is_sound s ≡ sound
tested s true h = (soundness_is_tested s).1 (h.0 refl)
tested s false h = elim (cases_Bool (is_sound s)) [
  | inl sound ↦ absurd (let no : false ≡ true = h.1 ((soundness_is_tested s).0 sound) in cc)
  | inr unsound ↦ unsound
]
