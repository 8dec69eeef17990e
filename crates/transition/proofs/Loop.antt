-- Testing each attestation of a list, one after another.
use Rattle.std.proofs.Common.{◌≡◌, ◌<◌, ◌≤◌, ◌+◌, ◌&&◌, ℕ, zero, suc, Bool, true, false, List, [], ◌∷◌, length, drop, refl, sym, ap, ◌∙◌, arith}
use Rattle.std.specs.List.{list_all}
use Rattle.beacon_types.specs.declared.pending_attestation.PendingAttestation.{PendingAttestation}
use Rattle.transition.specs.inside.Tests.{passes_at}

-- the test of all from a place on, by that of the first of them
from : (test : PendingAttestation → Bool) (items : List PendingAttestation) (i : ℕ) → i < length items → list_all test (drop i items) ≡ (passes_at test items i && list_all test (drop (suc i) items))
from test [] i h = absurd (omega arith)
from test (a ∷ items) zero h = refl
from test (a ∷ items) (suc i) h = from test items i (omega arith)

next : (test : PendingAttestation → Bool) (items : List PendingAttestation) (i : ℕ) → drop (suc i) items ≡ drop (i + 1) items
next test items i = let e : suc i ≡ i + 1 = omega arith in ap (λ k. drop k items) e

pub all_begin : (test : PendingAttestation → Bool) (items : List PendingAttestation) → list_all test (drop 0 items) ≡ list_all test items
all_begin test items = refl

pub one_fails : (test : PendingAttestation → Bool) (items : List PendingAttestation) (i : ℕ) → i < length items → passes_at test items i ≡ false → list_all test (drop i items) ≡ false
one_fails test items i h fails = from test items i h ∙ ap (λ b. b && list_all test (drop (suc i) items)) fails

pub one_passes : (test : PendingAttestation → Bool) (items : List PendingAttestation) (i : ℕ) → i < length items → passes_at test items i ≡ true → list_all test (drop (i + 1) items) ≡ list_all test (drop i items)
one_passes test items i h passes = sym (from test items i h ∙ ap (λ b. b && list_all test (drop (suc i) items)) passes ∙ ap (list_all test) (next test items i))

pub all_passed : (test : PendingAttestation → Bool) (items : List PendingAttestation) (i : ℕ) → length items ≤ i → list_all test (drop i items) ≡ true
all_passed test [] zero h = refl
all_passed test [] (suc i) h = refl
all_passed test (a ∷ items) zero h = absurd (omega arith)
all_passed test (a ∷ items) (suc i) h = all_passed test items i (omega arith)
