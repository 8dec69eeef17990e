-- The best inclusion, taken one after another, is the first of the least delay.
use Rattle.std.proofs.Common.{◌≡◌, Bool, true, false, cond, List, [], ◌∷◌, Option, Some, None, leb, refl, sym, ap, ◌∙◌, arith, inl, inr}
use Rattle.std.specs.Option.{option_map}
use Rattle.std.proofs.lemmas.Bool.{cases_Bool, leb-true, leb-false, le-leb, lt-leb}
use Rattle.beacon_types.specs.declared.pending_attestation.PendingAttestation.{PendingAttestation}
use Rattle.spec_epochs.specs.GetInclusionDelayDeltas.{sooner, first_of_least_delay}
use Rattle.epoch_rewards.specs.declared.inclusions.Inclusion.{Inclusion}
use Rattle.epoch_rewards.specs.inside.Inclusions.{entry_of, better}

-- one that is taken twice is as if taken once
pub idempotent : (entry : Option Inclusion) (new : Inclusion) → better (better entry new) new ≡ better entry new
unfolding better
idempotent None new = ap (λ b. cond b (Some new) (Some new)) (le-leb new.delay new.delay (omega arith))
idempotent (Some kept) new = elim (cases_Bool (leb kept.delay new.delay)) as (λ _. better (better (Some kept) new) new ≡ better (Some kept) new) [
  | inl t ↦ ap (λ b. better (cond b (Some kept) (Some new)) new) t
  | inr f ↦ ap (λ b. better (cond b (Some kept) (Some new)) new) f ∙ ap (λ b. cond b (Some new) (Some new)) (le-leb new.delay new.delay (omega arith)) ∙ sym (ap (λ b. cond b (Some kept) (Some new)) f)
]

-- the best of an entry and the inclusions of some attestations, in order
unfoldable pub all_better : Option Inclusion → List PendingAttestation → Option Inclusion
all_better entry [] = entry
all_better entry (a ∷ attestations) = all_better (better entry (entry_of a)) attestations

-- ---- the best in order is the first of the least delay

better_of : (c x y : Inclusion) → better (better (Some c) x) y ≡ better (Some c) (cond (leb x.delay y.delay) x y)
unfolding better
better_of c x y = elim (cases_Bool (leb c.delay x.delay)) as (λ _. better (better (Some c) x) y ≡ better (Some c) (cond (leb x.delay y.delay) x y)) [
  | inl cx ↦ elim (cases_Bool (leb x.delay y.delay)) as (λ _. better (better (Some c) x) y ≡ better (Some c) (cond (leb x.delay y.delay) x y)) [
    | inl xy ↦
        ap (λ b. better (cond b (Some c) (Some x)) y) cx
        ∙ ap (λ b. cond b (Some c) (Some y)) (le-leb c.delay y.delay (omega (arith, leb-true c.delay x.delay cx, leb-true x.delay y.delay xy)))
        ∙ sym (ap (λ b. better (Some c) (cond b x y)) xy ∙ ap (λ b. cond b (Some c) (Some x)) cx)
    | inr yx ↦ ap (λ b. better (cond b (Some c) (Some x)) y) cx ∙ sym (ap (λ b. better (Some c) (cond b x y)) yx)
  ]
  | inr xc ↦ elim (cases_Bool (leb x.delay y.delay)) as (λ _. better (better (Some c) x) y ≡ better (Some c) (cond (leb x.delay y.delay) x y)) [
    | inl xy ↦
        ap (λ b. better (cond b (Some c) (Some x)) y) xc
        ∙ ap (λ b. cond b (Some x) (Some y)) xy
        ∙ sym (ap (λ b. better (Some c) (cond b x y)) xy ∙ ap (λ b. cond b (Some c) (Some x)) xc)
    | inr yx ↦
        ap (λ b. better (cond b (Some c) (Some x)) y) xc
        ∙ ap (λ b. cond b (Some x) (Some y)) yx
        ∙ sym (ap (λ b. better (Some c) (cond b x y)) yx ∙ ap (λ b. cond b (Some c) (Some y)) (lt-leb c.delay y.delay (omega (arith, leb-false x.delay y.delay yx, leb-false c.delay x.delay xc))))
  ]
]

better_first : (x y : Inclusion) → better (Some x) y ≡ better None (cond (leb x.delay y.delay) x y)
unfolding better
better_first x y = elim (cases_Bool (leb x.delay y.delay)) as (λ _. better (Some x) y ≡ better None (cond (leb x.delay y.delay) x y)) [
  | inl t ↦ ap (λ b. cond b (Some x) (Some y)) t ∙ sym (ap (λ b. better None (cond b x y)) t)
  | inr f ↦ ap (λ b. cond b (Some x) (Some y)) f ∙ sym (ap (λ b. better None (cond b x y)) f)
]

better_twice : (entry : Option Inclusion) (x y : Inclusion) → better (better entry x) y ≡ better entry (cond (leb x.delay y.delay) x y)
unfolding better
better_twice None x y = better_first x y
better_twice (Some c) x y = better_of c x y

-- an entry and the first of the least delay
with_first : Option Inclusion → Option PendingAttestation → Option Inclusion
with_first entry None = entry
with_first entry (Some a) = better entry (entry_of a)

entry_either : (b : Bool) (x y : PendingAttestation) → cond b (entry_of x) (entry_of y) ≡ entry_of (cond b x y)
entry_either true x y = refl
entry_either false x y = refl

one_sooner : (entry : Option Inclusion) (a : PendingAttestation) (first : Option PendingAttestation) → with_first (better entry (entry_of a)) first ≡ with_first entry (Some (sooner a first))
unfolding with_first sooner entry_of
one_sooner entry a None = refl
one_sooner entry a (Some b) = better_twice entry (entry_of a) (entry_of b) ∙ ap (better entry) (entry_either (leb a.inclusion_delay b.inclusion_delay) a b)

all_better_is : (entry : Option Inclusion) (attestations : List PendingAttestation) → all_better entry attestations ≡ with_first entry (first_of_least_delay attestations)
unfolding all_better first_of_least_delay with_first
all_better_is entry [] = refl
all_better_is entry (a ∷ attestations) = all_better_is (better entry (entry_of a)) attestations ∙ one_sooner entry a (first_of_least_delay attestations)

from_none : (first : Option PendingAttestation) → with_first None first ≡ option_map entry_of first
unfolding with_first better
from_none None = refl
from_none (Some a) = refl

pub best_is_first : (attestations : List PendingAttestation) → all_better None attestations ≡ option_map entry_of (first_of_least_delay attestations)
best_is_first attestations = all_better_is None attestations ∙ from_none (first_of_least_delay attestations)
