-- What weighing makes of the end of an epoch, taken apart.
use Rattle.std.proofs.Common.{◌≡◌, ℕ, ◌+◌, ◌*◌, ◌^◌, Bool, true, false, ◌&&◌, ◌||◌, ◌==◌, if◌then◌else◌, nat_lt, leb, List, [], ◌∷◌, refl, sym, subst}
use Rattle.std.proofs.lemmas.Bool.{eqb-true}
use Rattle.bc_words.specs.Outcome.{done, refused, bind, checked_mul}
use Rattle.bc_words.specs.declared.refusal.Refusal.TheVariants.{Overflow}
use Rattle.beacon_types.specs.declared.checkpoint.Checkpoint.{Checkpoint}
use Rattle.spec_blocks.proofs.Done.{on_the_way, same_value}
use Rattle.spec_epochs.specs.declared.justification.Justification.{Justification}
use Rattle.spec_epochs.specs.Weigh.{weigh, reaches_two_thirds, bit, shifted, justified_where, finalized_by, finalizing, previous_of}

pub both_split : (p q : Bool) → (p && q) ≡ true → (p ≡ true) × (q ≡ true)
both_split true true e = (refl, refl)
both_split true false e = absurd (cc)
both_split false q e = absurd (cc)

products : (p q : Bool) (x y : ℕ) (b : Bool) → bind (if p then done x else refused Overflow) (λ thrice. bind (if q then done y else refused Overflow) (λ twice. done (leb twice thrice))) ≡ done b → b ≡ leb y x
products true true x y b e = cc
products true false x y b e = absurd (cc)
products false q x y b e = absurd (cc)

reached : (part total : ℕ) (b : Bool) → reaches_two_thirds part total ≡ done b → b ≡ leb (total * 2) (part * 3)
unfolding reaches_two_thirds checked_mul
reached part total b e = products (nat_lt (part * 3) (2 ^ 64)) (nat_lt (total * 2) (2 ^ 64)) (part * 3) (total * 2) b e

-- the checkpoints that may be justified
abbrev pub previous_point : ℕ → List ℕ → Checkpoint
previous_point epoch root = record { epoch = previous_of epoch; root = root }

abbrev pub current_point : ℕ → List ℕ → Checkpoint
current_point epoch root = record { epoch = epoch; root = root }

-- What weighing made, by whether each of both epochs has enough
pub record Weighed (j : Justification) (epoch : ℕ) (previous_root current_root : List ℕ) (total previous current : ℕ) (after : Justification) : Type 0 where
  pub after_is : after ≡ finalizing (justified_where (leb (total * 2) (current * 3)) (justified_where (leb (total * 2) (previous * 3)) (shifted j) 1 (previous_point epoch previous_root)) 0 (current_point epoch current_root)) epoch j.previous j.current

pub weighed : (j : Justification) (epoch : ℕ) (previous_root current_root : List ℕ) (total previous current : ℕ) (after : Justification) → weigh j epoch previous_root current_root total previous current ≡ done after → Weighed j epoch previous_root current_root total previous current after
unfolding weigh
weighed j epoch previous_root current_root total previous current after e =
    let first = on_the_way (reaches_two_thirds previous total) _ after e in
    let second = on_the_way (reaches_two_thirds current total) _ after first.then_done in
    let p = reached previous total first.value first.first in
    let c = reached current total second.value second.first in
    let is : finalizing (justified_where second.value (justified_where first.value (shifted j) 1 (previous_point epoch previous_root)) 0 (current_point epoch current_root)) epoch j.previous j.current ≡ after = same_value _ _ second.then_done in
    record {
      after_is = sym (subst (λ (x : Bool). finalizing (justified_where x (justified_where (leb (total * 2) (previous * 3)) (shifted j) 1 (previous_point epoch previous_root)) 0 (current_point epoch current_root)) epoch j.previous j.current ≡ after) c
          (subst (λ (x : Bool). finalizing (justified_where second.value (justified_where x (shifted j) 1 (previous_point epoch previous_root)) 0 (current_point epoch current_root)) epoch j.previous j.current ≡ after) p is));
    }

chosen : (P : Checkpoint → Type 0) (t : Bool) (a b : Checkpoint) → (t ≡ true → P a) → P b → P (if t then a else b)
chosen P true a b here there = here refl
chosen P false a b here there = there

-- What holds of each checkpoint that may be finalised holds of the one that is
pub final_is : (P : Checkpoint → Type 0) (bits : List Bool) (epoch : ℕ) (old_previous old_current finalized : Checkpoint)
    → (bit bits 1 ≡ true → bit bits 2 ≡ true → old_previous.epoch + 3 ≡ epoch → P old_previous)
    → (bit bits 1 ≡ true → old_previous.epoch + 2 ≡ epoch → P old_previous)
    → (bit bits 0 ≡ true → bit bits 1 ≡ true → old_current.epoch + 2 ≡ epoch → P old_current)
    → (bit bits 0 ≡ true → old_current.epoch + 1 ≡ epoch → P old_current)
    → P finalized → P (finalized_by bits epoch old_previous old_current finalized)
unfolding finalized_by
final_is P bits epoch old_previous old_current finalized first second third fourth otherwise =
    chosen P _ old_current _
    (λ e.
    let s = both_split (bit bits 0 && bit bits 1) (old_current.epoch + 1 == epoch) e in
    fourth (both_split (bit bits 0) (bit bits 1) s.0).0 (eqb-true _ _ s.1))
    (chosen P _ old_current _
    (λ e.
    let s = both_split (bit bits 0 && bit bits 1 && bit bits 2) (old_current.epoch + 2 == epoch) e in
    let r = both_split (bit bits 0 && bit bits 1) (bit bits 2) s.0 in
    let q = both_split (bit bits 0) (bit bits 1) r.0 in
    third q.0 q.1 (eqb-true _ _ s.1))
    (chosen P _ old_previous _
    (λ e.
    let s = both_split (bit bits 1 && bit bits 2) (old_previous.epoch + 2 == epoch) e in
    second (both_split (bit bits 1) (bit bits 2) s.0).0 (eqb-true _ _ s.1))
    (chosen P _ old_previous _
    (λ e.
    let s = both_split (bit bits 1 && bit bits 2 && bit bits 3) (old_previous.epoch + 3 == epoch) e in
    let r = both_split (bit bits 1 && bit bits 2) (bit bits 3) s.0 in
    let q = both_split (bit bits 1) (bit bits 2) r.0 in
    first q.0 q.1 (eqb-true _ _ s.1))
    otherwise)))

-- bits behind the end of an epoch
pub bits_after : (p c : Bool) (j : Justification) (previous current : Checkpoint) (b0 b1 b2 b3 : Bool) → j.bits ≡ b0 ∷ b1 ∷ b2 ∷ b3 ∷ [] → (justified_where c (justified_where p (shifted j) 1 previous) 0 current).bits ≡ c ∷ (p || b0) ∷ b1 ∷ b2 ∷ []
unfolding justified_where shifted
bits_after true true j previous current b0 b1 b2 b3 e = rw e refl
bits_after true false j previous current b0 b1 b2 b3 e = rw e refl
bits_after false true j previous current b0 b1 b2 b3 e = rw e refl
bits_after false false j previous current b0 b1 b2 b3 e = rw e refl
