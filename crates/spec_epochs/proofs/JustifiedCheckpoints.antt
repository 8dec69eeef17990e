-- What holds of the checkpoints that an epoch may justify holds of the justified one behind weighing.
use Rattle.std.proofs.Common.{◌≡◌, ℕ, ◌+◌, ◌-◌, ◌<◌, ◌≤◌, Bool, ◌&&◌, ◌==◌, if◌then◌else◌, List, refl, subst, arith, inl, inr}
use Rattle.bc_words.specs.Outcome.{done}
use Rattle.beacon_types.specs.declared.checkpoint.Checkpoint.{Checkpoint}
use Rattle.spec_blocks.proofs.Done.{on_the_way, chosen, same_value}
use Rattle.spec_epochs.specs.declared.justification.Justification.{Justification}
use Rattle.spec_epochs.specs.Weigh.{weigh, reaches_two_thirds, shifted, bit, justified, justified_where, finalizing, finalized_by, previous_of}

-- The justified checkpoint has a property unless its epoch is at most the first one, and then those of the two others are too
pub record Holds (first : ℕ) (P : Checkpoint → Type 0) (j : Justification) : Type 0 where
  pub current : first < j.current.epoch → P j.current
  pub previous : j.current.epoch ≤ first → j.previous.epoch ≤ first
  pub finalized : j.current.epoch ≤ first → j.finalized.epoch ≤ first

-- the same, where the justified epoch is at most another one, and is at most the first one only if it was so before
record HoldsSince (first most : ℕ) (P : Checkpoint → Type 0) (before : Checkpoint) (j : Justification) : Type 0 where
  holds : Holds first P j
  low : j.current.epoch ≤ most
  since : j.current.epoch ≤ first → before.epoch ≤ first

one_of : (P : Checkpoint → Type 0) (first : Bool) (x y : Checkpoint) → P x → P y → P (if first then x else y)
one_of P first x y px py = elim (chosen first x y _ refl) [
  | inl takes ↦ subst P takes.1 px
  | inr leaves ↦ subst P leaves.1 py
]

-- what is finalised was justified before, or is as before
pub finalized_is : (P : Checkpoint → Type 0) (bits : List Bool) (epoch : ℕ) (old_previous old_current finalized : Checkpoint) → P old_previous → P old_current
    → P finalized → P (finalized_by bits epoch old_previous old_current finalized)
unfolding finalized_by
finalized_is P bits epoch old_previous old_current finalized a b c =
    let one : Bool = bit bits 1 && bit bits 2 && bit bits 3 && (old_previous.epoch + 3 == epoch) in
    let two : Bool = bit bits 1 && bit bits 2 && (old_previous.epoch + 2 == epoch) in
    let three : Bool = bit bits 0 && bit bits 1 && bit bits 2 && (old_current.epoch + 2 == epoch) in
    let four : Bool = bit bits 0 && bit bits 1 && (old_current.epoch + 1 == epoch) in
    let first : Checkpoint = if one then old_previous else finalized in
    let second : Checkpoint = if two then old_previous else first in
    let third : Checkpoint = if three then old_current else second in
    one_of P four old_current third b (one_of P three old_current second b (one_of P two old_previous first a (one_of P one old_previous finalized a c)))

justified_holds : (first most : ℕ) (P : Checkpoint → Type 0) (before : Checkpoint) (enough : Bool) (j : Justification) (back : ℕ) (checkpoint : Checkpoint)
    → most ≤ checkpoint.epoch → (first < checkpoint.epoch → P checkpoint) → HoldsSince first most P before j
    → HoldsSince first checkpoint.epoch P before (justified_where enough j back checkpoint)
unfolding justified_where
justified_holds first most P before enough j back checkpoint later is holds = elim (chosen enough (justified j back checkpoint) j _ refl) [
  | inl takes ↦ subst (HoldsSince first checkpoint.epoch P before) takes.1 (record {
    holds = record {
      current = is;
      previous = λ none. holds.holds.previous (omega (arith, holds.low, later, none));
      finalized = λ none. holds.holds.finalized (omega (arith, holds.low, later, none));
    };
    low = omega arith;
    since = λ none. holds.since (omega (arith, holds.low, later, none));
  })
  | inr leaves ↦ subst (HoldsSince first checkpoint.epoch P before) leaves.1 (record { holds = holds.holds; low = omega (arith, holds.low, later); since = holds.since })
]

-- So it stays behind weighing, where the justified epoch was before the current one
pub weighed_holds : (first : ℕ) (P : Checkpoint → Type 0) (j k : Justification) (epoch : ℕ) (previous_root current_root : List ℕ) (total previous current : ℕ)
    → weigh j epoch previous_root current_root total previous current ≡ done k → j.current.epoch ≤ epoch - 1
    → (first < epoch - 1 → P (record { epoch = epoch - 1; root = previous_root })) → (first < epoch → P (record { epoch = epoch; root = current_root }))
    → Holds first P j → Holds first P k
unfolding weigh finalizing shifted
weighed_holds first P j k epoch previous_root current_root total previous current is low one_is other_is before =
    let one = on_the_way (reaches_two_thirds previous total) _ k is in
    let other = on_the_way (reaches_two_thirds current total) _ k one.then_done in
    let start : HoldsSince first (epoch - 1) P j.current (shifted j) = record {
      holds = record { current = before.current; previous = λ none. none; finalized = before.finalized };
      low = low;
      since = λ none. none;
    } in
    let after_previous = justified_holds first (epoch - 1) P j.current one.value (shifted j) 1 (record { epoch = previous_of epoch; root = previous_root })
    (omega arith) one_is start in
    let after_current = justified_holds first (epoch - 1) P j.current other.value _ 0 (record { epoch = epoch; root = current_root }) (omega arith) other_is
    after_previous in
    subst (Holds first P) (same_value _ k other.then_done) (record {
      current = after_current.holds.current;
      previous = after_current.holds.previous;
      finalized = λ none. finalized_is (λ (c : Checkpoint). c.epoch ≤ first) _ epoch j.previous j.current _ (before.previous (after_current.since none))
          (after_current.since none) (after_current.holds.finalized none);
    })
