-- The committees of a slot among all of an epoch are those that its table has for the slot.
use Rattle.std.proofs.Common.{◌≡◌, ◌≢◌, ◌<◌, ◌≤◌, ◌+◌, ℕ, zero, suc, true, false, List, [], ◌∷◌, ◌++◌, map, refl, ap, ap₂, ◌∙◌, inl, inr, append-nil, arith}
use Rattle.std.specs.Prelude.{◌==◌, filter, flat_map}
use Rattle.std.specs.List.{range_with_len}
use Rattle.std.proofs.lemmas.Bool.{cases_lt}
use Rattle.std.proofs.lemmas.Grind.{common_steps}
use Rattle.std.proofs.lemmas.List.Elements.{filter-append}
use Rattle.committees.specs.Committees.{Committees}
use Rattle.duties.specs.Duties.{CommitteeDuty, table_committees, duty_lists}
use Rattle.duties.proofs.Telling.{flat_same}
use Rattle.spec_replay.specs.Duties.{slot_lines}
use Rattle.one_chain.specs.inside.Duties.{table_lines}
use Rattle.duties.specs.declared.duties.Duties.{Duties}
use Rattle.one_chain.proofs.DutyLines.{duty_at}

-- the duties of a slot
abbrev of_slot : ℕ → List CommitteeDuty → List CommitteeDuty
of_slot slot duties = filter (λ duty. duty.slot == slot) duties

its_own : (committees : Committees) (slot : ℕ) (indices : List ℕ) → of_slot slot (map (duty_at committees slot) indices) ≡ map (duty_at committees slot) indices
its_own committees slot [] = refl
its_own committees slot (index ∷ indices) =
    let same : (slot == slot) ≡ true = grind (arith, common_steps) in
    rw same (ap (λ (duties : List CommitteeDuty). duty_at committees slot index ∷ duties) (its_own committees slot indices))

of_others : (committees : Committees) (slot other : ℕ) (indices : List ℕ) → other ≢ slot → of_slot slot (map (duty_at committees other) indices) ≡ []
of_others committees slot other [] differs = refl
of_others committees slot other (index ∷ indices) differs =
    let test : (other == slot) ≡ false = grind (arith, common_steps, differs) in
    rw test (of_others committees slot other indices differs)

-- slots in a row, one of which is this one, or none is
no_slot : (committees : Committees) (slot first n : ℕ) → slot < first → of_slot slot (flat_map (table_committees committees) (range_with_len first n)) ≡ []
no_slot committees slot first zero less = refl
no_slot committees slot first (suc n) less =
    filter-append (λ (duty : CommitteeDuty). duty.slot == slot) (table_committees committees first) (flat_map (table_committees committees) (range_with_len (first + 1) n))
    ∙ ap₂ (λ (x y : List CommitteeDuty). x ++ y) (of_others committees slot first (range_with_len 0 committees.per_slot) (omega (arith, less))) (no_slot committees slot (first + 1) n (omega (arith, less)))

one_slot : (committees : Committees) (slot first n : ℕ) → first ≤ slot → slot < first + n → of_slot slot (flat_map (table_committees committees) (range_with_len first n)) ≡ table_committees committees slot
one_slot committees slot first zero low high = absurd (omega (arith, low, high))
one_slot committees slot first (suc n) low high =
    filter-append (λ (duty : CommitteeDuty). duty.slot == slot) (table_committees committees first) (flat_map (table_committees committees) (range_with_len (first + 1) n))
    ∙ elim (cases_lt first slot) [
      | inl before ↦ ap₂ (λ (x y : List CommitteeDuty). x ++ y) (of_others committees slot first (range_with_len 0 committees.per_slot) (omega (arith, before))) (one_slot committees slot (first + 1) n (omega (arith, before)) (omega (arith, high)))
      | inr here ↦
          let same : first ≡ slot = omega (arith, low, here) in
          rw same (ap₂ (λ (x y : List CommitteeDuty). x ++ y) (its_own committees slot (range_with_len 0 committees.per_slot)) (no_slot committees slot (slot + 1) n (omega arith)) ∙ append-nil (table_committees committees slot))
    ]

-- the lines of the slots of an epoch
lines_of : (duties : Duties) (slot : ℕ) → duties.first_slot ≤ slot → slot < duties.first_slot + duties.committees.slots → slot_lines (duty_lists duties) slot ≡ table_lines duties slot
unfolding slot_lines duty_lists table_lines
lines_of duties slot low high = rw (one_slot duties.committees slot duties.first_slot duties.committees.slots low high) refl

-- the lines of all slots of the epoch
pub all_lines : (duties : Duties) → flat_map (slot_lines (duty_lists duties)) (range_with_len duties.first_slot duties.committees.slots) ≡ flat_map (table_lines duties) (range_with_len duties.first_slot duties.committees.slots)
all_lines duties = flat_same (slot_lines (duty_lists duties)) (table_lines duties) duties.first_slot duties.committees.slots (lines_of duties)
