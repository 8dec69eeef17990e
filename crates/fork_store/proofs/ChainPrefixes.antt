-- A state that was taken on to a slot can be taken on to each slot before it, and meets no limit there.
use Rattle.std.proofs.Common.{◌≡◌, ◌∙◌, ℕ, zero, suc, ◌+◌, ◌-◌, ◌<◌, ◌≤◌, Bool, true, false, not, nat_lt, [], if◌then◌else◌, refl, ap, subst, arith, inl, inr}
use Rattle.std.proofs.lemmas.Bool.{false≢true, ltb-true, not-false, ltb-false, lt-ltb, le-ltb}
use Rattle.bc_words.specs.Outcome.{Outcome, done, refused, limited, bind, each_from}
use Rattle.bc_preset.specs.declared.configuration.ConfigValues.{ConfigValues}
use Rattle.spec_state.specs.declared.plain.PlainState.{PlainState}
use Rattle.spec_state.specs.Constants.{max_slots}
use Rattle.spec_blocks.proofs.Done.{on_the_way, chosen}
use Rattle.spec_transition.specs.ProcessSlots.{Stepped, next_slot, process_slots}
use Rattle.fork_store.specs.Done.{IsDone}

-- the first of some steps
first_steps : {S : Type 0} (step : ℕ → S → Outcome S) (m n i : ℕ) (s t : S) → each_from step (m + n) i s ≡ done t → IsDone (each_from step m i s)
unfolding each_from
first_steps step zero n i s t is = record { value = s; is = refl }
first_steps {S} step (suc m) n i s t is =
    let more : suc m + n ≡ suc (m + n) = omega arith in
    let all : each_from step (suc (m + n)) i s ≡ done t = subst (λ (k : ℕ). each_from step k i s ≡ done t) more is in
    let one = on_the_way (step i s) _ t all in
    let rest = first_steps step m n (i + 1) one.value t one.then_done in
    record { value = rest.value; is = ap (λ (o : Outcome S). bind o (λ next. each_from step m (i + 1) next)) one.first ∙ rest.is }

abbrev pub is_done : {A : Type 0} → Outcome A → Bool
is_done (done x) = true
is_done (refused why) = false
is_done (limited bound) = false

-- slots that are passed: they are later, and few
pub record Passes (s : PlainState) (slot : ℕ) (config : ConfigValues) (t : Stepped) : Type 0 where
  pub later : s.slot < slot
  pub few : slot - s.slot ≤ max_slots
  pub steps : each_from (λ index. next_slot config) (slot - s.slot) s.slot (record { state = s; entered = [] }) ≡ done t

pub passes : (s : PlainState) (slot : ℕ) (config : ConfigValues) (t : Stepped) → process_slots s slot config ≡ done t → Passes s slot config t
unfolding process_slots
passes s slot config t is = elim (chosen (not (nat_lt s.slot slot)) _ _ _ is) [
  | inl behind ↦ absurd (false≢true (ap is_done behind.1))
  | inr later ↦ elim (chosen (nat_lt max_slots (slot - s.slot)) _ _ _ later.1) [
    | inl many ↦ absurd (false≢true (ap is_done many.1))
    | inr few ↦ record { later = ltb-true s.slot slot (not-false _ later.0); few = ltb-false max_slots (slot - s.slot) few.0; steps = few.1 }
  ]
]

third : {A : Type 0} (later many : Bool) (x y z : A) → later ≡ true → many ≡ false → (if not later then x else if many then y else z) ≡ z
third true false x y z later few = refl
third true true x y z later few = absurd cc
third false many x y z later few = absurd cc

runs : (s : PlainState) (slot : ℕ) (config : ConfigValues) → s.slot < slot → slot - s.slot ≤ max_slots
    → process_slots s slot config ≡ each_from (λ index. next_slot config) (slot - s.slot) s.slot (record { state = s; entered = [] })
unfolding process_slots
runs s slot config later few = third (nat_lt s.slot slot) (nat_lt max_slots (slot - s.slot)) _ _ _ (lt-ltb s.slot slot later)
    (le-ltb max_slots (slot - s.slot) few)

-- process_slots
pub passes_before : (s : PlainState) (slot before : ℕ) (config : ConfigValues) (t : Stepped) → process_slots s slot config ≡ done t → s.slot < before
    → before ≤ slot → IsDone (process_slots s before config)
passes_before s slot before config t is later less =
    let all = passes s slot config t is in
    let count : slot - s.slot ≡ (before - s.slot) + (slot - before) = omega arith in
    let steps = subst (λ (k : ℕ). each_from (λ index. next_slot config) k s.slot (record { state = s; entered = [] }) ≡ done t) count all.steps in
    let first = first_steps (λ index. next_slot config) (before - s.slot) (slot - before) s.slot (record { state = s; entered = [] }) t steps in
    record { value = first.value; is = runs s before config later (omega (arith, all.few)) ∙ first.is }
