-- Where no common validator of an operation is slashable, a block's step with it is refused for that.
use Rattle.std.proofs.Common.{◌≡◌, ◌∙◌, ℕ, zero, suc, ◌<◌, inl, inr, Bool, true, false, if◌then◌else◌, ◌==◌, List, [], ◌∷◌, length, refl, ap, subst, arith}
use Rattle.std.specs.List.{filter, list_any}
use Rattle.std.proofs.lemmas.Bool.{eqb-true}
use Rattle.bc_words.specs.Outcome.{Outcome, done, refused, bind}
use Rattle.bc_words.specs.declared.refusal.Refusal.TheVariants.{AsData, AsNone}
use Rattle.bc_preset.specs.declared.configuration.ConfigValues.{ConfigValues}
use Rattle.beacon_types.specs.Slashable.{is_slashable_attestation_data}
use Rattle.beacon_types.specs.declared.validator.Validator.{Validator}
use Rattle.beacon_types.specs.declared.attester_slashing.AttesterSlashing.{AttesterSlashing}
use Rattle.spec_state.specs.declared.plain.PlainState.{PlainState}
use Rattle.spec_state.specs.Predicates.{is_slashable_validator}
use Rattle.spec_state.specs.Accessors.{get_current_epoch}
use Rattle.spec_blocks.specs.Checks.{check, item_at, each_of}
use Rattle.spec_blocks.specs.IsValidIndexedAttestation.{is_valid_indexed_attestation}
use Rattle.spec_blocks.specs.ProcessAttesterSlashing.{process_attester_slashing, Slashed, slash_one, slash_slashable, in_both}
use Rattle.ffg_law.specs.Links.{IsOneOf}
use Rattle.spec_slasher.specs.Accepts.{IsHeld, IsSlashable, HasNoSlashable}
use Rattle.spec_slasher.proofs.Lists.{contained, of_filter, of_any}
use Rattle.spec_slasher.proofs.Accepts.{IsRight, check_done, first_below, first_valid, second_valid}

record Item {A : Type 0} (xs : List A) (i : ℕ) : Type 0 where
  value : A
  is : item_at xs i ≡ done value

item_of : {A : Type 0} (xs : List A) (i : ℕ) → i < length xs → Item xs i
item_of [] i low = absurd (omega (arith, low))
item_of (x ∷ xs) zero low = record { value = x; is = refl }
item_of (x ∷ xs) (suc i) low = let r = item_of xs i (omega (arith, low)) in record { value = r.value; is = r.is }

not_true : (b : Bool) → (b ≡ true → ⊥) → b ≡ false
not_true true none = absurd (none refl)
not_true false none = refl

abbrev IsNot : PlainState → ℕ → Type 0
IsNot s index = (v : Validator) → item_at s.validators index ≡ done v → is_slashable_validator v (get_current_epoch s) ≡ false

is_not : (s : PlainState) (index : ℕ) → (IsSlashable s index → ⊥) → IsNot s index
is_not s index none v found = not_true (is_slashable_validator v (get_current_epoch s)) (λ is. none (record { validator = v; found = found; slashable = is }))

module _ (proposer : ℕ) (config : ConfigValues) where
  step_none : (s : Slashed) (i : ℕ) → i < length s.state.validators → IsNot s.state i → slash_slashable proposer config s i ≡ done s
  unfolding slash_slashable
  step_none s i low is_not =
      let v = item_of s.state.validators i low in
      ap (λ (o : Outcome Validator). bind o (λ validator. if is_slashable_validator validator (get_current_epoch s.state) then slash_one proposer config s.state i else done s)) v.is
      ∙ ap (λ (b : Bool). if b then slash_one proposer config s.state i else done s) (is_not v.value v.is)

  each_none : (indices : List ℕ) (s : Slashed) → ((i : ℕ) → IsOneOf i indices → (i < length s.state.validators) × IsNot s.state i) → each_of (slash_slashable proposer config) s indices ≡ done s
  unfolding each_of
  each_none [] s none = refl
  each_none (i ∷ indices) s none =
      let first = none i (inl refl) in
      ap (λ (o : Outcome Slashed). bind o (λ next. each_of (slash_slashable proposer config) next indices)) (step_none s i first.0 first.1)
      ∙ each_none indices s (λ k h. none k (inr h))

  pub right_none : (s : PlainState) (o : AttesterSlashing) → IsRight o → IsHeld s o → HasNoSlashable s o → process_attester_slashing s o proposer config ≡ refused AsNone
  unfolding process_attester_slashing in_both
  right_none s o right held none =
      let test : ℕ → Bool = λ (index : ℕ). list_any (λ other. other == index) o.attestation_2.attesting_indices in
      let indices : List ℕ = filter test o.attestation_1.attesting_indices in
      let start : Slashed = record { state = s; slashed_any = false } in
      let end : Slashed → Outcome PlainState = λ (t : Slashed). bind (check t.slashed_any AsNone) (λ _. done t.state) in
      let each : Outcome Slashed = each_of (slash_slashable proposer config) start indices in
      let is_none = each_none indices start (λ i h.
      let f = of_filter test i o.attestation_1.attesting_indices h in
      let it = of_any (λ (other : ℕ). other == i) o.attestation_2.attesting_indices f.1 in
      (first_below s o held i f.0, is_not s i (none i (record { first = contained _ i f.0; second = contained _ i (subst (λ (k : ℕ). IsOneOf k o.attestation_2.attesting_indices) (eqb-true it.at i it.passes) it.listed) })))) in
      ap (λ (c : Outcome (Unit {0})). bind c (λ _. bind (is_valid_indexed_attestation s o.attestation_1) (λ _. bind (is_valid_indexed_attestation s o.attestation_2) (λ _. bind each end))))
      (check_done (is_slashable_attestation_data o.attestation_1.content o.attestation_2.content) AsData right.slashable)
      ∙ (ap (λ (c : Outcome (Unit {0})). bind c (λ _. bind (is_valid_indexed_attestation s o.attestation_2) (λ _. bind each end))) (first_valid s o right held)
      ∙ (ap (λ (c : Outcome (Unit {0})). bind c (λ _. bind each end)) (second_valid s o right held)
      ∙ ap (λ (e : Outcome Slashed). bind e end) is_none))
