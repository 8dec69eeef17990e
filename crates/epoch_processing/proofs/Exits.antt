-- The queue of those who leave, before and after one validator of the registry changes.
use Rattle.std.proofs.Common.{◌≡◌, ◌⊎◌, ◌∙◌, ℕ, zero, suc, ◌+◌, ◌/◌, ◌<◌, ◌≤◌, ◌^◌, max, Bool, true, false, cond, not, ◌&&◌, ◌==◌, nat_lt, leb, if◌then◌else◌, List, [], ◌∷◌, ◌++◌, length, Option, Some, None, slice_get, slice_set, refl, sym, ap, ap₂, subst, inl, inr, arith}
use Rattle.std.proofs.lemmas.Bool.{eq-eqb, ne_eqb, eqb-true, eqb-false, ltb-true, lt-ltb, false≢true}
use Rattle.std.proofs.lemmas.List.Sums.{sum_by-cons, count_by-le-length}
use Rattle.bc_words.specs.Outcome.{Outcome, done, refused, limited, bind, checked_add}
use Rattle.bc_words.specs.declared.refusal.Refusal.{Refusal}
use Rattle.bc_preset.specs.declared.presets.Preset.{Preset}
use Rattle.bc_preset.specs.declared.configuration.ConfigValues.{ConfigValues}
use Rattle.beacon_types.specs.declared.validator.Validator.{Validator}
use Rattle.spec_state.specs.declared.plain.PlainState.{PlainState}
use Rattle.spec_state.specs.Constants.{far_future_epoch}
use Rattle.spec_state.specs.Misc.{compute_activation_exit_epoch}
use Rattle.spec_state.specs.Predicates.{is_active_validator, is_eligible_for_activation_queue}
use Rattle.spec_state.specs.Accessors.{get_current_epoch, get_active_validator_indices, get_validator_churn_limit}
use Rattle.spec_blocks.specs.InitiateValidatorExit.{exit_epochs, greatest, exit_queue_churn, exit_queue_epoch}
use Rattle.spec_blocks.proofs.Done.{on_the_way, chosen, same_value, sum_is}
use Rattle.spec_blocks.proofs.Sound.{indices_of_changed}
use Rattle.spec_epochs.specs.ProcessRegistryUpdates.{with_eligibility}
use Rattle.block_operations.specs.inside.Queue.{queue_end}
use Rattle.epoch_processing.specs.declared.ejections.ExitQueue.{ExitQueue}
use Rattle.epoch_processing.specs.inside.Exits.{earliest_exit, next_exit, lengthened, with_exit, IsExitQueue, IsKept}

abbrev validator_or : Validator → Option Validator → Validator
validator_or v None = v
validator_or v (Some w) = w

-- ---- how many leave at an epoch

abbrev leaves : ℕ → Validator → ℕ
leaves epoch v = cond (v.exit_epoch == epoch) 1 0

churn_opens : (v : Validator) (vs : List Validator) (epoch : ℕ) → exit_queue_churn (v ∷ vs) epoch ≡ leaves epoch v + exit_queue_churn vs epoch
unfolding exit_queue_churn
churn_opens v vs epoch = sum_by-cons (leaves epoch) v vs

-- one validator changes
churn_of_changed : (vs : List Validator) (index epoch : ℕ) (old new : Validator) → slice_get vs index ≡ Some old
    → exit_queue_churn (slice_set vs index new) epoch + leaves epoch old ≡ exit_queue_churn vs epoch + leaves epoch new
churn_of_changed [] index epoch old new is = absurd cc
churn_of_changed (v ∷ vs) zero epoch old new is =
    let same : leaves epoch v ≡ leaves epoch old = ap (λ (o : Option Validator). leaves epoch (validator_or v o)) is in
    omega (arith, churn_opens v vs epoch, churn_opens new vs epoch, same)
churn_of_changed (v ∷ vs) (suc index) epoch old new is =
    omega (arith, churn_opens v vs epoch, churn_opens v (slice_set vs index new) epoch, churn_of_changed vs index epoch old new is)

churn_stays : (vs : List Validator) (index epoch : ℕ) (old new : Validator) → slice_get vs index ≡ Some old → new.exit_epoch ≡ old.exit_epoch
    → exit_queue_churn (slice_set vs index new) epoch ≡ exit_queue_churn vs epoch
churn_stays vs index epoch old new is same =
    omega (arith, churn_of_changed vs index epoch old new is, ap {B = ℕ} (λ (e : ℕ). cond (e == epoch) 1 0) same)

churn_grows : (vs : List Validator) (index epoch : ℕ) (old new : Validator) → slice_get vs index ≡ Some old → (old.exit_epoch ≡ epoch → ⊥) → new.exit_epoch ≡ epoch
    → exit_queue_churn (slice_set vs index new) epoch ≡ exit_queue_churn vs epoch + 1
churn_grows vs index epoch old new is stays leaves_now =
    omega (arith, churn_of_changed vs index epoch old new is, ap {B = ℕ} (λ (b : Bool). cond b 1 0) (ne_eqb _ _ stays), ap {B = ℕ} (λ (b : Bool). cond b 1 0) (eq-eqb _ _ leaves_now))

-- ---- the greatest exit epoch

abbrev one_more : Bool → ℕ → List ℕ → List ℕ
one_more unset n ns = cond (not unset) (n ∷ ns) ns

opens : (v : Validator) (vs : List Validator) → exit_epochs (v ∷ vs) ≡ one_more (v.exit_epoch == far_future_epoch) v.exit_epoch (exit_epochs vs)
unfolding exit_epochs
opens v vs = refl

abbrev end_by : ℕ → List ℕ → ℕ → ℕ
end_by exit_epoch others epoch = greatest (one_more (exit_epoch == far_future_epoch) exit_epoch others ++ epoch ∷ [])

end_opens : (v : Validator) (vs : List Validator) (epoch : ℕ) → queue_end (v ∷ vs) epoch ≡ end_by v.exit_epoch (exit_epochs vs) epoch
unfolding queue_end
end_opens v vs epoch = ap (λ ns. greatest (ns ++ epoch ∷ [])) (opens v vs)

end_unset : (n epoch : ℕ) (ns : List ℕ) → n ≡ far_future_epoch → end_by n ns epoch ≡ greatest (ns ++ epoch ∷ [])
end_unset n epoch ns unset = ap (λ (b : Bool). greatest (one_more b n ns ++ epoch ∷ [])) (eq-eqb _ _ unset)

end_set : (n epoch : ℕ) (ns : List ℕ) → (n ≡ far_future_epoch → ⊥) → end_by n ns epoch ≡ max n (greatest (ns ++ epoch ∷ []))
unfolding greatest
end_set n epoch ns set = ap (λ (b : Bool). greatest (one_more b n ns ++ epoch ∷ [])) (ne_eqb _ _ set)

exits_of_changed : (vs : List Validator) (index : ℕ) (old new : Validator) → slice_get vs index ≡ Some old → new.exit_epoch ≡ old.exit_epoch
    → exit_epochs (slice_set vs index new) ≡ exit_epochs vs
exits_of_changed [] index old new is same = refl
exits_of_changed (v ∷ vs) zero old new is same =
    let here : new.exit_epoch ≡ v.exit_epoch = same ∙ sym (ap (λ (o : Option Validator). (validator_or v o).exit_epoch) is) in
    opens new vs ∙ ap (λ (n : ℕ). one_more (n == far_future_epoch) n (exit_epochs vs)) here ∙ sym (opens v vs)
exits_of_changed (v ∷ vs) (suc index) old new is same =
    opens v (slice_set vs index new) ∙ ap (one_more (v.exit_epoch == far_future_epoch) v.exit_epoch) (exits_of_changed vs index old new is same) ∙ sym (opens v vs)

end_stays : (vs : List Validator) (index epoch : ℕ) (old new : Validator) → slice_get vs index ≡ Some old → new.exit_epoch ≡ old.exit_epoch
    → queue_end (slice_set vs index new) epoch ≡ queue_end vs epoch
unfolding queue_end
end_stays vs index epoch old new is same = ap (λ ns. greatest (ns ++ epoch ∷ [])) (exits_of_changed vs index old new is same)

max_swaps : (unset : Bool) (n m epoch : ℕ) (ns ms : List ℕ) → greatest (ns ++ epoch ∷ []) ≡ max m (greatest (ms ++ epoch ∷ []))
    → greatest (one_more unset n ns ++ epoch ∷ []) ≡ max m (greatest (one_more unset n ms ++ epoch ∷ []))
unfolding greatest
max_swaps true n m epoch ns ms is = is
max_swaps false n m epoch ns ms is = omega (arith, is)

end_plain : (vs : List Validator) (epoch : ℕ) → queue_end vs epoch ≡ greatest (exit_epochs vs ++ epoch ∷ [])
unfolding queue_end
end_plain vs epoch = refl

-- one whose exit epoch was not set leaves
end_grows : (vs : List Validator) (index epoch : ℕ) (old new : Validator) → slice_get vs index ≡ Some old → old.exit_epoch ≡ far_future_epoch → (new.exit_epoch ≡ far_future_epoch → ⊥)
    → queue_end (slice_set vs index new) epoch ≡ max new.exit_epoch (queue_end vs epoch)
end_grows [] index epoch old new is unset set = absurd cc
end_grows (v ∷ vs) zero epoch old new is unset set =
    let here : v.exit_epoch ≡ far_future_epoch = ap (λ (o : Option Validator). (validator_or v o).exit_epoch) is ∙ unset in
    end_opens new vs epoch ∙ end_set new.exit_epoch epoch (exit_epochs vs) set
    ∙ ap (max new.exit_epoch) (sym (end_unset v.exit_epoch epoch (exit_epochs vs) here) ∙ sym (end_opens v vs epoch))
end_grows (v ∷ vs) (suc index) epoch old new is unset set =
    let rest = sym (end_plain (slice_set vs index new) epoch) ∙ (end_grows vs index epoch old new is unset set ∙ ap (max new.exit_epoch) (end_plain vs epoch)) in
    end_opens v (slice_set vs index new) epoch
    ∙ max_swaps (v.exit_epoch == far_future_epoch) v.exit_epoch new.exit_epoch epoch (exit_epochs (slice_set vs index new)) (exit_epochs vs) rest
    ∙ ap (max new.exit_epoch) (sym (end_opens v vs epoch))

-- nobody leaves behind the end
behind_one : (unset : Bool) (n at epoch : ℕ) (ns : List ℕ) → greatest (one_more unset n ns ++ epoch ∷ []) < at → greatest (ns ++ epoch ∷ []) < at
unfolding greatest
behind_one true n at epoch ns less = less
behind_one false n at epoch ns less = omega (arith, less)

other_epoch : (n at epoch : ℕ) (ns : List ℕ) → end_by n ns epoch < at → (at ≡ far_future_epoch → ⊥) → n ≡ at → ⊥
other_epoch n at epoch ns less set same =
    let is = end_set n epoch ns (λ unset. set (sym same ∙ unset)) in
    omega (arith, is, less, same)

none_behind : (vs : List Validator) (epoch at : ℕ) → queue_end vs epoch < at → (at ≡ far_future_epoch → ⊥) → exit_queue_churn vs at ≡ 0
unfolding exit_queue_churn
none_behind [] epoch at less set = refl
none_behind (v ∷ vs) epoch at less set =
    let by = subst (λ (n : ℕ). n < at) (end_opens v vs epoch) less in
    let others = subst (λ (n : ℕ). n < at) (sym (end_plain vs epoch)) (behind_one (v.exit_epoch == far_future_epoch) v.exit_epoch at epoch (exit_epochs vs) by) in
    let here = ap {B = ℕ} (λ (b : Bool). cond b 1 0) (ne_eqb v.exit_epoch at (other_epoch v.exit_epoch at epoch (exit_epochs vs) by set)) in
    omega (arith, churn_opens v vs at, here, none_behind vs epoch at others set)

-- ---- the queue of a state

pub churn_few : (state : PlainState) (config : ConfigValues) (queue : ExitQueue) → IsExitQueue state config queue → queue.churn ≤ length state.validators
unfolding exit_queue_churn
churn_few state config queue is = omega (arith, is.churn, count_by-le-length (λ (v : Validator). v.exit_epoch == queue.epoch) state.validators)

abbrev by_end : PlainState → ConfigValues → ℕ → Outcome ℕ
by_end state config epoch = if nat_lt (exit_queue_churn state.validators epoch) (get_validator_churn_limit state config) then done epoch else checked_add epoch 1

abbrev by_earliest : PlainState → ConfigValues → ℕ → Outcome ℕ
by_earliest state config earliest = by_end state config (greatest (exit_epochs state.validators ++ earliest ∷ []))

-- who leaves next leaves as the kept queue has it
pub next_is : (state : PlainState) (config : ConfigValues) (queue : ExitQueue) → IsExitQueue state config queue → exit_queue_epoch state config ≡ next_exit queue
unfolding exit_queue_epoch next_exit
next_is state config queue is =
    ap (λ (o : Outcome ℕ). bind o (by_earliest state config)) is.comes
    ∙ (ap (by_end state config) (sym (is.epoch ∙ end_plain state.validators (earliest_exit state)))
    ∙ ap₂ (λ (n m : ℕ). if nat_lt n m then done queue.epoch else checked_add queue.epoch 1) (sym is.churn) (sym is.limit))

-- ---- a validator changes

active_by : (old new : Validator) (epoch : ℕ) → leb new.activation_epoch epoch ≡ leb old.activation_epoch epoch → nat_lt epoch new.exit_epoch ≡ nat_lt epoch old.exit_epoch
    → is_active_validator new epoch ≡ is_active_validator old epoch
unfolding is_active_validator
active_by old new epoch begun ended = ap₂ (λ (a b : Bool). a && b) begun ended

limit_stays : (state : PlainState) (config : ConfigValues) (index : ℕ) (old new : Validator) → slice_get state.validators index ≡ Some old
    → is_active_validator new (get_current_epoch state) ≡ is_active_validator old (get_current_epoch state)
    → get_validator_churn_limit (record state { validators = slice_set state.validators index new }) config ≡ get_validator_churn_limit state config
unfolding get_validator_churn_limit get_active_validator_indices get_current_epoch
limit_stays state config index old new is same =
    ap (λ (active : List ℕ). max config.min_per_epoch_churn_limit (length active / config.churn_limit_quotient))
    (indices_of_changed (λ v. is_active_validator v (get_current_epoch state)) 0 index state.validators old new is same)

-- with the same exit epoch
kept : (state : PlainState) (config : ConfigValues) (queue : ExitQueue) (index : ℕ) (old new : Validator) → slice_get state.validators index ≡ Some old
    → new.exit_epoch ≡ old.exit_epoch → new.activation_epoch ≡ old.activation_epoch → IsExitQueue state config queue
    → IsExitQueue (record state { validators = slice_set state.validators index new }) config queue
unfolding earliest_exit get_current_epoch
kept state config queue index old new at exit activation is = record {
  comes = is.comes;
  epoch = is.epoch ∙ sym (end_stays state.validators index (earliest_exit state) old new at exit);
  churn = is.churn ∙ sym (churn_stays state.validators index queue.epoch old new at exit);
  limit = is.limit ∙ sym (limit_stays state config index old new at (active_by old new (get_current_epoch state)
      (ap (λ (n : ℕ). leb n (get_current_epoch state)) activation) (ap (nat_lt (get_current_epoch state)) exit)));
}

-- one who begins to wait
waited : (state : PlainState) (config : ConfigValues) (queue : ExitQueue) (index : ℕ) (v : Validator) → slice_get state.validators index ≡ Some v → IsExitQueue state config queue
    → IsExitQueue (with_eligibility state index v) config queue
unfolding with_eligibility
waited state config queue index v at is =
    let waiting : Validator = record v { activation_eligibility_epoch = get_current_epoch state + 1 } in
    elim (chosen (is_eligible_for_activation_queue state.preset v) (record state { validators = slice_set state.validators index waiting }) state _ refl) [
      | inl waits ↦ subst (λ (s : PlainState). IsExitQueue s config queue) waits.1 (kept state config queue index v waiting at refl refl is)
      | inr other ↦ subst (λ (s : PlainState). IsExitQueue s config queue) other.1 is
    ]

pub kept_waited : (state : PlainState) (config : ConfigValues) (queue : Option ExitQueue) (index : ℕ) (v : Validator) → slice_get state.validators index ≡ Some v → IsKept state config queue → IsKept (with_eligibility state index v) config queue
kept_waited state config None index v at is = tt
kept_waited state config (Some queue) index v at is = waited state config queue index v at is

-- ---- one who leaves

greatest_of_last : (numbers : List ℕ) (n : ℕ) → n ≤ greatest (numbers ++ n ∷ [])
unfolding greatest
greatest_of_last [] n = omega arith
greatest_of_last (m ∷ numbers) n = let rest = greatest_of_last numbers n in omega arith

end_later : (vs : List Validator) (epoch : ℕ) → epoch ≤ queue_end vs epoch
unfolding queue_end
end_later vs epoch = greatest_of_last (exit_epochs vs) epoch

is_done : {A : Type 0} → Outcome A → Bool
is_done (done x) = true
is_done (refused why) = false
is_done (limited bound) = false

refused_is_not : {A : Type 0} {why : Refusal} {x : A} → refused why ≡ done x → ⊥
unfolding is_done
refused_is_not is = false≢true (ap is_done is)

fits : (a b c : ℕ) → checked_add a b ≡ done c → c < 2 ^ 64
unfolding checked_add
fits a b c is = elim (chosen (nat_lt (a + b) (2 ^ 64)) _ _ _ is) [
  | inl low ↦ let same = same_value (a + b) c low.1 in let below = ltb-true (a + b) (2 ^ 64) low.0 in omega (arith, same, below)
  | inr over ↦ absurd (refused_is_not over.1)
]

earliest_later : (state : PlainState) → get_current_epoch state < earliest_exit state
unfolding earliest_exit
earliest_later state = omega arith

earliest_fits : (p : Preset) (epoch earliest : ℕ) → compute_activation_exit_epoch p epoch ≡ done earliest → earliest < 2 ^ 64
unfolding compute_activation_exit_epoch
earliest_fits p epoch earliest is =
    let next = on_the_way (checked_add epoch 1) _ earliest is in
    fits next.value p.max_seed_lookahead earliest next.then_done

-- the next one leaves at the end or behind it
next_at : (queue : ExitQueue) (at : ℕ) → next_exit queue ≡ done at → (at ≡ queue.epoch) ⊎ (at ≡ queue.epoch + 1)
unfolding next_exit
next_at queue at is = elim (chosen (nat_lt queue.churn queue.limit) _ _ _ is) [
  | inl free ↦ inl (sym (same_value queue.epoch at free.1))
  | inr full ↦ inr (sum_is queue.epoch 1 at full.1)
]

not_far : (at : ℕ) → (at == far_future_epoch) ≡ false → at ≡ far_future_epoch → ⊥
not_far at is same = eqb-false at far_future_epoch is same

module _ (state : PlainState) (config : ConfigValues) (queue : ExitQueue) (index : ℕ) (v : Validator) (at withdrawable : ℕ) where
  abbrev pub leaving : Validator
  leaving = record v { exit_epoch = at; withdrawable_epoch = withdrawable }

  abbrev pub behind : PlainState
  behind = record state { validators = slice_set state.validators index leaving }

  stays_active : v.exit_epoch ≡ far_future_epoch → get_current_epoch state < at → get_current_epoch state < far_future_epoch → is_active_validator leaving (get_current_epoch state) ≡ is_active_validator v (get_current_epoch state)
  stays_active unset later before =
      active_by v leaving (get_current_epoch state) refl (lt-ltb (get_current_epoch state) at later ∙ sym (lt-ltb (get_current_epoch state) v.exit_epoch (omega (arith, unset, before))))

  -- the queue that ends at its epoch
  behind_is : slice_get state.validators index ≡ Some v → v.exit_epoch ≡ far_future_epoch → (at ≡ far_future_epoch → ⊥) → queue.epoch ≤ at → IsExitQueue state config queue
      → (churn : ℕ) → churn ≡ exit_queue_churn state.validators at + 1 → IsExitQueue behind config (record queue { epoch = at; churn = churn })
  unfolding earliest_exit get_current_epoch
  behind_is here unset set later is churn counted =
      let end_is = end_grows state.validators index (earliest_exit state) v leaving here unset set in
      let earliest = end_later state.validators (earliest_exit state) in
      let now = earliest_later state in
      let most = earliest_fits state.preset (get_current_epoch state) (earliest_exit state) is.comes in
      record {
        comes = is.comes;
        epoch = omega (arith, end_is, is.epoch, later);
        churn = counted ∙ sym (churn_grows state.validators index at v leaving here (λ same. set (sym same ∙ unset)) refl);
        limit = is.limit ∙ sym (limit_stays state config index v leaving here (stays_active unset (omega (arith, earliest, now, is.epoch, later)) (omega (arith, now, most))));
      }

  pub exited : slice_get state.validators index ≡ Some v → v.exit_epoch ≡ far_future_epoch → next_exit queue ≡ done at → IsExitQueue state config queue → IsExitQueue behind config (with_exit queue at)
  unfolding with_exit lengthened
  exited here unset next is =
      elim (chosen (at == far_future_epoch) queue (lengthened queue at) (with_exit queue at) refl) [
        | inl far ↦ subst (IsExitQueue behind config) far.1 (kept state config queue index v leaving here (eqb-true at far_future_epoch far.0 ∙ sym unset) refl is)
        | inr near ↦
            let set = not_far at near.0 in
            subst (IsExitQueue behind config) near.1
            (elim (chosen (at == queue.epoch) (record queue { churn = queue.churn + 1 }) (record queue { epoch = at; churn = 1 }) (lengthened queue at) refl) [
              | inl same ↦
                  let e = eqb-true at queue.epoch same.0 in
                  subst (IsExitQueue behind config) (ap (λ (n : ℕ). record queue { epoch = n; churn = queue.churn + 1 }) e ∙ same.1)
                  (behind_is here unset set (omega (arith, e)) is (queue.churn + 1) (ap (λ (n : ℕ). n + 1) (is.churn ∙ ap (exit_queue_churn state.validators) (sym e))))
              | inr other ↦
                  let later : queue.epoch < at = elim (next_at queue at next) [
                    | inl e ↦ absurd (eqb-false at queue.epoch other.0 e)
                    | inr e ↦ omega (arith, e)
                  ] in
                  let none = none_behind state.validators (earliest_exit state) at (omega (arith, is.epoch, later)) set in
                  subst (IsExitQueue behind config) other.1
                  (behind_is here unset set (omega (arith, later)) is 1 (omega (arith, none)))
            ])
      ]
