-- The queue of those who leave, one validator of the registry at a time.
use Rattle.std.proofs.Common.{◌≡◌, ℕ, ◌+◌, ◌≤◌, max, Bool, true, false, cond, not, List, [], ◌∷◌, ◌++◌, length, refl, sym, ap, ◌∙◌, add_comm, zero-add, arith}
use Rattle.std.specs.Prelude.{◌==◌}
use Rattle.std.proofs.lemmas.Bool.{eq-eqb, ne_eqb}
use Rattle.std.proofs.lemmas.List.Sums.{sum_by-cons, count_by-le-length}
use Rattle.beacon_types.specs.declared.validator.Validator.{Validator}
use Rattle.spec_state.specs.Constants.{far_future_epoch}
use Rattle.spec_blocks.specs.InitiateValidatorExit.{exit_epochs, greatest, exit_queue_churn}
use Rattle.block_operations.specs.inside.Queue.{queue_end, later}

-- ---- the greatest exit epoch

-- what stands at the end may as well be joined with the first
joins : (ns : List ℕ) (n epoch : ℕ) → greatest (ns ++ max epoch n ∷ []) ≡ max n (greatest (ns ++ epoch ∷ []))
unfolding greatest
joins [] n epoch = omega arith
joins (m ∷ ns) n epoch = omega (arith, joins ns n epoch)

abbrev one_more : Bool → ℕ → List ℕ → List ℕ
one_more unset n ns = cond (not unset) (n ∷ ns) ns

opens : (v : Validator) (vs : List Validator) → exit_epochs (v ∷ vs) ≡ one_more (v.exit_epoch == far_future_epoch) v.exit_epoch (exit_epochs vs)
unfolding exit_epochs
opens v vs = refl

either_way : (unset : Bool) (n epoch : ℕ) (ns : List ℕ) → greatest (ns ++ cond unset epoch (max epoch n) ∷ []) ≡ greatest (one_more unset n ns ++ epoch ∷ [])
unfolding greatest
either_way true n epoch ns = refl
either_way false n epoch ns = joins ns n epoch

pub end_opens : (v : Validator) (vs : List Validator) (epoch : ℕ) → queue_end vs (later v.exit_epoch epoch) ≡ queue_end (v ∷ vs) epoch
unfolding queue_end
end_opens v vs epoch =
    either_way (v.exit_epoch == far_future_epoch) v.exit_epoch epoch (exit_epochs vs) ∙ ap (λ ns. greatest (ns ++ epoch ∷ [])) (sym (opens v vs))

pub end_alone : (epoch : ℕ) → queue_end [] epoch ≡ epoch
unfolding queue_end exit_epochs greatest
end_alone epoch = omega arith

-- ---- how many leave at an epoch

abbrev leaves : ℕ → Validator → Bool
leaves epoch v = v.exit_epoch == epoch

churn_opens : (v : Validator) (vs : List Validator) (epoch : ℕ) → exit_queue_churn (v ∷ vs) epoch ≡ cond (leaves epoch v) 1 0 + exit_queue_churn vs epoch
unfolding exit_queue_churn
churn_opens v vs epoch = sum_by-cons (λ w. cond (leaves epoch w) 1 0) v vs

pub one_leaves : (v : Validator) (left : List Validator) (epoch : ℕ) → v.exit_epoch ≡ epoch → exit_queue_churn (v ∷ left) epoch ≡ exit_queue_churn left epoch + 1
one_leaves v left epoch leaves_now =
    churn_opens v left epoch ∙ ap (λ b. cond b 1 0 + exit_queue_churn left epoch) (eq-eqb _ _ leaves_now) ∙ add_comm 1 (exit_queue_churn left epoch)

pub one_stays : (v : Validator) (left : List Validator) (epoch : ℕ) → (v.exit_epoch ≡ epoch → ⊥) → exit_queue_churn (v ∷ left) epoch ≡ exit_queue_churn left epoch
one_stays v left epoch stays = churn_opens v left epoch ∙ ap (λ b. cond b 1 0 + exit_queue_churn left epoch) (ne_eqb _ _ stays) ∙ zero-add (exit_queue_churn left epoch)

pub churn_alone : (epoch : ℕ) → exit_queue_churn [] epoch ≡ 0
unfolding exit_queue_churn
churn_alone epoch = refl

-- as many as there are at most
pub churn_few : (validators : List Validator) (epoch : ℕ) → exit_queue_churn validators epoch ≤ length validators
unfolding exit_queue_churn
churn_few validators epoch = count_by-le-length (leaves epoch) validators

-- what the walks over the registry need: of the end, and of the count
pub ruleset ending = (end_opens, end_alone)

pub ruleset counting = (one_leaves, one_stays, churn_alone)
