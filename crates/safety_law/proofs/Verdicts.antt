-- A verdict of conflict, in words: what the tests of a verdict say, and where they say it.
use Rattle.std.proofs.Common.{◌≡◌, ◌∙◌, ℕ, ◌*◌, ◌<◌, inl, inr, Bool, true, false, ◌||◌, ◌&&◌, ◌==◌, nat_lt, List, [], ◌∷◌, map, Option, Some, None, is_some, refl, sym, ap, arith}
use Rattle.std.specs.List.{AllByRecursion, list_any}
use Rattle.std.specs.Cmp.{unsigned_Decides}
use Rattle.std.specs.Cmp.Lexicographic.{pointwise_decides, bytes_decides}
use Rattle.std.proofs.lemmas.Bool.{and_parts, eqb-false, eqb-true, ltb-false, le-ltb, false≢true}
use Rattle.beacon_types.specs.Equality.{same_root}
use Rattle.beacon_types.specs.declared.checkpoint.Checkpoint.{Checkpoint}
use Rattle.spec_state.specs.declared.plain.PlainState.{PlainState}
use Rattle.spec_state.specs.Misc.{effective_balance}
use Rattle.spec_state.specs.Accessors.{get_current_epoch, get_previous_epoch, get_active_validator_indices}
use Rattle.spec_blocks.proofs.Done.{chosen}
use Rattle.ffg_law.specs.Links.{IsOneOf}
use Rattle.spec_forensics.specs.declared.verdict.Verdict.{Verdict}
use Rattle.spec_forensics.specs.declared.verdict.Verdict.TheVariants.{Agree, Small, Moved, Conflict}
use Rattle.spec_forensics.specs.Histories.{AcceptedBlock, chain_to}
use Rattle.spec_forensics.specs.Steady.{genesis_total, is_steady_in, is_steady_at, IsSteadyIn, IsSteadyAt}
use Rattle.spec_forensics.specs.Verdict.{roots_of, is_on_chain, is_agreed, first_moved, moved_or, moved_on, finalizing_chain, unless_moved, verdict_of}
use Rattle.safety_law.specs.Finals.{IsConflict, AreInConflict}
use Rattle.safety_law.proofs.Lists.{one_of, of_one}
use Rattle.safety_law.proofs.Goes.{IsSteadyChain}

-- a test says a fact: it is true exactly where the fact holds
record Says (test : Bool) (P : Type 0) : Type 0 where
  holds : test ≡ true → P
  is : P → test ≡ true

both_true : (p q : Bool) → p ≡ true → q ≡ true → (p && q) ≡ true
both_true true true one other = refl
both_true true false one other = absurd (false≢true other)
both_true false q one other = absurd (false≢true one)

-- ---- steady validators

steady_in : (genesis s : PlainState) (epoch : ℕ) → Says (is_steady_in genesis s epoch) (IsSteadyIn genesis s epoch)
unfolding is_steady_in
steady_in genesis s epoch =
    let active : List ℕ = get_active_validator_indices genesis 0 in
    let lists = pointwise_decides unsigned_Decides (get_active_validator_indices s epoch) active in
    let balances = pointwise_decides unsigned_Decides (map (effective_balance s.validators) active) (map (effective_balance genesis.validators) active) in
    record {
      holds = λ is. let parts = and_parts _ _ is in record { active = lists.0 parts.0; balances = balances.0 parts.1 };
      is = λ steady. both_true _ _ (lists.1 steady.active) (balances.1 steady.balances);
    }

steady_at : (genesis s : PlainState) → Says (is_steady_at genesis s) (IsSteadyAt genesis s)
unfolding is_steady_at
steady_at genesis s =
    let before = steady_in genesis s (get_previous_epoch s) in
    let now = steady_in genesis s (get_current_epoch s) in
    record {
      holds = λ is. let parts = and_parts _ _ is in record { previous = before.holds parts.0; current = now.holds parts.1 };
      is = λ steady. both_true _ _ (before.is steady.previous) (now.is steady.current);
    }

none_moved : (genesis : PlainState) (states : List PlainState) → first_moved genesis states ≡ None → AllByRecursion (IsSteadyAt genesis) states
unfolding first_moved
none_moved genesis [] is = tt
none_moved genesis (s ∷ states) is = elim (chosen (is_steady_at genesis s) _ _ _ is) [
  | inl steady ↦ ((steady_at genesis s).holds steady.0, none_moved genesis states steady.1)
  | inr moves ↦ absurd (false≢true (sym (ap is_some moves.1)))
]

all_steady : (genesis : PlainState) (states : List PlainState) → AllByRecursion (IsSteadyAt genesis) states → first_moved genesis states ≡ None
unfolding first_moved
all_steady genesis [] all = refl
all_steady genesis (s ∷ states) all = rw ((steady_at genesis s).is all.0) (all_steady genesis states all.1)

or_none : (root : List ℕ) (o : Option ℕ) (later : Option (List ℕ × ℕ)) → moved_or root o later ≡ None → (o ≡ None) × (later ≡ None)
unfolding moved_or
or_none root (Some epoch) later is = absurd (false≢true (sym (ap is_some is)))
or_none root None later is = (refl, is)

none_or : (root : List ℕ) (o : Option ℕ) (later : Option (List ℕ × ℕ)) → o ≡ None → later ≡ None → moved_or root o later ≡ None
unfolding moved_or
none_or root (Some epoch) later is rest = absurd (false≢true (sym (ap is_some is)))
none_or root None later is rest = rest

stays : (genesis : PlainState) (chain : List AcceptedBlock) → moved_on genesis chain ≡ None → IsSteadyChain genesis chain
unfolding moved_on
stays genesis [] is = tt
stays genesis (b ∷ later) is = let parts = or_none b.root (first_moved genesis b.entered) (moved_on genesis later) is in (none_moved genesis b.entered parts.0, stays genesis later parts.1)

stayed : (genesis : PlainState) (chain : List AcceptedBlock) → IsSteadyChain genesis chain → moved_on genesis chain ≡ None
unfolding moved_on
stayed genesis [] all = refl
stayed genesis (b ∷ later) all = none_or b.root (first_moved genesis b.entered) (moved_on genesis later) (all_steady genesis b.entered all.0) (stayed genesis later all.1)

-- ---- histories that agree

or_neither : (p q : Bool) → (p || q) ≡ false → (p ≡ false) × (q ≡ false)
or_neither true q is = absurd (false≢true (sym is))
or_neither false q is = (refl, is)

neither : (p q : Bool) → (p ≡ true → ⊥) → (q ≡ true → ⊥) → (p || q) ≡ false
neither true q one other = absurd (one refl)
neither false true one other = absurd (other refl)
neither false false one other = refl

has_first : (p : Bool) (r : List ℕ) (roots : List (List ℕ)) (root : List ℕ) → same_root r root ≡ p → list_any (λ other. same_root other root) (r ∷ roots) ≡ false → IsOneOf root (r ∷ roots)
    → (list_any (λ other. same_root other root) roots ≡ false → IsOneOf root roots → ⊥) → ⊥
has_first true r roots root p is h rest = absurd (false≢true (sym (rw p at is)))
has_first false r roots root p is (inl e) rest = absurd (false≢true (sym p ∙ (bytes_decides r root).1 e))
has_first false r roots root p is (inr h) rest = rest (rw p at is) h

has_it : (roots : List (List ℕ)) (root : List ℕ) → list_any (λ other. same_root other root) roots ≡ false → IsOneOf root roots → ⊥
has_it [] root is h = absurd h
has_it (r ∷ roots) root is h = has_first (same_root r root) r roots root refl is h (has_it roots root)

any_first : (p : Bool) (r : List ℕ) (roots : List (List ℕ)) (root : List ℕ) → same_root r root ≡ p → list_any (λ other. same_root other root) (r ∷ roots) ≡ true
    → (list_any (λ other. same_root other root) roots ≡ true → IsOneOf root roots) → IsOneOf root (r ∷ roots)
any_first true r roots root p is rest = inl ((bytes_decides r root).0 p)
any_first false r roots root p is rest = inr (rest (rw p at is))

any_it : (roots : List (List ℕ)) (root : List ℕ) → list_any (λ other. same_root other root) roots ≡ true → IsOneOf root roots
any_it [] root is = absurd (false≢true is)
any_it (r ∷ roots) root is = any_first (same_root r root) r roots root refl is (any_it roots root)

above : (n : ℕ) → (n ≡ 0 → ⊥) → 0 < n
above n other = omega (arith, other)

apart_says : (genesis : PlainState) (first second : List AcceptedBlock) (a b : Checkpoint) → is_agreed genesis first second a b ≡ false → IsConflict genesis first second a b
unfolding is_agreed is_on_chain
apart_says genesis first second a b is =
    let parts = or_neither _ _ is in
    let epochs = or_neither _ _ parts.0 in
    let roots = or_neither _ _ parts.1 in
    let ours : List (List ℕ) = roots_of genesis (chain_to first a.root) in
    let theirs : List (List ℕ) = roots_of genesis (chain_to second b.root) in
    record {
      first_above = above a.epoch (eqb-false _ _ epochs.0);
      second_above = above b.epoch (eqb-false _ _ epochs.1);
      first_apart = λ on. has_it theirs a.root roots.0 (one_of theirs a.root on);
      second_apart = λ on. has_it ours b.root roots.1 (one_of ours b.root on);
    }

not_zero : (n : ℕ) → 0 < n → (n == 0) ≡ true → ⊥
not_zero n above is = let zero = eqb-true n 0 is in absurd (omega arith)

said_apart : (genesis : PlainState) (first second : List AcceptedBlock) (a b : Checkpoint) → IsConflict genesis first second a b → is_agreed genesis first second a b ≡ false
unfolding is_agreed is_on_chain
said_apart genesis first second a b conflict =
    let ours : List (List ℕ) = roots_of genesis (chain_to first a.root) in
    let theirs : List (List ℕ) = roots_of genesis (chain_to second b.root) in
    neither _ _
    (λ zero. false≢true (sym (neither _ _ (not_zero a.epoch conflict.first_above) (not_zero b.epoch conflict.second_above)) ∙ zero))
    (λ on. false≢true (sym (neither _ _ (λ is. conflict.first_apart (of_one theirs a.root (any_it theirs a.root is))) (λ is. conflict.second_apart (of_one ours b.root (any_it ours b.root is)))) ∙ on))

-- ---- the verdict

number_of : Verdict → ℕ
number_of Agree = 0
number_of (Small n) = 1
number_of (Moved which root epoch) = 2
number_of (Conflict balance total) = 3

its_balance : Verdict → ℕ
its_balance Agree = 0
its_balance (Small n) = 0
its_balance (Moved which root epoch) = 0
its_balance (Conflict balance total) = balance

its_total : Verdict → ℕ
its_total Agree = 0
its_total (Small n) = 0
its_total (Moved which root epoch) = 0
its_total (Conflict balance total) = total

unmoved : (which : ℕ) (o : Option (List ℕ × ℕ)) (rest : Verdict) (balance total : ℕ) → unless_moved which o rest ≡ Conflict balance total → (o ≡ None) × (rest ≡ Conflict balance total)
unfolding unless_moved number_of
unmoved which (Some at) rest balance total is = absurd (let e = ap number_of is in omega (arith, e))
unmoved which None rest balance total is = (refl, is)

-- a verdict of conflict says that the histories conflict
pub verdict_says : (genesis : PlainState) (first second : List AcceptedBlock) (a b : Checkpoint) (balance total : ℕ) → verdict_of genesis first second a b ≡ Conflict balance total → AreInConflict genesis first second a b balance total
unfolding verdict_of number_of its_balance its_total
verdict_says genesis first second a b balance total is = elim (chosen (is_agreed genesis first second a b) _ _ _ is) [
  | inl agrees ↦ absurd (let e = ap number_of agrees.1 in omega (arith, e))
  | inr apart ↦ elim (chosen (nat_lt (genesis_total genesis) (2 * genesis.preset.effective_balance_increment)) _ _ _ apart.1) [
    | inl little ↦ absurd (let e = ap number_of little.1 in omega (arith, e))
    | inr large ↦
        let one = unmoved 0 _ _ balance total large.1 in
        let other = unmoved 1 _ _ balance total one.1 in
        record {
          conflict = apart_says genesis first second a b apart.0;
          large = ltb-false _ _ large.0;
          first_stays = stays genesis (finalizing_chain first a) one.0;
          second_stays = stays genesis (finalizing_chain second b) other.0;
          balance_is = ap its_balance other.1;
          total_is = ap its_total other.1;
        }
  ]
]

-- where histories conflict, so says the verdict
pub verdict_is : (genesis : PlainState) (first second : List AcceptedBlock) (a b : Checkpoint) (balance total : ℕ) → AreInConflict genesis first second a b balance total → verdict_of genesis first second a b ≡ Conflict balance total
unfolding verdict_of unless_moved
verdict_is genesis first second a b balance total are =
    let apart = said_apart genesis first second a b are.conflict in
    let large : nat_lt (genesis_total genesis) (2 * genesis.preset.effective_balance_increment) ≡ false = le-ltb (genesis_total genesis) (2 * genesis.preset.effective_balance_increment) are.large in
    let first_is = stayed genesis (finalizing_chain first a) are.first_stays in
    let second_is = stayed genesis (finalizing_chain second b) are.second_stays in
    rw (apart, large, first_is, second_is) (λ i. Conflict (are.balance_is i) (are.total_is i))
