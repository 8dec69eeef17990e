-- What the offenders have, and the total that it is compared with.
use Rattle.std.proofs.Common.{◌≡◌, ◌∙◌, ℕ, zero, suc, ◌+◌, ◌*◌, ◌/◌, ◌<◌, ◌≤◌, ◌^◌, ◌==◌, nat_eq, nat_lt, max, Bool, true, false, not, cond, ◌&&◌, ◌||◌, List, [], ◌∷◌, map, filter, drop, sum, length, Option, Some, None, is_some, inl, inr, refl, sym, ap, arith}
use Rattle.std.specs.List.{list_any, sum_by}
use Rattle.std.specs.Option.{option_map}
use Rattle.std.proofs.Math.Nat.{zero-div}
use Rattle.std.proofs.lemmas.Bool.{cases_lt, eq-eqb, ne_eqb, eqb-true}
use Rattle.std.proofs.lemmas.List.{map-append}
use Rattle.std.proofs.lemmas.List.Folds.{list_any-append}
use Rattle.std.proofs.lemmas.List.Sums.{sum_by-cons}
use Rattle.bc_words.specs.Outcome.{Outcome, done, refused, limited, bind, checked_sum_by, StopsExactly}
use Rattle.bc_words.specs.declared.stop.Stop.{Stop}
use Rattle.bc_words.specs.declared.stop.Stop.TheVariants as stops
use Rattle.bc_words.specs.declared.refusal.Refusal.TheVariants.{Overflow}
use Rattle.bc_words.proofs.Sums.{checked_sum_fits, checked_sum_overflows}
use Rattle.beacon_types.specs.declared.checkpoint.Checkpoint.{Checkpoint}
use Rattle.beacon_types.specs.declared.validator.Validator.{Validator}
use Rattle.spec_state.specs.declared.plain.PlainState.{PlainState}
use Rattle.spec_state.specs.Genesis.{genesis_fault}
use Rattle.spec_state.specs.Misc.{effective_balance}
use Rattle.spec_state.specs.Predicates.{is_active_validator}
use Rattle.spec_state.specs.Accessors.{get_current_epoch, get_active_validator_indices, get_total_balance}
use Rattle.balance_totals.proofs.LeftOf.{others_left}
use Rattle.balance_totals.proofs.ActiveLeft.{sum_left, sum_begins}
use Rattle.ffg_law.specs.Weights.{weight_from, weight_of, among}
use Rattle.ffg_law.proofs.Weights.{weight_within}
use Rattle.spec_forensics.specs.declared.vote.Vote.{Vote}
use Rattle.spec_forensics.specs.declared.offence.Offence.{Offence}
use Rattle.spec_forensics.specs.Histories.{AcceptedBlock}
use Rattle.spec_forensics.specs.Offences.{slashable_pair, surrounds, kind_of, offence_by, offence_of, listed, offences_below}
use Rattle.spec_forensics.specs.Steady.{genesis_weights, genesis_total}
use Rattle.spec_forensics.specs.Verdict.{is_agreed, moved_on, finalizing_chain, balance_of, offences_of, unless_moved, verdict_of}
use Rattle.spec_forensics.specs.declared.verdict.Verdict.TheVariants.{Agree, Small, Conflict}
use Rattle.forensics.specs.Carried.{Held, Holds, all_votes_by, has_offence}
use Rattle.forensics.proofs.CarriedOffences.{offends_is}
use Rattle.forensics.specs.Books.{IsBeginning}
use Rattle.forensics.specs.inside.Offenders.{counts}
use Rattle.forensics.specs.inside.Whole.{carried_in}
use Rattle.forensics.proofs.Votes.{votes_held}

-- ---- the total

passed : {A : Type 0} (b : Bool) (fault : A) (rest : Option A) → cond (not b) (Some fault) rest ≡ None → b ≡ true
passed true fault rest h = refl
passed false fault rest h = absurd cc

begins_at_zero : (genesis : PlainState) → genesis_fault genesis ≡ None → get_current_epoch genesis ≡ 0
unfolding genesis_fault get_current_epoch
begins_at_zero genesis h =
    let slot : genesis.slot ≡ 0 = eqb-true genesis.slot 0 (passed (genesis.slot == 0) _ _ h) in
    ap (λ n. n / genesis.preset.slots_per_epoch) slot ∙ zero-div genesis.preset.slots_per_epoch

abbrev weight : Validator → ℕ
weight v = cond (is_active_validator v 0) v.effective_balance 0

nothing_more : (n : ℕ) → 0 + n ≡ n
nothing_more n = omega arith

one_weighed : (b : Bool) (v : Validator) (rest : List Validator) (n : ℕ) → sum_by (λ (w : Validator). w.effective_balance) rest ≡ n → sum_by (λ (w : Validator). w.effective_balance) (cond b (v ∷ rest) rest) ≡ cond b v.effective_balance 0 + n
one_weighed true v rest n is = sum_by-cons (λ (w : Validator). w.effective_balance) v rest ∙ ap (λ m. v.effective_balance + m) is
one_weighed false v rest n is = is ∙ sym (nothing_more n)

filtered_sum : (vs : List Validator) → sum_by (λ (v : Validator). v.effective_balance) (filter (λ v. is_active_validator v 0) vs) ≡ sum (map weight vs)
filtered_sum [] = refl
filtered_sum (v ∷ vs) = one_weighed (is_active_validator v 0) v (filter (λ v. is_active_validator v 0) vs) (sum (map weight vs)) (filtered_sum vs) ∙ sym (sum_by-cons (λ (x : ℕ). x) (weight v) (map weight vs))

summed : (genesis : PlainState) → checked_sum_by (effective_balance genesis.validators) (get_active_validator_indices genesis 0) ≡ checked_sum_by (λ (v : Validator). v.effective_balance) (filter (λ v. is_active_validator v 0) genesis.validators)
unfolding checked_sum_by sum_left
summed genesis = sym (sum_begins 0 genesis)

by_sum : (genesis : PlainState) (total : ℕ) → get_total_balance genesis (get_active_validator_indices genesis 0) ≡ done total
    → (sum (genesis_weights genesis) < 2 ^ 64) × (get_total_balance genesis (get_active_validator_indices genesis 0) ≡ done (genesis_total genesis))
unfolding get_total_balance genesis_total genesis_weights
by_sum genesis total is =
    let active : List Validator = filter (λ v. is_active_validator v 0) genesis.validators in
    let increment : ℕ = genesis.preset.effective_balance_increment in
    let same : sum_by (λ (v : Validator). v.effective_balance) active ≡ sum (map weight genesis.validators) = filtered_sum genesis.validators in
    let finish : Outcome ℕ → Outcome ℕ = λ o. bind o (λ n. done (max increment n)) in
    elim (cases_lt (sum_by (λ (v : Validator). v.effective_balance) active) (2 ^ 64)) [
      | inl less ↦ (
        omega arith,
        ap finish (summed genesis ∙ checked_sum_fits (λ (v : Validator). v.effective_balance) active less) ∙ ap (λ n. done (max increment n)) same,
      )
      | inr more ↦ absurd (
          let e : finish (refused Overflow) ≡ done total = sym (ap finish (summed genesis ∙ checked_sum_overflows (λ (v : Validator). v.effective_balance) active more)) ∙ is in cc)
    ]

totals : (genesis : PlainState) → IsBeginning genesis → (sum (genesis_weights genesis) < 2 ^ 64) × (get_total_balance genesis (get_active_validator_indices genesis 0) ≡ done (genesis_total genesis))
totals genesis begins = by_sum genesis begins.total (ap (λ e. get_total_balance genesis (get_active_validator_indices genesis e)) (sym (begins_at_zero genesis begins.checked)) ∙ begins.total_is)

pub weights_fit : (genesis : PlainState) → IsBeginning genesis → sum (genesis_weights genesis) < 2 ^ 64
weights_fit genesis begins = (totals genesis begins).0

pub total_is : (genesis : PlainState) (total : ℕ) → IsBeginning genesis → get_total_balance genesis (get_active_validator_indices genesis 0) ≡ done total → total ≡ genesis_total genesis
total_is genesis total begins is = let e : done total ≡ done (genesis_total genesis) = sym is ∙ (totals genesis begins).1 in cc

pub total_never_stops : (genesis : PlainState) (stop : Stop) → IsBeginning genesis → StopsExactly stop (get_total_balance genesis (get_active_validator_indices genesis 0)) → ⊥
total_never_stops genesis (stops.Refused why) begins stopped = let e : done (genesis_total genesis) ≡ refused why = sym (totals genesis begins).1 ∙ stopped in absurd cc
total_never_stops genesis (stops.Limit bound) begins stopped = let e : done (genesis_total genesis) ≡ limited bound = sym (totals genesis begins).1 ∙ stopped in absurd cc
total_never_stops genesis stops.NoMemory begins stopped = stopped

-- ---- the offenders' weight, one validator at a time

abbrev pub weights_left : List Validator → List ℕ
weights_left vs = map weight vs

pub weigh_begins : (genesis : PlainState) (set : ℕ → Bool) → 0 + weight_from set 0 (weights_left genesis.validators) ≡ weight_of (genesis_weights genesis) set
unfolding genesis_weights
weigh_begins genesis set = nothing_more (weight_from set 0 (map weight genesis.validators))

pub weigh_ends : (set : ℕ → Bool) (i : ℕ) → weight_from set i (weights_left []) ≡ 0
unfolding weight_from
weigh_ends set i = refl

opened : (set : ℕ → Bool) (i : ℕ) (v : Validator) (left : List Validator) (active offends : Bool) → is_active_validator v 0 ≡ active → set i ≡ offends
    → weight_from set i (weights_left (v ∷ left)) ≡ cond offends (cond active v.effective_balance 0) 0 + weight_from set (i + 1) (weights_left left)
unfolding weight_from
opened set i v left active offends is has =
    ap (λ b. cond b (cond (is_active_validator v 0) v.effective_balance 0) 0 + weight_from set (i + 1) (weights_left left)) has
    ∙ ap (λ b. cond offends (cond b v.effective_balance 0) 0 + weight_from set (i + 1) (weights_left left)) is

both_hold : (a b : Bool) → a && b ≡ true → (a ≡ true) × (b ≡ true)
both_hold true b h = (refl, h)
both_hold false b h = absurd cc

module _ (votes : Held) (i balance : ℕ) (v : Validator) (left : List Validator) where
  pub weigh_more : counts votes i v ≡ true → (balance + v.effective_balance) + weight_from (has_offence votes) (i + 1) (weights_left left) ≡ balance + weight_from (has_offence votes) i (weights_left (v ∷ left))
  unfolding counts
  weigh_more is =
      let both = both_hold (is_active_validator v 0) (has_offence votes i) is in
      let e = opened (has_offence votes) i v left true true both.0 both.1 in
      omega arith

  pub weigh_others : counts votes i v ≡ false → balance + weight_from (has_offence votes) (i + 1) (weights_left left) ≡ balance + weight_from (has_offence votes) i (weights_left (v ∷ left))
  unfolding counts
  weigh_others is = by (is_active_validator v 0) (has_offence votes i) refl refl
    where
      by : (active offends : Bool) → is_active_validator v 0 ≡ active → has_offence votes i ≡ offends → balance + weight_from (has_offence votes) (i + 1) (weights_left left) ≡ balance + weight_from (has_offence votes) i (weights_left (v ∷ left))
      by true true one other = absurd (let e : true ≡ false = sym (ap (λ b. b && has_offence votes i) one ∙ ap (λ b. true && b) other) ∙ is in cc)
      by true false one other = let e = opened (has_offence votes) i v left true false one other in omega arith
      by false true one other = let e = opened (has_offence votes) i v left false true one other in omega arith
      by false false one other = let e = opened (has_offence votes) i v left false false one other in omega arith

  -- the sum fits
  pub weigh_fits : (genesis : PlainState) → IsBeginning genesis → balance + weight_from (has_offence votes) i (weights_left (v ∷ left)) ≡ weight_of (genesis_weights genesis) (has_offence votes) → counts votes i v ≡ true → balance + v.effective_balance < 2 ^ 64
  weigh_fits genesis begins sums is =
      let e = weigh_more is in
      let most = weight_within (has_offence votes) 0 (genesis_weights genesis) in
      let fits = weights_fit genesis begins in
      omega arith

-- ---- the same at a step of a loop

module _ (genesis : PlainState) (votes : Held) (balance count now_count index : ℕ) (iter now : List Validator) (v : Validator) (steps : (iter ≡ v ∷ now) × (index ≡ count) × (now_count ≡ count + 1) × (index + 1 < 2 ^ 64))
    (sums : balance + weight_from (has_offence votes) count (weights_left iter) ≡ weight_of (genesis_weights genesis) (has_offence votes)) where
  sums_there : balance + weight_from (has_offence votes) count (weights_left (v ∷ now)) ≡ weight_of (genesis_weights genesis) (has_offence votes)
  sums_there = ap (λ (vs : List Validator). balance + weight_from (has_offence votes) count (weights_left vs)) (sym steps.0) ∙ sums

  counts_there : (b : Bool) (result : Bool) → result ≡ counts votes index v → result ≡ b → counts votes count v ≡ b
  counts_there b result is same = ap (λ (i : ℕ). counts votes i v) (sym steps.1) ∙ sym is ∙ same

  pub step_at : iter ≡ drop count genesis.validators → now ≡ drop now_count genesis.validators
  step_at at = others_left genesis.validators count v now (sym steps.0 ∙ at) ∙ ap (λ (n : ℕ). drop n genesis.validators) (sym steps.2)

  pub step_fits : IsBeginning genesis → (result : Bool) → result ≡ counts votes index v → result ≡ true → balance + v.effective_balance < 2 ^ 64
  step_fits begins result is same = weigh_fits votes count balance v now genesis begins sums_there (counts_there true result is same)

  pub step_more : (result : Bool) → result ≡ counts votes index v → result ≡ true → (balance + v.effective_balance) + weight_from (has_offence votes) now_count (weights_left now) ≡ weight_of (genesis_weights genesis) (has_offence votes)
  step_more result is same =
      ap (λ (n : ℕ). (balance + v.effective_balance) + weight_from (has_offence votes) n (weights_left now)) steps.2
      ∙ weigh_more votes count balance v now (counts_there true result is same) ∙ sums_there

  pub step_others : (result : Bool) → result ≡ counts votes index v → result ≡ false → balance + weight_from (has_offence votes) now_count (weights_left now) ≡ weight_of (genesis_weights genesis) (has_offence votes)
  step_others result is same =
      ap (λ (n : ℕ). balance + weight_from (has_offence votes) n (weights_left now)) steps.2
      ∙ weigh_others votes count balance v now (counts_there false result is same) ∙ sums_there

-- ---- offenders are those whose spans have an offence

or_left_false : (b : Bool) → false || b ≡ b
or_left_false b = refl

or_nothing : (b : Bool) → b || false ≡ b
or_nothing true = refl
or_nothing false = refl

of_either : (s : Bool) (x y : Offence) (validator : ℕ) → x.validator ≡ validator → y.validator ≡ validator → (cond {A = Offence} s x y).validator ≡ validator
of_either true x y validator one other = one
of_either false x y validator one other = other

by_validator : (validator : ℕ) (earlier later : Vote) → (offence_by validator earlier later).validator ≡ validator
unfolding offence_by
by_validator validator earlier later =
    of_either (surrounds later earlier) (record { validator = validator; kind = kind_of earlier later; first = later; second = earlier }) (record { validator = validator; kind = kind_of earlier later; first = earlier; second = later }) validator refl refl

abbrev named : List Offence → List ℕ
named offences = map (λ (offence : Offence). offence.validator) offences

in_listed : (o : Option (Vote × Vote)) (validator index : ℕ) → among (named (listed (option_map (λ (pair : Vote × Vote). offence_by validator pair.0 pair.1) o))) index ≡ is_some o && nat_eq validator index
unfolding among listed
in_listed None validator index = refl
in_listed (Some pair) validator index = ap (λ n. nat_eq n index || false) (by_validator validator pair.0 pair.1) ∙ or_nothing (nat_eq validator index)

and_false : (b : Bool) → b && false ≡ false
and_false true = refl
and_false false = refl

and_true : (b : Bool) → b && true ≡ b
and_true true = refl
and_true false = refl

some_of : {A B : Type 0} (f : A → B) (o : Option A) → is_some (option_map f o) ≡ is_some o
some_of f None = refl
some_of f (Some x) = refl

module _ (votes : List Vote) where
  in_one_more : (n index : ℕ) → among (named (offences_below votes (suc n))) index ≡ among (named (offences_below votes n)) index || (is_some (slashable_pair votes n) && nat_eq n index)
  unfolding among offences_below offence_of
  in_one_more n index =
      ap (λ is. list_any (λ i. nat_eq i index) is) (map-append (λ (offence : Offence). offence.validator) (offences_below votes n) (listed (offence_of votes n)))
      ∙ list_any-append (λ i. nat_eq i index) (named (offences_below votes n)) (named (listed (offence_of votes n)))
      ∙ ap (λ b. list_any (λ i. nat_eq i index) (named (offences_below votes n)) || b) (in_listed (slashable_pair votes n) n index)

  none_above : (n index : ℕ) → n ≤ index → among (named (offences_below votes n)) index ≡ false
  unfolding among offences_below
  none_above zero index low = refl
  none_above (suc n) index low =
      in_one_more n index
      ∙ ap (λ b. b || (is_some (slashable_pair votes n) && nat_eq n index)) (none_above n index (omega arith))
      ∙ ap (λ b. is_some (slashable_pair votes n) && b) (ne_eqb n index (λ e. omega arith))
      ∙ and_false (is_some (slashable_pair votes n))

  offender_is : (n index : ℕ) → index < n → among (named (offences_below votes n)) index ≡ is_some (offence_of votes index)
  unfolding offence_of
  offender_is zero index low = absurd (omega arith)
  offender_is (suc n) index low = elim (cases_lt index n) [
    | inl less ↦
        in_one_more n index
        ∙ ap (λ b. among (named (offences_below votes n)) index || (is_some (slashable_pair votes n) && b)) (ne_eqb n index (λ e. omega arith))
        ∙ ap (λ b. among (named (offences_below votes n)) index || b) (and_false (is_some (slashable_pair votes n)))
        ∙ or_nothing (among (named (offences_below votes n)) index)
        ∙ offender_is n index less
    | inr more ↦
        let same : index ≡ n = omega arith in
        in_one_more n index
        ∙ ap (λ b. b || (is_some (slashable_pair votes n) && nat_eq n index)) (none_above n index (omega arith))
        ∙ ap (λ b. is_some (slashable_pair votes n) && b) (eq-eqb n index (sym same))
        ∙ and_true (is_some (slashable_pair votes n))
        ∙ ap (λ i. is_some (slashable_pair votes i)) (sym same)
        ∙ sym (some_of (λ (pair : Vote × Vote). offence_by index pair.0 pair.1) (slashable_pair votes index))
  ]

same_weight : (a b : ℕ → Bool) (index : ℕ) (weights : List ℕ) → ((i : ℕ) → index ≤ i → i < index + length weights → a i ≡ b i) → weight_from a index weights ≡ weight_from b index weights
unfolding weight_from
same_weight a b index [] same = refl
same_weight a b index (w ∷ weights) same =
    ap (λ x. cond x w 0 + weight_from a (index + 1) weights) (same index (omega arith) (omega arith))
    ∙ ap (λ n. cond (b index) w 0 + n) (same_weight a b (index + 1) weights (λ i low high. same i (omega arith) (omega arith)))

weights_len : (vs : List Validator) → length (map weight vs) ≡ length vs
weights_len [] = refl
weights_len (v ∷ vs) = ap suc (weights_len vs)

pub balance_is : (genesis : PlainState) (first second : List AcceptedBlock) (votes : Held) → length votes.spans.spans ≡ length genesis.validators → Holds votes (carried_in first second)
    → weight_of (genesis_weights genesis) (has_offence votes) ≡ balance_of genesis (offences_of genesis first second)
unfolding balance_of offences_of genesis_weights
balance_is genesis first second votes count holds =
    same_weight (has_offence votes) (among (named (offences_of genesis first second))) 0 (map weight genesis.validators) (λ i low high.
    let less : i < length genesis.validators = let n = weights_len genesis.validators in omega arith in
    offends_is votes i (omega arith) (carried_in first second) holds
    ∙ ap (λ n. is_some (offence_of (all_votes_by n (carried_in first second)) i)) count
    ∙ ap (λ (vs : List Vote). is_some (offence_of vs i)) (votes_held genesis first second)
    ∙ sym (offender_is _ (length genesis.validators) i less))

-- what the loop over the registry needs
pub ruleset weighing = (weigh_begins, weigh_more, weigh_others, weigh_ends, weigh_fits)

-- ---- a conflict

pub conflict_is : (genesis : PlainState) (first second : List AcceptedBlock) (a b : Checkpoint) (votes : Held) (balance total : ℕ) → is_agreed genesis first second a b ≡ false → total ≡ genesis_total genesis → nat_lt total (2 * genesis.preset.effective_balance_increment) ≡ false
    → None ≡ moved_on genesis (finalizing_chain first a) → None ≡ moved_on genesis (finalizing_chain second b) → length votes.spans.spans ≡ length genesis.validators → Holds votes (carried_in first second)
    → balance ≡ weight_of (genesis_weights genesis) (has_offence votes) → Conflict balance total ≡ verdict_of genesis first second a b
unfolding verdict_of unless_moved
conflict_is genesis first second a b votes balance total apart total_is large first_stays second_stays count holds weighs =
    let found : ℕ = balance_of genesis (offences_of genesis first second) in
    let all : ℕ = genesis_total genesis in
    let m : Option (List ℕ × ℕ) = moved_on genesis (finalizing_chain first a) in
    let n : Option (List ℕ × ℕ) = moved_on genesis (finalizing_chain second b) in
    let small : Bool = nat_lt all (2 * genesis.preset.effective_balance_increment) in
    ap (λ k. Conflict k total) (weighs ∙ balance_is genesis first second votes count holds)
    ∙ ap (Conflict found) total_is
    ∙ ap (λ (o : Option (List ℕ × ℕ)). unless_moved 1 o (Conflict found all)) second_stays
    ∙ ap (λ (o : Option (List ℕ × ℕ)). unless_moved 0 o (unless_moved 1 n (Conflict found all))) first_stays
    ∙ sym (ap (λ s. cond s (Small all) (unless_moved 0 m (unless_moved 1 n (Conflict found all)))) (ap (λ k. nat_lt k (2 * genesis.preset.effective_balance_increment)) (sym total_is) ∙ large))
    ∙ sym (ap (λ s. cond s Agree (cond small (Small all) (unless_moved 0 m (unless_moved 1 n (Conflict found all))))) apart)
