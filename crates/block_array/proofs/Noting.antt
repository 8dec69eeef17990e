-- Changed validators, and what is counted anew.
use Rattle.std.proofs.Common.{◌≡◌, ℕ, zero, suc, ◌+◌, ◌*◌, nat_lt, ◌<◌, ◌≤◌, ◌⊎◌, inl, inr, Bool, true, false, cond, if◌then◌else◌, ◌||◌, ◌&&◌, not, eqb, List, [], ◌∷◌, ◌++◌, length, max, take, get_or, set, length-append, Option, Some, None, is_some, refl, sym, ap, ◌∙◌, arith}
use Rattle.std.specs.List.{list_any, count_by}
use Rattle.std.specs.Option.{option_map_or}
use Rattle.std.proofs.Math.ListN.{length-set}
use Rattle.std.proofs.lemmas.Bool.{cases_eq, cases_lt, cases_Bool, eq-eqb, ne_eqb}
use Rattle.std.proofs.lemmas.List.{get_or-set_same, get_or-set_other, get_or_past, set-get_or, take_all}
use Rattle.std.proofs.lemmas.List.Sums.{sum_by-cons, sum_by_push, sum_by-set, count_by-le-length}
use Rattle.std.proofs.lemmas.List.Folds.{list_any_more, list_any-append}
use Rattle.block_array.specs.declared.node.Message.{Message}
use Rattle.block_array.specs.declared.tally.Counted.{Counted}
use Rattle.block_array.specs.PlainArray.{PlainArray, message_of, vote_of, balance_of, is_listed}
use Rattle.block_array.specs.UpdateLatestMessages.{with_message, with_changed, voted}
use Rattle.block_array.specs.Work.{deltas_of, has_no_message}
use Rattle.block_array.specs.inside.Counts.{counted_of, Counts, nothing}
use Rattle.block_array.specs.inside.Held.{due, boost_due}
use Rattle.block_array.specs.inside.BestDescendants.{IsCounted}
use Rattle.block_array.specs.inside.Noted.{count_changed, marked, IsNoted, AreMade, AreDue, has_delta, deltas_below, goes_in_order}
use Rattle.block_array.proofs.Deltas.{upto, upto_same, upto_either, upto_list, upto_listed}

module _ (validators : List Counted) (v k : ℕ) (c : Counted) where
  pub counted_same : v < length validators → k ≡ v → counted_of (set validators v c) k ≡ c
  unfolding counted_of
  counted_same inside same = ap (λ i. get_or (set validators v c) i nothing) same ∙ get_or-set_same validators v c nothing inside

  pub counted_other : (k ≡ v → ⊥) → counted_of (set validators v c) k ≡ counted_of validators k
  unfolding counted_of
  counted_other n = get_or-set_other validators v k c nothing n

pub counted_past : (validators : List Counted) (v : ℕ) → length validators ≤ v → counted_of validators v ≡ nothing
unfolding counted_of
counted_past validators v h = get_or_past validators v nothing h

-- the validators alone change, step by step
pub same_step : (a b d : Counts) (validators : List Counted) → b ≡ record a { validators = b.validators } → d ≡ record b { validators = validators } → d ≡ record a { validators = d.validators }
same_step a b d validators e f = f ∙ ap (λ (x : Counts). record x { validators = validators }) e ∙ ap (λ ws. record a { validators = ws }) (sym (ap (λ (x : Counts). x.validators) f))

pub pad_step : (a b d : Counts) (validators : List Counted) → b ≡ record a { validators = b.validators; validator_room = b.validator_room } → d ≡ record b { validators = validators; validator_room = d.validator_room } → d ≡ record a { validators = d.validators; validator_room = d.validator_room }
pad_step a b d validators e f = f ∙ ap (λ (x : Counts). record x { validators = validators; validator_room = d.validator_room }) e ∙ ap (λ ws. record a { validators = ws; validator_room = d.validator_room }) (sym (ap (λ (x : Counts). x.validators) f))

-- what they are then
pub validators_are : (a b : Counts) (validators : List Counted) → b ≡ record a { validators = validators } → b.validators ≡ validators
validators_are a b validators e = ap (λ (c : Counts). c.validators) e

-- ---- one changed validator after another

pub made_none : (array : PlainArray) (before : List Counted) (changed : List ℕ) (i : ℕ) → i ≡ 0 → AreMade array before before (take i changed)
unfolding AreMade is_listed
made_none array before changed i z = λ v. ap (λ n. cond (list_any (λ other. eqb other v) (take n changed)) (due array v) (counted_of before v)) (sym z)

listed_more : (changed : List ℕ) (i v : ℕ) → i < length changed → is_listed (take (i + 1) changed) v ≡ (is_listed (take i changed) v || eqb (get_or changed i 0) v)
unfolding is_listed
listed_more changed i v h = list_any_more (λ other. eqb other v) changed i 0 h

pub made_more : (array : PlainArray) (before after : List Counted) (changed : List ℕ) (i : ℕ) → i < length changed → get_or changed i 0 < length after → AreMade array before after (take i changed) → AreMade array before (set after (get_or changed i 0) (due array (get_or changed i 0))) (take (i + 1) changed)
unfolding AreMade
made_more array before after changed i inside below made = λ v. by v (cases_eq v (get_or changed i 0))
  where
    one : ℕ
    one = get_or changed i 0

    or_true : (b : Bool) → (b || true) ≡ true
    or_true true = refl
    or_true false = refl

    or_false : (b : Bool) → (b || false) ≡ b
    or_false true = refl
    or_false false = refl

    by : (v : ℕ) → (v ≡ one) ⊎ (v ≡ one → ⊥) → counted_of (set after one (due array one)) v ≡ cond (is_listed (take (i + 1) changed) v) (due array v) (counted_of before v)
    by v (inl same) =
        counted_same after one v (due array one) below same ∙ ap (due array) (sym same)
        ∙ sym (ap (λ b. cond b (due array v) (counted_of before v)) (listed_more changed i v inside ∙ ap (λ b. is_listed (take i changed) v || b) (eq-eqb one v (sym same)) ∙ or_true (is_listed (take i changed) v)))
    by v (inr other) =
        counted_other after one v (due array one) other ∙ made v
        ∙ sym (ap (λ b. cond b (due array v) (counted_of before v)) (listed_more changed i v inside ∙ ap (λ b. is_listed (take i changed) v || b) (ne_eqb one v (λ e. other (sym e))) ∙ or_false (is_listed (take i changed) v)))

listed_at : (xs : List ℕ) (i : ℕ) → i < length xs → is_listed xs (get_or xs i 0) ≡ true
unfolding is_listed
listed_at [] i h = absurd (omega arith)
listed_at (x ∷ xs) zero h = ap (λ b. b || list_any (λ other. eqb other x) xs) (eq-eqb x x refl)
listed_at (x ∷ xs) (suc i) h = ap (λ b. eqb x (get_or xs i 0) || b) (listed_at xs i (omega arith)) ∙ or_true (eqb x (get_or xs i 0))
  where
    or_true : (b : Bool) → (b || true) ≡ true
    or_true true = refl
    or_true false = refl

-- a changed validator has a place
pub changed_below : (array : PlainArray) (counts : Counts) → IsNoted array counts → (i : ℕ) → i < length array.changed_validators → get_or array.changed_validators i 0 < length counts.validators
changed_below array counts noted i inside = by (cases_lt v (length counts.validators))
  where
    v : ℕ
    v = get_or array.changed_validators i 0

    by : (v < length counts.validators) ⊎ (length counts.validators ≤ v) → v < length counts.validators
    by (inl h) = h
    by (inr past) =
        absurd (let e : true ≡ false = sym (noted.listed v ∙ listed_at array.changed_validators i inside) ∙ ap (λ (c : Counted). c.changed) (counted_past counts.validators v past) in cc)

pub ruleset changing = (made_none, made_more, changed_below)

-- where not all are gone through, balances weren't set
pub not_set : (array : PlainArray) (validators : List Counted) → goes_in_order array validators ≡ false → array.balances_set ≡ false
unfolding goes_in_order
not_set array validators e = by array.balances_set (nat_lt (length validators) (32 * length array.changed_validators)) e
  where
    by : (b few : Bool) → (b || few) ≡ false → b ≡ false
    by true few e = absurd cc
    by false few e = refl

pub changed_deltas : (array : PlainArray) → array.balances_set ≡ false → deltas_of array ≡ length array.changed_validators
unfolding deltas_of
changed_deltas array kept = ap (λ b. cond b (count_by is_some array.latest_messages + count_by (has_no_message array) array.changed_validators) (length array.changed_validators)) kept

-- ---- one validator after another

pub due_none : (array : PlainArray) (v : ℕ) → message_of array v ≡ None → due array v ≡ nothing
unfolding due vote_of
due_none array v e = by (is_listed array.silenced_validators v)
  where
    by : (b : Bool) → option_map_or (λ (message : Message). record { node = message.node; balance = balance_of array v; changed = false }) (cond b None (message_of array v)) nothing ≡ nothing
    by true = refl
    by false = ap (λ o. option_map_or (λ (message : Message). record { node = message.node; balance = balance_of array v; changed = false }) o nothing) e

pub set_idle : (array : PlainArray) (validators : List Counted) (v : ℕ) → counted_of validators v ≡ due array v → set validators v (due array v) ≡ validators
unfolding counted_of
set_idle array validators v current = ap (set validators v) (sym current) ∙ set-get_or validators v nothing

pub ruleset idling = (set_idle)

-- a validator without a delta is counted as is due
pub idle_due : (array : PlainArray) (counts : Counts) → IsNoted array counts → (v : ℕ) → has_delta array counts.validators v ≡ false → counted_of counts.validators v ≡ due array v
unfolding has_delta
idle_due array counts noted v idle = by array.balances_set refl
  where
    none_of : (o : Option Message) → is_some o ≡ false → o ≡ None
    none_of None e = refl
    none_of (Some message) e = absurd cc

    neither : (a b : Bool) → (a || b) ≡ false → (a ≡ false) × (b ≡ false)
    neither true b e = absurd cc
    neither false b e = (refl, e)

    parts : ((counted_of counts.validators v).changed ≡ false) × ((array.balances_set && is_some (message_of array v)) ≡ false)
    parts = neither (counted_of counts.validators v).changed (array.balances_set && is_some (message_of array v)) idle

    by : (b : Bool) → array.balances_set ≡ b → counted_of counts.validators v ≡ due array v
    by true e = let m : message_of array v ≡ None = none_of (message_of array v) (sym (ap (λ b. b && is_some (message_of array v)) e) ∙ parts.1) in noted.idle v m parts.0 ∙ sym (due_none array v m)
    by false e = noted.current e v parts.0

pub delta_same : (array : PlainArray) (validators others : List Counted) (v : ℕ) → counted_of validators v ≡ counted_of others v → has_delta array validators v ≡ has_delta array others v
unfolding has_delta
delta_same array validators others v e = ap (λ (c : Counted). c.changed || (array.balances_set && is_some (message_of array v))) e

pub deltas_more : (array : PlainArray) (after before : List Counted) (i : ℕ) → counted_of after i ≡ counted_of before i → deltas_below array before (i + 1) ≡ deltas_below array before i + (if has_delta array after i then 1 else 0)
unfolding deltas_below
deltas_more array after before i same =
    ap (deltas_below array before) (let e : i + 1 ≡ suc i = omega arith in e)
    ∙ ap (λ b. deltas_below array before i + (if b then 1 else 0)) (sym (delta_same array after before i same))

pub deltas_none : (array : PlainArray) (validators : List Counted) (i : ℕ) → i ≡ 0 → deltas_below array validators i ≡ 0
unfolding deltas_below
deltas_none array validators i z = ap (deltas_below array validators) z

below_is : (array : PlainArray) (validators : List Counted) (n : ℕ) → deltas_below array validators n ≡ upto (has_delta array validators) n
unfolding deltas_below upto
below_is array validators zero = refl
below_is array validators (suc n) = ap (λ x. x + (if has_delta array validators n then 1 else 0)) (below_is array validators n)

-- where balances weren't set, those that changed have a delta
kept_below : (array : PlainArray) (counts : Counts) → IsNoted array counts → array.balances_set ≡ false → (n : ℕ) → length counts.validators ≤ n → upto (has_delta array counts.validators) n ≡ length array.changed_validators
unfolding has_delta counted_of count_changed
kept_below array counts noted kept n all =
    upto_same (has_delta array counts.validators) (λ v. (get_or counts.validators v nothing).changed) (λ v. ap (λ b. (get_or counts.validators v nothing).changed || (b && is_some (message_of array v))) kept ∙ or_false (get_or counts.validators v nothing).changed) n
    ∙ upto_list (λ (c : Counted). c.changed) counts.validators nothing refl n
    ∙ ap count_changed (take_all n counts.validators all)
    ∙ noted.many
  where
    or_false : (b : Bool) → (b || false) ≡ b
    or_false true = refl
    or_false false = refl

-- and where they were, those that have a message have one, and those that have none and changed
set_below : (array : PlainArray) (counts : Counts) → IsNoted array counts → (n : ℕ) → length counts.validators ≤ n
    → upto (has_delta array counts.validators) n ≤ count_by is_some array.latest_messages + count_by (has_no_message array) array.changed_validators
unfolding has_delta has_no_message message_of
set_below array counts noted n all =
    let split : upto (has_delta array counts.validators) n ≤ upto (λ v. is_some (get_or array.latest_messages v None)) n + upto (λ v. not (is_some (get_or array.latest_messages v None)) && is_listed array.changed_validators v) n =
    upto_either (has_delta array counts.validators) (λ v. is_some (get_or array.latest_messages v None)) (λ v. not (is_some (get_or array.latest_messages v None)) && is_listed array.changed_validators v)
    (λ v. one (counted_of counts.validators v).changed (is_listed array.changed_validators v) array.balances_set (is_some (get_or array.latest_messages v None)) (noted.listed v)) n in
    let messages : upto (λ v. is_some (get_or array.latest_messages v None)) n ≡ count_by is_some array.latest_messages =
    upto_list is_some array.latest_messages None refl n ∙ ap (count_by is_some) (take_all n array.latest_messages (let l = noted.covers in omega arith)) in
    let others : upto (λ v. not (is_some (get_or array.latest_messages v None)) && is_listed array.changed_validators v) n ≤ count_by (has_no_message array) array.changed_validators =
    upto_listed (has_no_message array) array.changed_validators n in
    omega arith
  where
    one : (changed listed set some : Bool) → changed ≡ listed → cond (changed || (set && some)) 1 0 ≤ cond some 1 0 + cond (not some && listed) 1 0
    one true true set true e = omega arith
    one true true set false e = omega arith
    one false false true true e = omega arith
    one false false true false e = omega arith
    one false false false true e = omega arith
    one false false false false e = omega arith
    one true false set some e = absurd cc
    one false true set some e = absurd cc

pub deltas_all : (array : PlainArray) (counts : Counts) → IsNoted array counts → (n : ℕ) → length counts.validators ≤ n → deltas_below array counts.validators n ≤ deltas_of array
unfolding deltas_of
deltas_all array counts noted n all = by array.balances_set refl
  where
    by : (b : Bool) → array.balances_set ≡ b → deltas_below array counts.validators n ≤ cond b (count_by is_some array.latest_messages + count_by (has_no_message array) array.changed_validators) (length array.changed_validators)
    by true e = let is = below_is array counts.validators n in let h = set_below array counts noted n all in omega arith
    by false e = let is = below_is array counts.validators n in let h = kept_below array counts noted e n all in omega arith

pub due_first : (array : PlainArray) (validators : List Counted) (n : ℕ) → n ≡ 0 → AreDue array validators n
unfolding AreDue
due_first array validators n z = λ v h. absurd (omega arith)

pub due_more : (array : PlainArray) (validators : List Counted) (n : ℕ) → n < length validators → AreDue array validators n → AreDue array (set validators n (due array n)) (n + 1)
unfolding AreDue
due_more array validators n inside dues = λ v h. by v h (cases_eq v n)
  where
    by : (v : ℕ) → v < n + 1 → (v ≡ n) ⊎ (v ≡ n → ⊥) → counted_of (set validators n (due array n)) v ≡ due array v
    by v h (inl same) = counted_same validators n v (due array n) inside same ∙ ap (due array) (sym same)
    by v h (inr other) = counted_other validators n v (due array n) other ∙ dues v (omega arith)

-- ---- all that is due

pub due_changed : (array : PlainArray) (counts : Counts) (after : List Counted) → IsNoted array counts → array.balances_set ≡ false → AreMade array counts.validators after array.changed_validators → AreDue array after (length after)
unfolding AreMade AreDue
due_changed array counts after noted kept made = λ v h. made v ∙ by v (cases_Bool (is_listed array.changed_validators v))
  where
    by : (v : ℕ) → (is_listed array.changed_validators v ≡ true) ⊎ (is_listed array.changed_validators v ≡ false) → cond (is_listed array.changed_validators v) (due array v) (counted_of counts.validators v) ≡ due array v
    by v (inl is) = ap (λ b. cond b (due array v) (counted_of counts.validators v)) is
    by v (inr isnt) = ap (λ b. cond b (due array v) (counted_of counts.validators v)) isnt ∙ noted.current kept v (noted.listed v ∙ isnt)

pub all_counted : (array : PlainArray) (before after : Counts) → IsNoted array before → after.nodes ≡ before.nodes → length after.validators ≡ length before.validators → AreDue array after.validators (length after.validators) → after.boost ≡ boost_due array → IsCounted array after
unfolding AreDue counted_of
all_counted array before after noted nodes len dues boost = record {
  nodes = nodes ∙ noted.nodes;
  covers = (let l = noted.covers in omega arith);
  validators = dues;
  boost = boost;
}

pub ruleset in_order = (deltas_none, deltas_all, due_first, due_more)

pub ruleset computing_deltas = (not_set, all_counted)

-- ---- places for more validators

pub pad_same : (validators : List Counted) (v : ℕ) → counted_of (validators ++ nothing ∷ []) v ≡ counted_of validators v
unfolding counted_of
pad_same [] zero = refl
pad_same [] (suc v) = refl
pad_same (c ∷ validators) zero = refl
pad_same (c ∷ validators) (suc v) = pad_same validators v

pub pad_many : (validators : List Counted) → count_changed (validators ++ nothing ∷ []) ≡ count_changed validators
unfolding count_changed
pad_many validators = let e : count_changed (validators ++ nothing ∷ []) ≡ count_changed validators + 0 = sum_by_push (λ (c : Counted). cond c.changed 1 0) validators nothing in omega arith

pub ruleset padding = (pad_same, pad_many)

pub marked_length : (validators : List Counted) (v : ℕ) → length (marked validators v) ≡ length validators
unfolding marked
marked_length validators v = by (counted_of validators v).changed
  where
    by : (b : Bool) → length (cond b validators (set validators v (record (counted_of validators v) { changed = true }))) ≡ length validators
    by true = refl
    by false = length-set validators v (record (counted_of validators v) { changed = true })

set_marks : (validators : List Counted) (v : ℕ) → v < length validators → count_changed (set validators v (record (counted_of validators v) { changed = true })) + cond (counted_of validators v).changed 1 0 ≡ count_changed validators + 1
unfolding count_changed counted_of
set_marks validators v inside = sum_by-set (λ (c : Counted). cond c.changed 1 0) validators v (record (get_or validators v nothing) { changed = true }) nothing inside

-- ---- one vote that is news

-- a validator that isn't marked leaves room for its mark
pub one_unmarked : (validators : List Counted) (v : ℕ) → v < length validators → (counted_of validators v).changed ≡ false → count_changed validators < length validators
unfolding count_changed counted_of
one_unmarked [] v h e = absurd (omega arith)
one_unmarked (c ∷ validators) zero h e =
    let s : count_changed (c ∷ validators) ≡ cond c.changed 1 0 + count_changed validators = sum_by-cons (λ (c : Counted). cond c.changed 1 0) c validators in
    let z : cond c.changed 1 0 ≡ (let z : ℕ = 0 in z) = ap (λ b. cond b 1 0) e in
    let l : count_changed validators ≤ length validators = count_by-le-length (λ (c : Counted). c.changed) validators in
    omega arith
one_unmarked (c ∷ validators) (suc v) h e =
    let s : count_changed (c ∷ validators) ≡ cond c.changed 1 0 + count_changed validators = sum_by-cons (λ (c : Counted). cond c.changed 1 0) c validators in
    let z : cond c.changed 1 0 ≤ 1 = at_most c.changed in
    let l : count_changed validators < length validators = one_unmarked validators v (omega arith) e in
    omega arith
  where
    at_most : (b : Bool) → cond b 1 0 ≤ 1
    at_most true = omega arith
    at_most false = omega arith

pub ruleset marking = (one_unmarked)

pub with_length : (messages : List (Option Message)) (v : ℕ) (message : Message) → length (with_message messages v message) ≡ max (length messages) (v + 1)
unfolding with_message
with_length [] zero message = omega arith
with_length [] (suc v) message = let e : length (with_message [] v message) ≡ max 0 (v + 1) = with_length [] v message in omega arith
with_length (m ∷ messages) zero message = omega arith
with_length (m ∷ messages) (suc v) message = let e : length (with_message messages v message) ≡ max (length messages) (v + 1) = with_length messages v message in omega arith

with_other : (messages : List (Option Message)) (v k : ℕ) (message : Message) → (k ≡ v → ⊥) → get_or (with_message messages v message) k None ≡ get_or messages k None
unfolding with_message
with_other [] zero zero message n = absurd (n refl)
with_other [] zero (suc k) message n = refl
with_other [] (suc v) zero message n = refl
with_other [] (suc v) (suc k) message n = with_other [] v k message (λ e. n (ap suc e))
with_other (m ∷ messages) zero zero message n = absurd (n refl)
with_other (m ∷ messages) zero (suc k) message n = refl
with_other (m ∷ messages) (suc v) zero message n = refl
with_other (m ∷ messages) (suc v) (suc k) message n = with_other messages v k message (λ e. n (ap suc e))

-- an array that differs at one validator alone, which changed
module _ (array new : PlainArray) (counts : Counts) (noted : IsNoted array counts) (v : ℕ)
    (changes : new.changed_validators ≡ with_changed array.changed_validators v) (same_nodes : new.nodes ≡ array.nodes) (same_set : new.balances_set ≡ array.balances_set)
    (places : length new.latest_messages ≤ max (length array.latest_messages) (v + 1))
    (message_other : (k : ℕ) → (k ≡ v → ⊥) → message_of new k ≡ message_of array k) (due_other : (k : ℕ) → (k ≡ v → ⊥) → due new k ≡ due array k) where
  module _ (after : Counts) (padded : List Counted) (same : (k : ℕ) → counted_of padded k ≡ counted_of counts.validators k) (many : count_changed padded ≡ count_changed counts.validators) (len : length padded ≡ max (length counts.validators) (v + 1)) (nodes : after.nodes ≡ counts.nodes) where
    inside : v < length padded
    inside = omega arith

    listed_here : (counted_of padded v).changed ≡ is_listed array.changed_validators v
    listed_here = ap (λ (c : Counted). c.changed) (same v) ∙ noted.listed v

    built : (validators : List Counted) (changed : List ℕ) → after.validators ≡ validators → with_changed array.changed_validators v ≡ changed → length validators ≡ length padded → count_changed validators ≡ length changed
        → ((k : ℕ) → (counted_of validators k).changed ≡ is_listed changed k) → (counted_of validators v).changed ≡ true → ((k : ℕ) → (k ≡ v → ⊥) → counted_of validators k ≡ counted_of counts.validators k) → IsNoted new after
    built validators changed vs cs l m listed here other = record {
      nodes = nodes ∙ noted.nodes ∙ ap length (sym same_nodes);
      covers =
          let a : length after.validators ≡ length validators = ap length vs in
          let b : length array.latest_messages ≤ length counts.validators = noted.covers in
          omega arith;
      listed = λ k. ap (λ ws. (counted_of ws k).changed) vs ∙ listed k ∙ ap (λ xs. is_listed xs k) (sym (changes ∙ cs));
      many = ap count_changed vs ∙ m ∙ ap length (sym (changes ∙ cs));
      idle = λ k none unmarked. ap (λ ws. counted_of ws k) vs ∙ idle_at k none (sym (ap (λ ws. (counted_of ws k).changed) vs) ∙ unmarked) (cases_eq k v);
      current = λ kept k unmarked. ap (λ ws. counted_of ws k) vs ∙ current_at (sym same_set ∙ kept) k (sym (ap (λ ws. (counted_of ws k).changed) vs) ∙ unmarked) (cases_eq k v);
    }
      where
        idle_at : (k : ℕ) → message_of new k ≡ None → (counted_of validators k).changed ≡ false → (k ≡ v) ⊎ (k ≡ v → ⊥) → counted_of validators k ≡ nothing
        idle_at k none unmarked (inl is) = absurd (let e : false ≡ true = sym unmarked ∙ ap (λ i. (counted_of validators i).changed) is ∙ here in cc)
        idle_at k none unmarked (inr isnt) = other k isnt ∙ noted.idle k (sym (message_other k isnt) ∙ none) (sym (ap (λ (c : Counted). c.changed) (other k isnt)) ∙ unmarked)

        current_at : array.balances_set ≡ false → (k : ℕ) → (counted_of validators k).changed ≡ false → (k ≡ v) ⊎ (k ≡ v → ⊥) → counted_of validators k ≡ due new k
        current_at kept k unmarked (inl is) = absurd (let e : false ≡ true = sym unmarked ∙ ap (λ i. (counted_of validators i).changed) is ∙ here in cc)
        current_at kept k unmarked (inr isnt) = other k isnt ∙ noted.current kept k (sym (ap (λ (c : Counted). c.changed) (other k isnt)) ∙ unmarked) ∙ sym (due_other k isnt)

    was_listed : is_listed array.changed_validators v ≡ true → after.validators ≡ marked padded v → IsNoted new after
    unfolding marked with_changed
    was_listed yet vs =
        built padded array.changed_validators
        (vs ∙ ap (λ b. cond b padded (set padded v (record (counted_of padded v) { changed = true }))) (listed_here ∙ yet))
        (ap (λ b. cond b array.changed_validators (array.changed_validators ++ v ∷ [])) yet)
        refl (many ∙ noted.many) (λ k. ap (λ (c : Counted). c.changed) (same k) ∙ noted.listed k) (listed_here ∙ yet) (λ k n. same k)

    listed_push : (k : ℕ) → is_listed (array.changed_validators ++ v ∷ []) k ≡ (is_listed array.changed_validators k || eqb v k)
    unfolding is_listed
    listed_push k = list_any-append (λ other. eqb other k) array.changed_validators (v ∷ []) ∙ ap (λ b. list_any (λ other. eqb other k) array.changed_validators || b) (or_false (eqb v k))
      where
        or_false : (b : Bool) → (b || false) ≡ b
        or_false true = refl
        or_false false = refl

    not_listed : is_listed array.changed_validators v ≡ false → after.validators ≡ marked padded v → IsNoted new after
    unfolding marked with_changed
    not_listed yet vs =
        built (set padded v one) (array.changed_validators ++ v ∷ [])
        (vs ∙ ap (λ b. cond b padded (set padded v one)) (listed_here ∙ yet))
        (ap (λ b. cond b array.changed_validators (array.changed_validators ++ v ∷ [])) yet)
        (length-set padded v one) marks (λ k. listed_at k (cases_eq k v))
        (ap (λ (c : Counted). c.changed) (counted_same padded v v one inside refl))
        (λ k n. counted_other padded v k one n ∙ same k)
      where
        one : Counted
        one = record (counted_of padded v) { changed = true }

        or_true : (b : Bool) → (b || true) ≡ true
        or_true true = refl
        or_true false = refl

        or_false : (b : Bool) → (b || false) ≡ b
        or_false true = refl
        or_false false = refl

        listed_at : (k : ℕ) → (k ≡ v) ⊎ (k ≡ v → ⊥) → (counted_of (set padded v one) k).changed ≡ is_listed (array.changed_validators ++ v ∷ []) k
        listed_at k (inl is) = ap (λ (c : Counted). c.changed) (counted_same padded v k one inside is) ∙ sym (listed_push k ∙ ap (λ b. is_listed array.changed_validators k || b) (eq-eqb v k (sym is)) ∙ or_true (is_listed array.changed_validators k))
        listed_at k (inr isnt) = ap (λ (c : Counted). c.changed) (counted_other padded v k one isnt ∙ same k) ∙ noted.listed k ∙ sym (listed_push k ∙ ap (λ b. is_listed array.changed_validators k || b) (ne_eqb v k (λ e. isnt (sym e))) ∙ or_false (is_listed array.changed_validators k))

        marks : count_changed (set padded v one) ≡ length (array.changed_validators ++ v ∷ [])
        marks =
            let z : cond (counted_of padded v).changed 1 0 ≡ (let z : ℕ = 0 in z) = ap (λ b. cond b 1 0) (listed_here ∙ yet) in
            let s : count_changed (set padded v one) + cond (counted_of padded v).changed 1 0 ≡ count_changed padded + 1 = set_marks padded v inside in
            let m : count_changed padded ≡ length array.changed_validators = many ∙ noted.many in
            let a : length (array.changed_validators ++ v ∷ []) ≡ length array.changed_validators + 1 = length-append array.changed_validators (v ∷ []) in
            omega arith

    pub noted_change : after.validators ≡ marked padded v → IsNoted new after
    noted_change vs = by (cases_Bool (is_listed array.changed_validators v))
      where
        by : (is_listed array.changed_validators v ≡ true) ⊎ (is_listed array.changed_validators v ≡ false) → IsNoted new after
        by (inl is) = was_listed is vs
        by (inr isnt) = not_listed isnt vs

module _ (array : PlainArray) (counts : Counts) (noted : IsNoted array counts) (v : ℕ) (message : Message) where
  message_other : (k : ℕ) → (k ≡ v → ⊥) → message_of (voted array v message) k ≡ message_of array k
  unfolding message_of voted
  message_other k n = with_other array.latest_messages v k message n

  due_other : (k : ℕ) → (k ≡ v → ⊥) → due (voted array v message) k ≡ due array k
  unfolding due balance_of vote_of voted
  due_other k n = ap (λ o. option_map_or (λ m. record { node = m.node; balance = get_or array.balances k 0; changed = false }) (cond (is_listed array.silenced_validators k) None o) nothing) (message_other k n)

  places : length (voted array v message).latest_messages ≤ max (length array.latest_messages) (v + 1)
  unfolding voted
  places = let e : length (with_message array.latest_messages v message) ≡ max (length array.latest_messages) (v + 1) = with_length array.latest_messages v message in omega arith

  pub noted_vote : (after : Counts) (padded : List Counted) → ((k : ℕ) → counted_of padded k ≡ counted_of counts.validators k) → count_changed padded ≡ count_changed counts.validators → length padded ≡ max (length counts.validators) (v + 1) → after.nodes ≡ counts.nodes → after.validators ≡ marked padded v → IsNoted (voted array v message) after
  unfolding voted
  noted_vote after padded same many len nodes vs = noted_change array (voted array v message) counts noted v refl refl refl places message_other due_other after padded same many len nodes vs

pub ruleset voting = (noted_vote)
