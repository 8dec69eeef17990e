-- Validators in groups of sixteen: where each of them stands, another group at a place, and one more validator.
use Rattle.std.proofs.Common.{◌≡◌, ℕ, zero, suc, ◌+◌, ◌*◌, ◌/◌, ◌%◌, ◌<◌, ◌≤◌, List, [], ◌∷◌, ◌++◌, length, take, drop, replicate, refl, sym, ap, ap₂, subst, ◌∙◌, arith, length-append, length-take, length-set}
use Rattle.std.specs.Prelude.{slice_get, slice_set, Some, None}
use Rattle.std.proofs.lemmas.List.{append-nil, append_assoc, nil_from_length, set-append_left, set-append_right}
use Rattle.std.proofs.lemmas.Option.{none-some, same_Some, slice_get_within, slice_get_past}
use Rattle.std.proofs.Math.Seq.{take-add}
use Rattle.beacon_types.specs.declared.validator.Validator.{Validator}
use Rattle.tree_nodes.specs.inside.Puts.{put_at}
use Rattle.tree_nodes.proofs.Puts.{put_set}
use Rattle.validator_registry.specs.Registries.{with_balance}
use Rattle.validator_registry.specs.inside.Groups.{joined, AreGroups}

module _ {A : Type 0} where
  -- what stands in the first of two lists
  get_left : (xs ys : List A) (i : ℕ) → i < length xs → slice_get (xs ++ ys) i ≡ slice_get xs i
  get_left [] ys i h = absurd (omega arith)
  get_left (x ∷ xs) ys zero h = refl
  get_left (x ∷ xs) ys (suc i) h = get_left xs ys i (omega arith)

  -- and what in the second
  get_right : (xs ys : List A) (i n : ℕ) → i ≡ length xs + n → slice_get (xs ++ ys) i ≡ slice_get ys n
  get_right [] ys i n is = ap (λ (k : ℕ). slice_get ys k) (omega arith)
  get_right (x ∷ xs) ys zero n is = absurd (omega arith)
  get_right (x ∷ xs) ys (suc i) n is = get_right xs ys i n (omega arith)

  -- where nothing stands, the list ends before
  end_before : (xs : List A) (k : ℕ) → slice_get xs k ≡ None → length xs ≤ k
  end_before [] k is = omega arith
  end_before (x ∷ xs) zero is = absurd (none-some x (sym is))
  end_before (x ∷ xs) (suc k) is = omega (arith, end_before xs k is)

-- of two lists where the first has sixteen items or the second has none: a place below sixteen is one of the first
within_first : (one others n : ℕ) → (0 < others → one ≡ 16) → n < one + others → n < 16 → n < one
within_first one zero n full within low = omega arith
within_first one (suc others) n full within low = omega (arith, full (omega arith))

-- and where they have fewer than sixteen together, the first has them all
all_first : (one others n : ℕ) → (0 < others → one ≡ 16) → one + others ≡ n → n < 16 → (one ≡ n) × (others ≡ 0)
all_first one zero n full sum low = (omega arith, refl)
all_first one (suc others) n full sum low = absurd (omega (arith, full (omega arith)))

-- and where they have sixteen or more together, the first has sixteen
full_first : (one others n : ℕ) → one ≤ 16 → (0 < others → one ≡ 16) → one + others ≡ 16 + n → (one ≡ 16) × (others ≡ n)
full_first one zero n few full sum = (omega arith, omega arith)
full_first one (suc others) n few full sum = let sixteen = full (omega arith) in (sixteen, omega arith)

-- what stands at a place below sixteen, and what at one behind
get_here : (f behind : List Validator) (i : ℕ) → (0 < length behind → length f ≡ 16) → i < 16
    → slice_get (f ++ behind) i ≡ slice_get f i
get_here f [] i full low = ap (λ (l : List Validator). slice_get l i) (append-nil f)
get_here f (v ∷ vs) i full low = get_left f (v ∷ vs) i (omega (arith, full (omega arith)))

get_next : (f behind : List Validator) (i n : ℕ) → length f ≤ 16 → (0 < length behind → length f ≡ 16) → i ≡ 16 + n
    → slice_get (f ++ behind) i ≡ slice_get behind n
get_next f [] i n few full is =
    slice_get_past (f ++ []) i (omega (arith, length-append f [])) ∙ sym (slice_get_past {X = Validator} [] n (omega arith))
get_next f (v ∷ vs) i n few full is = get_right f (v ∷ vs) i n (omega (arith, full (omega arith)))

-- the groups have room for their validators
pub room : (gs : List (List Validator)) → AreGroups gs → length (joined gs) ≤ 16 * length gs
unfolding joined
room [] h = omega arith
room (g ∷ gs) h = omega (arith, h.0, room gs h.2, length-append g (joined gs))

-- the group of a validator is there
pub group_there : (gs : List (List Validator)) (at : ℕ) → AreGroups gs → at < length (joined gs) → at / 16 < length gs
group_there gs at h within = omega (arith, room gs h)

-- and no more than all groups have
group_among : (gs : List (List Validator)) (k : ℕ) (g : List Validator) → slice_get gs k ≡ Some g → length g ≤ length (joined gs)
unfolding joined
group_among [] k g is = absurd (none-some g is)
group_among (f ∷ gs) zero g is = let long = ap length (same_Some f g is) in omega (arith, length-append f (joined gs))
group_among (f ∷ gs) (suc k) g is = omega (arith, length-append f (joined gs), group_among gs k g is)

-- a place below the last, as a number of groups and a place in the next
place_in : (gs : List (List Validator)) (k at n : ℕ) (g : List Validator) → AreGroups gs → at ≡ k * 16 + n → n < 16
    → at < length (joined gs) → slice_get gs k ≡ Some g → n < length g
unfolding joined
place_in [] k at n g h place low within is = absurd (none-some g is)
place_in (f ∷ gs) zero at n g h place low within is =
    let long = ap length (same_Some f g is) in
    let below = within_first (length f) (length (joined gs)) n h.1 (omega (arith, length-append f (joined gs))) low in
    omega arith
place_in (f ∷ gs) (suc k) at n g h place low within is =
    let few = h.0 in
    place_in gs k (k * 16 + n) n g h.2 refl low (omega (arith, length-append f (joined gs))) is

-- and what stands there
get_in : (gs : List (List Validator)) (k at n : ℕ) (g : List Validator) → AreGroups gs → at ≡ k * 16 + n → n < 16
    → slice_get gs k ≡ Some g → slice_get (joined gs) at ≡ slice_get g n
unfolding joined
get_in [] k at n g h place low is = absurd (none-some g is)
get_in (f ∷ gs) zero at n g h place low is =
    get_here f (joined gs) at h.1 (omega arith)
    ∙ ap₂ (λ (l : List Validator) (i : ℕ). slice_get l i) (same_Some f g is) (omega arith)
get_in (f ∷ gs) (suc k) at n g h place low is =
    get_next f (joined gs) at (k * 16 + n) h.0 h.1 (omega arith) ∙ get_in gs k (k * 16 + n) n g h.2 refl low is

-- a validator's place is in its group
pub place_in_group : (gs : List (List Validator)) (at : ℕ) (g : List Validator) → AreGroups gs → at < length (joined gs)
    → slice_get gs (at / 16) ≡ Some g → at % 16 < length g
place_in_group gs at g h within is = place_in gs (at / 16) at (at % 16) g h (omega arith) (omega arith) within is

-- and what the group has there, all groups have at the place
pub get_joined : (gs : List (List Validator)) (at : ℕ) (g : List Validator) → AreGroups gs → slice_get gs (at / 16) ≡ Some g
    → slice_get g (at % 16) ≡ slice_get (joined gs) at
get_joined gs at g h is = sym (get_in gs (at / 16) at (at % 16) g h (omega arith) (omega arith) is)

-- behind the groups there is no validator
get_past : (gs : List (List Validator)) (at : ℕ) → AreGroups gs → length gs ≤ at / 16 → None ≡ slice_get (joined gs) at
get_past gs at h behind = sym (slice_get_past (joined gs) at (omega (arith, room gs h)))

pub get_behind : (gs : List (List Validator)) (at : ℕ) → AreGroups gs → slice_get gs (at / 16) ≡ None
    → None ≡ slice_get (joined gs) at
get_behind gs at h is = get_past gs at h (end_before gs (at / 16) is)

-- a change of one validator in a list is the same in each part of it
record IsChange (change : List Validator → ℕ → List Validator) : Type 0 where
  long : (vs : List Validator) (i : ℕ) → length (change vs i) ≡ length vs
  left : (vs ws : List Validator) (i : ℕ) → i < length vs → change (vs ++ ws) i ≡ change vs i ++ ws
  right : (vs ws : List Validator) (i n : ℕ) → i ≡ length vs + n → change (vs ++ ws) i ≡ vs ++ change ws n

-- another group with as many validators: there are as many as before
length_same : (gs : List (List Validator)) (k : ℕ) (g new : List Validator) → slice_get gs k ≡ Some g → length new ≡ length g
    → length (joined (slice_set gs k new)) ≡ length (joined gs)
unfolding joined
length_same [] k g new is long = absurd (none-some g is)
length_same (f ∷ gs) zero g new is long =
    omega (arith, ap length (same_Some f g is), length-append f (joined gs), length-append new (joined gs))
length_same (f ∷ gs) (suc k) g new is long =
    omega (arith, length_same gs k g new is long, length-append f (joined gs), length-append f (joined (slice_set gs k new)))

-- and the groups stay groups
groups_same : (gs : List (List Validator)) (k : ℕ) (g new : List Validator) → AreGroups gs → slice_get gs k ≡ Some g
    → length new ≡ length g → AreGroups (slice_set gs k new)
groups_same [] k g new h is long = absurd (none-some g is)
groups_same (f ∷ gs) zero g new h is long =
    let same : length new ≡ length f = long ∙ sym (ap length (same_Some f g is)) in
    (omega (arith, h.0), (λ behind. same ∙ h.1 behind), h.2)
groups_same (f ∷ gs) (suc k) g new h is long =
    (h.0, (λ behind. h.1 (omega (arith, length_same gs k g new is long))), groups_same gs k g new h.2 is long)

-- a change of a validator in a group
change_in : (change : List Validator → ℕ → List Validator) → IsChange change → (gs : List (List Validator)) (k at n : ℕ)
    (g new : List Validator) → AreGroups gs → at ≡ k * 16 + n → slice_get gs k ≡ Some g → n < length g → new ≡ change g n
    → joined (slice_set gs k new) ≡ change (joined gs) at
unfolding joined
change_in change both [] k at n g new h place is low e = absurd (none-some g is)
change_in change both (f ∷ gs) zero at n g new h place is low e =
    let same = same_Some f g is in
    let long = ap length same in
    let now : new ≡ change f at = e ∙ ap₂ (λ (l : List Validator) (i : ℕ). change l i) (sym same) (omega arith) in
    ap (λ (l : List Validator). l ++ joined gs) now ∙ sym (both.left f (joined gs) at (omega arith))
change_in change both (f ∷ gs) (suc k) at n g new h place is low e =
    let full = h.1 (omega (arith, group_among gs k g is)) in
    ap (λ (l : List Validator). f ++ l) (change_in change both gs k (k * 16 + n) n g new h.2 refl is low e)
    ∙ sym (both.right f (joined gs) at (k * 16 + n) (omega arith))

-- is the change at that place of the whole list
change_in_group : (change : List Validator → ℕ → List Validator) → IsChange change → (gs : List (List Validator)) (at : ℕ)
    (g new : List Validator) → AreGroups gs → slice_get gs (at / 16) ≡ Some g → at < length (joined gs) → new ≡ change g (at % 16)
    → joined (slice_set gs (at / 16) new) ≡ change (joined gs) at
change_in_group change both gs at g new h is within e =
    change_in change both gs (at / 16) at (at % 16) g new h (omega arith) is (place_in_group gs at g h within is) e

-- and the groups stay groups
groups_changed : (change : List Validator → ℕ → List Validator) → IsChange change → (gs : List (List Validator)) (at : ℕ)
    (g new : List Validator) → AreGroups gs → slice_get gs (at / 16) ≡ Some g → new ≡ change g (at % 16)
    → AreGroups (slice_set gs (at / 16) new)
groups_changed change both gs at g new h is e =
    groups_same gs (at / 16) g new h is (ap length e ∙ both.long g (at % 16))

-- another validator at a place is such a change
set_is_change : (v : Validator) → IsChange (λ vs i. slice_set vs i v)
set_is_change v = record {
  long = λ vs i. length-set vs i v;
  left = λ vs ws i low. set-append_left vs ws i v low;
  right = λ vs ws i n is.
      set-append_right vs ws (length vs) i v refl (omega arith)
      ∙ ap (λ (k : ℕ). vs ++ slice_set ws k v) (omega arith);
}

-- as many validators as before
pub length_balance : (vs : List Validator) (i b : ℕ) → length (with_balance vs i b) ≡ length vs
unfolding with_balance
length_balance [] i b = refl
length_balance (v ∷ vs) zero b = refl
length_balance (v ∷ vs) (suc i) b = ap suc (length_balance vs i b)

-- another balance in the first of two lists, and in the second
balance_left : (vs ws : List Validator) (i b : ℕ) → i < length vs → with_balance (vs ++ ws) i b ≡ with_balance vs i b ++ ws
unfolding with_balance
balance_left [] ws i b low = absurd (omega arith)
balance_left (v ∷ vs) ws zero b low = refl
balance_left (v ∷ vs) ws (suc i) b low = ap (λ (l : List Validator). v ∷ l) (balance_left vs ws i b (omega arith))

balance_right : (vs ws : List Validator) (i n b : ℕ) → i ≡ length vs + n → with_balance (vs ++ ws) i b ≡ vs ++ with_balance ws n b
unfolding with_balance
balance_right [] ws i n b is = ap (λ (k : ℕ). with_balance ws k b) (omega arith)
balance_right (v ∷ vs) ws zero n b is = absurd (omega arith)
balance_right (v ∷ vs) ws (suc i) n b is = ap (λ (l : List Validator). v ∷ l) (balance_right vs ws i n b (omega arith))

-- another balance is such a change
balance_is_change : (b : ℕ) → IsChange (λ vs i. with_balance vs i b)
balance_is_change b = record {
  long = λ vs i. length_balance vs i b;
  left = λ vs ws i low. balance_left vs ws i b low;
  right = λ vs ws i n is. balance_right vs ws i n b is;
}

-- another validator at a place of a group is another one at the place of the list
set_in_group : (gs : List (List Validator)) (at : ℕ) (g new : List Validator) (v : Validator) → AreGroups gs
    → slice_get gs (at / 16) ≡ Some g → at < length (joined gs) → new ≡ slice_set g (at % 16) v
    → joined (slice_set gs (at / 16) new) ≡ slice_set (joined gs) at v
set_in_group gs at g new v h is within e =
    change_in_group (λ vs i. slice_set vs i v) (set_is_change v) gs at g new h is within e

-- and the groups stay groups
groups_set : (gs : List (List Validator)) (at : ℕ) (g new : List Validator) (v : Validator) → AreGroups gs
    → slice_get gs (at / 16) ≡ Some g → new ≡ slice_set g (at % 16) v → AreGroups (slice_set gs (at / 16) new)
groups_set gs at g new v h is e = groups_changed (λ vs i. slice_set vs i v) (set_is_change v) gs at g new h is e

-- another balance at a place of a group is another one at the place of the list
pub balance_in_group : (gs : List (List Validator)) (at : ℕ) (g new : List Validator) (b : ℕ) → AreGroups gs
    → slice_get gs (at / 16) ≡ Some g → at < length (joined gs) → new ≡ with_balance g (at % 16) b
    → joined (slice_set gs (at / 16) new) ≡ with_balance (joined gs) at b
balance_in_group gs at g new b h is within e =
    change_in_group (λ vs i. with_balance vs i b) (balance_is_change b) gs at g new h is within e

-- and the groups stay groups
pub groups_balance : (gs : List (List Validator)) (at : ℕ) (g new : List Validator) (b : ℕ) → AreGroups gs
    → slice_get gs (at / 16) ≡ Some g → new ≡ with_balance g (at % 16) b → AreGroups (slice_set gs (at / 16) new)
groups_balance gs at g new b h is e =
    groups_changed (λ vs i. with_balance vs i b) (balance_is_change b) gs at g new h is e

-- a group that is put where there is one takes its place
put_group : (gs : List (List Validator)) (k : ℕ) (g new : List Validator) → slice_get gs k ≡ Some g
    → put_at gs k new ≡ slice_set gs k new
put_group gs k g new is = put_set gs k new (slice_get_within gs k g is)

-- the same of a group that is put: another validator
pub put_in_group : (gs : List (List Validator)) (at : ℕ) (g new : List Validator) (v : Validator) → AreGroups gs
    → slice_get gs (at / 16) ≡ Some g → at < length (joined gs) → new ≡ slice_set g (at % 16) v
    → joined (put_at gs (at / 16) new) ≡ slice_set (joined gs) at v
put_in_group gs at g new v h is within e =
    ap joined (put_group gs (at / 16) g new is) ∙ set_in_group gs at g new v h is within e

pub groups_put : (gs : List (List Validator)) (at : ℕ) (g new : List Validator) (v : Validator) → AreGroups gs
    → slice_get gs (at / 16) ≡ Some g → new ≡ slice_set g (at % 16) v → AreGroups (put_at gs (at / 16) new)
groups_put gs at g new v h is e = subst AreGroups (sym (put_group gs (at / 16) g new is)) (groups_set gs at g new v h is e)

-- the group in which the next validator goes has what is over
last_long : (gs : List (List Validator)) (k n : ℕ) (g : List Validator) → AreGroups gs → length (joined gs) ≡ k * 16 + n → n < 16
    → slice_get gs k ≡ Some g → length g ≡ n
unfolding joined
last_long [] k n g h end low is = absurd (none-some g is)
last_long (f ∷ gs) zero n g h end low is =
    let long = ap length (same_Some f g is) in
    let all = all_first (length f) (length (joined gs)) n h.1 (omega (arith, length-append f (joined gs))) low in
    omega (arith, all.0)
last_long (f ∷ gs) (suc k) n g h end low is =
    let full = full_first (length f) (length (joined gs)) (k * 16 + n) h.0 h.1 (omega (arith, length-append f (joined gs))) in
    last_long gs k n g h.2 full.1 low is

-- and it has as many validators as the place behind the last says
pub last_length : (gs : List (List Validator)) (at : ℕ) (g : List Validator) → AreGroups gs → at ≡ length (joined gs)
    → slice_get gs (at / 16) ≡ Some g → length g ≡ at % 16
last_length gs at g h end is = last_long gs (at / 16) (at % 16) g h (omega arith) (omega arith) is

-- one more validator there is behind all
push_in : (gs : List (List Validator)) (k n : ℕ) (g new : List Validator) (v : Validator) → AreGroups gs
    → length (joined gs) ≡ k * 16 + n → n < 16 → slice_get gs k ≡ Some g → new ≡ g ++ v ∷ []
    → joined (slice_set gs k new) ≡ joined gs ++ v ∷ []
unfolding joined
push_in [] k n g new v h end low is e = absurd (none-some g is)
push_in (f ∷ gs) zero n g new v h end low is e =
    let all = all_first (length f) (length (joined gs)) n h.1 (omega (arith, length-append f (joined gs))) low in
    let none = nil_from_length (joined gs) all.1 in
    let here : f ++ joined gs ≡ g = ap (λ (l : List Validator). f ++ l) none ∙ (append-nil f ∙ same_Some f g is) in
    ap (λ (l : List Validator). new ++ l) none
    ∙ (append-nil new ∙ (e ∙ ap (λ (l : List Validator). l ++ v ∷ []) (sym here)))
push_in (f ∷ gs) (suc k) n g new v h end low is e =
    let full = full_first (length f) (length (joined gs)) (k * 16 + n) h.0 h.1 (omega (arith, length-append f (joined gs))) in
    ap (λ (l : List Validator). f ++ l) (push_in gs k n g new v h.2 full.1 low is e) ∙ sym (append_assoc f (joined gs) (v ∷ []))

-- and the groups stay groups
groups_push_in : (gs : List (List Validator)) (k n : ℕ) (g new : List Validator) → AreGroups gs
    → length (joined gs) ≡ k * 16 + n → n < 16 → slice_get gs k ≡ Some g → length new ≡ n + 1 → AreGroups (slice_set gs k new)
unfolding joined
groups_push_in [] k n g new h end low is long = absurd (none-some g is)
groups_push_in (f ∷ gs) zero n g new h end low is long =
    let all = all_first (length f) (length (joined gs)) n h.1 (omega (arith, length-append f (joined gs))) low in
    (omega arith, (λ behind. absurd (omega (arith, all.1))), h.2)
groups_push_in (f ∷ gs) (suc k) n g new h end low is long =
    let full = full_first (length f) (length (joined gs)) (k * 16 + n) h.0 h.1 (omega (arith, length-append f (joined gs))) in
    (h.0, (λ behind. full.0), groups_push_in gs k n g new h.2 full.1 low is long)

-- the group of the next place is there, where there is room
pub next_there : (gs : List (List Validator)) (at : ℕ) → at < 16 * length gs → at / 16 < length gs
next_there gs at within = omega arith

-- one more validator in the group of the next place
pub push_in_group : (gs : List (List Validator)) (at : ℕ) (g new : List Validator) (v : Validator) → AreGroups gs
    → at ≡ length (joined gs) → slice_get gs (at / 16) ≡ Some g → new ≡ g ++ v ∷ []
    → joined (put_at gs (at / 16) new) ≡ joined gs ++ v ∷ []
push_in_group gs at g new v h end is e =
    ap joined (put_group gs (at / 16) g new is)
    ∙ push_in gs (at / 16) (at % 16) g new v h (omega arith) (omega arith) is e

-- and the groups stay groups
pub groups_push : (gs : List (List Validator)) (at : ℕ) (g new : List Validator) (v : Validator) → AreGroups gs
    → at ≡ length (joined gs) → slice_get gs (at / 16) ≡ Some g → new ≡ g ++ v ∷ [] → AreGroups (put_at gs (at / 16) new)
groups_push gs at g new v h end is e =
    let low = last_length gs at g h end is in
    let long : length new ≡ at % 16 + 1 = ap length e ∙ omega (arith, length-append g (v ∷ [])) in
    subst AreGroups (sym (put_group gs (at / 16) g new is))
    (groups_push_in gs (at / 16) (at % 16) g new h (omega arith) (omega arith) is long)

-- the validators of groups and of groups behind them
joined_append : (gs more : List (List Validator)) → joined (gs ++ more) ≡ joined gs ++ joined more
unfolding joined
joined_append [] more = refl
joined_append (g ∷ gs) more =
    ap (λ (l : List Validator). g ++ l) (joined_append gs more) ∙ sym (append_assoc g (joined gs) (joined more))

-- empty groups have none
joined_empty : (n : ℕ) → joined (replicate n []) ≡ []
unfolding joined
joined_empty zero = refl
joined_empty (suc n) = joined_empty n

-- and behind groups they change nothing
pub joined_empty_behind : (gs : List (List Validator)) (n : ℕ) → joined (gs ++ replicate n []) ≡ joined gs
joined_empty_behind gs n =
    joined_append gs (replicate n []) ∙ (ap (λ (l : List Validator). joined gs ++ l) (joined_empty n) ∙ append-nil (joined gs))

-- empty groups are groups
groups_empty : (n : ℕ) → AreGroups (replicate n [])
groups_empty zero = tt
groups_empty (suc n) = (omega arith, (λ behind. absurd (omega (arith, ap length (joined_empty n)))), groups_empty n)

-- and so they are behind groups
pub groups_empty_behind : (gs : List (List Validator)) (n : ℕ) → AreGroups gs → AreGroups (gs ++ replicate n [])
groups_empty_behind [] n h = groups_empty n
groups_empty_behind (g ∷ gs) n h =
    (h.0, (λ behind. h.1 (omega (arith, ap length (joined_empty_behind gs n)))), groups_empty_behind gs n h.2)

-- the validators of groups and of one more group
joined_more : (gs : List (List Validator)) (g : List Validator) → joined (gs ++ g ∷ []) ≡ joined gs ++ g
unfolding joined
joined_more gs g = joined_append gs (g ∷ []) ∙ ap (λ (l : List Validator). joined gs ++ l) (append-nil g)

-- a group behind groups of which each is full
groups_more : (gs : List (List Validator)) (g : List Validator) → AreGroups gs → length (joined gs) ≡ 16 * length gs
    → length g ≤ 16 → AreGroups (gs ++ g ∷ [])
unfolding joined
groups_more [] g h full few = (few, (λ behind. absurd (omega arith)), tt)
groups_more (f ∷ gs) g h full few =
    let f_few = h.0 in
    let both = length-append f (joined gs) in
    let most = room gs h.2 in
    (h.0, (λ behind. omega arith), groups_more gs g h.2 (omega arith) few)

-- groups cut off a list, and the next one, which is short where fewer than sixteen are left
pub group_more : (vs : List Validator) (front : List (List Validator)) (g : List Validator) (k : ℕ)
    → (joined front ≡ take (16 * k) vs) × AreGroups front × (length front ≡ k) → 16 * k < length vs
    → g ≡ take 16 (drop (16 * k) vs)
    → (joined (front ++ g ∷ []) ≡ take (16 * (k + 1)) vs) × AreGroups (front ++ g ∷ []) × (length (front ++ g ∷ []) ≡ k + 1)
group_more vs front g k so_far more cut =
    let count = so_far.2 in
    let long : length (joined front) ≡ 16 * k = ap length so_far.0 ∙ omega (arith, length-take (16 * k) vs) in
    let size : length g ≡ length (take 16 (drop (16 * k) vs)) = ap length cut in
    let most = length-take 16 (drop (16 * k) vs) in (
      joined_more front g
          ∙ (ap (λ (l : List Validator). l ++ g) so_far.0
          ∙ (ap (λ (l : List Validator). take (16 * k) vs ++ l) cut
          ∙ (sym (take-add (16 * k) 16 vs) ∙ ap (λ (n : ℕ). take n vs) (omega arith)))),
      groups_more front g so_far.1 (omega arith) (omega arith),
      omega (arith, length-append front (g ∷ [])),
    )
