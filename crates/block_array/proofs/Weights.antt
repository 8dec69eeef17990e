-- Weights as sums of what is counted.
use Rattle.std.proofs.Common.{◌≡◌, ℕ, zero, suc, ◌+◌, ◌<◌, ◌≤◌, Bool, true, false, cond, ◌||◌, ◌&&◌, eqb, List, [], ◌∷◌, length, filter, get_or, Option, Some, None, refl, sym, ap, ◌∙◌, arith}
use Rattle.std.specs.List.{All, sum_by, range_with_len}
use Rattle.std.specs.Option.{option_map_or}
use Rattle.std.proofs.lemmas.Bool.{eqb-true}
use Rattle.std.proofs.lemmas.List.{get_or_past}
use Rattle.std.proofs.lemmas.List.Elements.{All-head, All-tail}
use Rattle.std.proofs.lemmas.List.Sums.{sum_by-cons}
use Rattle.block_array.specs.declared.node.Node.{Node}
use Rattle.block_array.specs.declared.node.Message.{Message}
use Rattle.block_array.specs.declared.tally.Counted.{Counted}
use Rattle.block_array.specs.PlainArray.{PlainArray, parent_at, message_of, vote_of, balance_of, is_listed}
use Rattle.block_array.specs.GetLatestAttestingBalance.{is_on_chain_of, votes_for, validators_of, attestation_score, proposer_score, is_boosted, get_latest_attesting_balance}
use Rattle.block_array.specs.inside.Tree.{IsTree, reaches}
use Rattle.block_array.specs.inside.Counts.{Counts, nothing, all_of, share, counted_at, own_at, weight_from, IsBelow}
use Rattle.block_array.specs.inside.Held.{due, boost_due}
use Rattle.block_array.specs.inside.BestDescendants.{IsCounted}
use Rattle.block_array.proofs.Counting.{counted_cons}
use Rattle.block_array.proofs.Chains.{stops_below, gives, once, unmoved, whole, on_chain}

-- ---- two sums over one list

pub counted_same : (t u : ℕ → Bool) (n : ℕ) → ((k : ℕ) → k < n → t k ≡ u k) → (cs : List Counted) → All (IsBelow n) cs → counted_at t cs ≡ counted_at u cs
unfolding counted_at
counted_same t u n same [] below = refl
counted_same t u n same (c ∷ cs) below =
    counted_cons t c cs
    ∙ ap (λ b. cond b c.balance 0 + counted_at t cs) (same c.node (All-head (IsBelow n) c cs below))
    ∙ ap (λ x. cond (u c.node) c.balance 0 + x) (counted_same t u n same cs (All-tail (IsBelow n) c cs below))
    ∙ sym (counted_cons u c cs)

one_share : (x e y : Bool) (balance : ℕ) → (e ≡ true → y ≡ true → x ≡ false) → cond (x || (e && y)) balance 0 ≡ cond x balance 0 + cond e (cond y balance 0) 0
one_share true true true balance once = absurd (let h : true ≡ false = once refl refl in cc)
one_share true true false balance once = omega arith
one_share true false y balance once = omega arith
one_share false true y balance once = omega arith
one_share false false y balance once = omega arith

pub counted_more : (t u v : ℕ → Bool) (e : Bool) (n : ℕ) → ((k : ℕ) → k < n → t k ≡ (u k || (e && v k))) → ((k : ℕ) → k < n → e ≡ true → v k ≡ true → u k ≡ false)
    → (cs : List Counted) → All (IsBelow n) cs → counted_at t cs ≡ counted_at u cs + cond e (counted_at v cs) 0
unfolding counted_at
counted_more t u v true n is once [] below = refl
counted_more t u v false n is once [] below = refl
counted_more t u v e n is once (c ∷ cs) below =
    let inside : c.node < n = All-head (IsBelow n) c cs below in
    let rest : counted_at t cs ≡ counted_at u cs + cond e (counted_at v cs) 0 = counted_more t u v e n is once cs (All-tail (IsBelow n) c cs below) in
    let one : cond (t c.node) c.balance 0 ≡ cond (u c.node) c.balance 0 + cond e (cond (v c.node) c.balance 0) 0 = ap (λ b. cond b c.balance 0) (is c.node inside) ∙ one_share (u c.node) e (v c.node) c.balance (once c.node inside) in
    let a : counted_at t (c ∷ cs) ≡ cond (t c.node) c.balance 0 + counted_at t cs = counted_cons t c cs in
    let b : counted_at u (c ∷ cs) ≡ cond (u c.node) c.balance 0 + counted_at u cs = counted_cons u c cs in
    let d : counted_at v (c ∷ cs) ≡ cond (v c.node) c.balance 0 + counted_at v cs = counted_cons v c cs in
    let s : cond e (counted_at v (c ∷ cs)) 0 ≡ cond e (cond (v c.node) c.balance 0) 0 + cond e (counted_at v cs) 0 = ap (λ x. cond e x 0) d ∙ split e (cond (v c.node) c.balance 0) (counted_at v cs) in
    omega arith
  where
    split : (e : Bool) (x y : ℕ) → cond e (x + y) 0 ≡ cond e x 0 + cond e y 0
    split true x y = refl
    split false x y = refl

-- ---- weights on the way

module _ (nodes : List Node) (counts : Counts) (tree : IsTree nodes) (below : All (IsBelow (length nodes)) (all_of counts)) where
  pub weight_given : (p q : ℕ) → parent_at nodes p ≡ Some q → q < p → (j : ℕ) → j < length nodes → weight_from nodes counts p j ≡ weight_from nodes counts (suc p) j + cond (eqb q j) (weight_from nodes counts (suc p) p) 0
  unfolding weight_from
  weight_given p q parent less j inside =
      counted_more (λ n. reaches (length nodes) nodes p n j) (λ n. reaches (length nodes) nodes (suc p) n j) (λ n. reaches (length nodes) nodes (suc p) n p) (eqb q j) (length nodes)
      (λ k h. gives nodes tree p q parent j (length nodes) k (omega arith))
      (λ k h same own. once nodes tree p j (let s : q ≡ j = eqb-true q j same in omega arith) (length nodes) k own)
      (all_of counts) below

  pub weight_unmoved : (p : ℕ) → parent_at nodes p ≡ None → (j : ℕ) → weight_from nodes counts p j ≡ weight_from nodes counts (suc p) j
  unfolding weight_from
  weight_unmoved p none j =
      counted_same (λ n. reaches (length nodes) nodes p n j) (λ n. reaches (length nodes) nodes (suc p) n j) (length nodes) (λ k h. unmoved nodes p none j (length nodes) k) (all_of counts) below

  pub weight_whole : (low j : ℕ) → low ≤ suc j → weight_from nodes counts low j ≡ counted_at (λ n. is_on_chain_of nodes j n) (all_of counts)
  unfolding weight_from
  weight_whole low j past =
      counted_same (λ n. reaches (length nodes) nodes low n j) (λ n. is_on_chain_of nodes j n) (length nodes) (λ k h. whole nodes tree low j past (length nodes) k ∙ on_chain nodes tree k j h) (all_of counts) below

  pub weight_begins : (j : ℕ) → weight_from nodes counts (length nodes) j ≡ own_at counts j
  unfolding weight_from own_at
  weight_begins j = counted_same (λ n. reaches (length nodes) nodes (length nodes) n j) (λ n. eqb n j) (length nodes) (λ k h. stops_below nodes (length nodes) (length nodes) k j h) (all_of counts) below

-- ---- sums over numbers

unfoldable sum_to : ℕ → (ℕ → ℕ) → ℕ
sum_to zero f = 0
sum_to (suc n) f = f 0 + sum_to n (λ k. f (suc k))

sum_same : (n : ℕ) (f g : ℕ → ℕ) → ((k : ℕ) → k < n → f k ≡ g k) → sum_to n f ≡ sum_to n g
unfolding sum_to
sum_same zero f g same = refl
sum_same (suc n) f g same = ap (λ x. x + sum_to n (λ k. f (suc k))) (same 0 (omega arith)) ∙ ap (λ x. g 0 + x) (sum_same n (λ k. f (suc k)) (λ k. g (suc k)) (λ k h. same (suc k) (omega arith)))

sum_none : (n : ℕ) (f : ℕ → ℕ) → ((k : ℕ) → f k ≡ 0) → sum_to n f ≡ 0
unfolding sum_to
sum_none zero f none = refl
sum_none (suc n) f none = let a : f 0 ≡ 0 = none 0 in let b : sum_to n (λ k. f (suc k)) ≡ 0 = sum_none n (λ k. f (suc k)) (λ k. none (suc k)) in omega arith

-- two sums agree where nothing is added from either length on
sum_ends : (n m : ℕ) (f : ℕ → ℕ) → ((k : ℕ) → n ≤ k → f k ≡ 0) → ((k : ℕ) → m ≤ k → f k ≡ 0) → sum_to n f ≡ sum_to m f
unfolding sum_to
sum_ends zero m f a b = sym (sum_none m f (λ k. a k (omega arith)))
sum_ends (suc n) zero f a b = sum_none (suc n) f (λ k. b k (omega arith))
sum_ends (suc n) (suc m) f a b = ap (λ x. f 0 + x) (sum_ends n m (λ k. f (suc k)) (λ k h. a (suc k) (omega arith)) (λ k h. b (suc k) (omega arith)))

sum_list : (t : ℕ → Bool) (cs : List Counted) → counted_at t cs ≡ sum_to (length cs) (λ k. share t (get_or cs k nothing))
unfolding counted_at sum_to
sum_list t [] = refl
sum_list t (c ∷ cs) = sum_by-cons (share t) c cs ∙ ap (λ x. share t c + x) (sum_list t cs)

sum_filter : (p : ℕ → Bool) (g : ℕ → ℕ) (n first : ℕ) → sum_by g (filter p (range_with_len first n)) ≡ sum_to n (λ k. cond (p (first + k)) (g (first + k)) 0)
unfolding sum_to
sum_filter p g zero first = refl
sum_filter p g (suc n) first =
    one (p first)
    ∙ ap (λ x. cond (p first) (g first) 0 + x) (sum_filter p g n (first + 1) ∙ sum_same n (λ k. cond (p (first + 1 + k)) (g (first + 1 + k)) 0) (λ k. cond (p (first + suc k)) (g (first + suc k)) 0) (λ k h. ap (λ i. cond (p i) (g i) 0) (let e : first + 1 + k ≡ first + suc k = omega arith in e)))
    ∙ ap (λ i. cond (p i) (g i) 0 + sum_to n (λ k. cond (p (first + suc k)) (g (first + suc k)) 0)) (let e : first ≡ first + 0 = omega arith in e)
  where
    rest : List ℕ
    rest = filter p (range_with_len (first + 1) n)

    one : (b : Bool) → sum_by g (cond b (first ∷ rest) rest) ≡ cond b (g first) 0 + sum_by g rest
    one true = sum_by-cons g first rest
    one false = omega arith

-- ---- the weight of a node

module _ (array : PlainArray) (number : ℕ) where
  abbrev test : ℕ → Bool
  test n = is_on_chain_of array.nodes number n

  abbrev term : ℕ → ℕ
  term v = cond (votes_for array number v) (balance_of array v) 0

  share_due : (v : ℕ) → share test (due array v) ≡ term v
  unfolding share due votes_for
  share_due v = by (vote_of array v)
    where
      none : (b : Bool) → cond b 0 0 ≡ (let z : ℕ = 0 in z)
      none true = refl
      none false = refl

      by : (o : Option Message) → share test (option_map_or (λ message. record { node = message.node; balance = balance_of array v; changed = false }) o nothing) ≡ cond (option_map_or (λ message. is_on_chain_of array.nodes number message.node) o false) (balance_of array v) 0
      by None = none (test 0)
      by (Some message) = refl

  no_message : (v : ℕ) → length array.latest_messages ≤ v → term v ≡ 0
  unfolding votes_for vote_of message_of
  no_message v past =
      ap (λ o. cond (option_map_or (λ (message : Message). is_on_chain_of array.nodes number message.node) (cond (is_listed array.silenced_validators v) None o) false) (balance_of array v) 0) (get_or_past array.latest_messages v None past)
      ∙ ap (λ o. cond (option_map_or (λ (message : Message). is_on_chain_of array.nodes number message.node) o false) (balance_of array v) 0) (either (is_listed array.silenced_validators v))
    where
      either : (b : Bool) → cond b None (let o : Option Message = None in o) ≡ None
      either true = refl
      either false = refl

  no_balance : (v : ℕ) → length array.balances ≤ v → term v ≡ 0
  unfolding balance_of
  no_balance v past = ap (λ b. cond (votes_for array number v) b 0) (get_or_past array.balances v 0 past) ∙ none (votes_for array number v)
    where
      none : (b : Bool) → cond b 0 0 ≡ (let z : ℕ = 0 in z)
      none true = refl
      none false = refl

  score_is : attestation_score array number ≡ sum_to (length array.balances) term
  unfolding attestation_score validators_of
  score_is = sum_filter (votes_for array number) (balance_of array) (length array.balances) 0 ∙ sum_same (length array.balances) (λ k. term (0 + k)) term (λ k h. ap term (let e : 0 + k ≡ k = omega arith in e))

  boost_is : cond (test (boost_due array).node) (boost_due array).balance 0 ≡ cond (is_boosted array number) (proposer_score array) 0
  unfolding boost_due is_boosted
  boost_is = by array.boosted_node
    where
      none : (b : Bool) → cond b 0 0 ≡ (let z : ℕ = 0 in z)
      none true = refl
      none false = refl

      by : (o : Option ℕ) → (let c : Counted = option_map_or (λ boosted. record { node = boosted; balance = proposer_score array; changed = false }) o nothing in cond (test c.node) c.balance 0) ≡ cond (option_map_or (λ boosted. is_on_chain_of array.nodes number boosted) o false) (proposer_score array) 0
      by None = none (test 0)
      by (Some boosted) = refl

  boosted_or : (b : Bool) (score boost : ℕ) → cond b boost 0 + score ≡ cond b (score + boost) score
  boosted_or true score boost = omega arith
  boosted_or false score boost = omega arith

  pub weight_is : (counts : Counts) → IsCounted array counts → counted_at test (all_of counts) ≡ get_latest_attesting_balance array number
  unfolding get_latest_attesting_balance
  weight_is counts counted =
      let validators : counted_at test counts.validators ≡ attestation_score array number =
      sum_list test counts.validators
      ∙ sum_same (length counts.validators) (λ k. share test (get_or counts.validators k nothing)) term (λ k h. ap (share test) (counted.validators k h) ∙ share_due k)
      ∙ sum_ends (length counts.validators) (length array.balances) term (λ k h. no_message k (let l : length array.latest_messages ≤ length counts.validators = counted.covers in omega arith)) no_balance
      ∙ sym score_is in
      counted_cons test counts.boost counts.validators
      ∙ ap (λ c. cond (test c.node) c.balance 0 + counted_at test counts.validators) counted.boost
      ∙ ap (λ x. x + counted_at test counts.validators) boost_is
      ∙ ap (λ x. cond (is_boosted array number) (proposer_score array) 0 + x) validators
      ∙ boosted_or (is_boosted array number) (attestation_score array number) (proposer_score array)
