-- What is made of one node, and of all of them.
use Rattle.std.proofs.Common.{◌≡◌, ℕ, zero, suc, ◌+◌, ◌-◌, ◌<◌, ◌≤◌, ◌^◌, ◌⊎◌, inl, inr, Bool, true, false, cond, ◌||◌, eqb, List, [], ◌∷◌, length, drop, filter, get_or, set, Option, Some, None, is_some, IfSome, slice_get, refl, sym, ap, ◌∙◌, subst, arith}
use Rattle.std.specs.List.{All, list_any}
use Rattle.std.specs.Option.{option_map_or, option_and_then}
use Rattle.std.proofs.Math.ListN.{length-set}
use Rattle.std.proofs.lemmas.Bool.{cases_eq, cases_lt, eq-eqb, ne_eqb}
use Rattle.std.proofs.lemmas.List.{drop_all, get_or-set_same, get_or-set_other}
use Rattle.std.proofs.lemmas.List.Elements.{All-nil, All-cons, All-head, All-tail, All-filter, All-weaker}
use Rattle.block_array.specs.declared.node.Node.{Node}
use Rattle.block_array.specs.declared.best_descendant.BestDescendant.{BestDescendant}
use Rattle.block_array.specs.PlainArray.{PlainArray, parent_at}
use Rattle.block_array.specs.FilterBlockTree.{is_child, is_child_at, agrees, is_viable, with_viable, filter_block_tree, get_filtered_block_tree}
use Rattle.block_array.specs.GetHead.{goes_before, best_of, children_of, next_head, head_within}
use Rattle.block_array.specs.GetLatestAttestingBalance.{get_latest_attesting_balance}
use Rattle.block_array.specs.inside.Tree.{IsTree, reaches}
use Rattle.block_array.specs.inside.Counts.{Counts, all_of, counted_at, IsBelow, own_at, weight_from}
use Rattle.block_array.specs.inside.BestDescendants.{no_best_descendant, best_descendant_at, IsCounted, viable_from, best_among, best_child, better_child, IsHeadFrom, AreBest, IsMade, IsWeighed, AreFresh, CanGive, given}
use Rattle.block_array.proofs.Bests.{best_first}
use Rattle.block_array.proofs.Chains.{parent_below}
use Rattle.block_array.proofs.Weights.{weight_given, weight_unmoved, weight_whole, weight_begins, weight_is}

pub same_default : {A : Type 0} (xs : List A) (k : ℕ) (d e : A) → k < length xs → get_or xs k d ≡ get_or xs k e
same_default [] k d e h = absurd (omega arith)
same_default (x ∷ xs) zero d e h = refl
same_default (x ∷ xs) (suc k) d e h = same_default xs k d e (omega arith)

pub ruleset setting_best = (same_default)

drop_at : {A : Type 0} (xs : List A) (i : ℕ) (x : A) → slice_get xs i ≡ Some x → drop i xs ≡ x ∷ drop (suc i) xs
drop_at [] i x e = absurd cc
drop_at (y ∷ xs) zero x e = let s : y ≡ x = cc in ap (λ z. z ∷ xs) s
drop_at (y ∷ xs) (suc i) x e = drop_at xs i x e

item_at : {A : Type 0} (xs : List A) (i : ℕ) → i < length xs → (x : A) × (slice_get xs i ≡ Some x)
item_at [] i h = absurd (omega arith)
item_at (x ∷ xs) zero h = (x, refl)
item_at (x ∷ xs) (suc i) h = item_at xs i (omega arith)

module _ (bests : List BestDescendant) (p j : ℕ) (best : BestDescendant) where
  best_same : p < length bests → j ≡ p → best_descendant_at (set bests p best) j ≡ best
  unfolding best_descendant_at
  best_same inside same = ap (λ k. get_or (set bests p best) k no_best_descendant) same ∙ get_or-set_same bests p best no_best_descendant inside

  best_other : (j ≡ p → ⊥) → best_descendant_at (set bests p best) j ≡ best_descendant_at bests j
  unfolding best_descendant_at
  best_other n = get_or-set_other bests p j best no_best_descendant n

pub fresh_more : (counts : Counts) (first : ℕ) (bests : List BestDescendant) (n : ℕ) → n < length bests → AreFresh counts first bests n → AreFresh counts first (set bests n (record { weight = own_at counts n; has_child = false; child = None; descendant = 0 })) (n + 1)
unfolding AreFresh
fresh_more counts first bests n inside fresh = λ j f h. by j f h (cases_eq j n)
  where
    by : (j : ℕ) → first ≤ j → j < n + 1 → (j ≡ n) ⊎ (j ≡ n → ⊥) → best_descendant_at (set bests n (record { weight = own_at counts n; has_child = false; child = None; descendant = 0 })) j ≡ record { weight = own_at counts j; has_child = false; child = None; descendant = 0 }
    by j f h (inl same) = best_same bests n j (record { weight = own_at counts n; has_child = false; child = None; descendant = 0 }) inside same ∙ ap (λ k. record { weight = own_at counts k; has_child = false; child = None; descendant = 0 }) (sym same)
    by j f h (inr other) = best_other bests n j (record { weight = own_at counts n; has_child = false; child = None; descendant = 0 }) other ∙ fresh j f (omega arith)

pub fresh_none : (counts : Counts) (first : ℕ) (bests : List BestDescendant) (n : ℕ) → n ≤ first → AreFresh counts first bests n
unfolding AreFresh
fresh_none counts first bests n z = λ j f h. absurd (omega arith)

pub fresh_all : (counts : Counts) (first : ℕ) (bests : List BestDescendant) (n m : ℕ) → m ≤ n → AreFresh counts first bests n → AreFresh counts first bests m
unfolding AreFresh
fresh_all counts first bests n m h fresh = λ j f i. fresh j f (omega arith)

pub ruleset beginning = (fresh_more, fresh_none, fresh_all)

-- ---- the best child

module _ (array : PlainArray) where
  some_child : (f : ℕ → Bool) (xs : List ℕ) → is_some (best_among array (filter f xs)) ≡ list_any f xs
  unfolding best_among
  some_child f [] = refl
  some_child f (x ∷ xs) = by (some_child f xs) (f x)
    where
      by : is_some (best_among array (filter f xs)) ≡ list_any f xs → (b : Bool) → is_some (best_among array (cond b (x ∷ filter f xs) (filter f xs))) ≡ (b || list_any f xs)
      by ih true = refl
      by ih false = ih

  first_best : (p : ℕ) (xs : List ℕ) → best_among array (p ∷ xs) ≡ Some (better_child array p (best_among array xs))
  unfolding best_among best_of better_child
  first_best p [] = refl
  first_best p (x ∷ xs) = ap Some (best_first array p x xs)

  -- the best of some is one of them
  best_in : (P : ℕ → Type 0) (x : ℕ) (xs : List ℕ) → All P (x ∷ xs) → P (best_of array x xs)
  unfolding best_of
  best_in P x [] all = All-head P x [] all
  best_in P x (y ∷ xs) all =
      by (best_in P y xs (All-tail P x (y ∷ xs) all)) (best_in P x xs (All-cons P x xs (All-head P x (y ∷ xs) all) (All-tail P y xs (All-tail P x (y ∷ xs) all)))) (goes_before array y x)
    where
      by : P (best_of array y xs) → P (best_of array x xs) → (b : Bool) → P (cond b (best_of array y xs) (best_of array x xs))
      by second first true = second
      by second first false = first

  best_among_in : (P : ℕ → Type 0) (xs : List ℕ) → All P xs → (c : ℕ) → best_among array xs ≡ Some c → P c
  unfolding best_among
  best_among_in P [] all c e = absurd cc
  best_among_in P (x ∷ xs) all c e = let s : best_of array x xs ≡ c = cc in subst P s (best_in P x xs all)

  pub record IsBetween (low high n : ℕ) : Type 0 where
    pub above : low ≤ n
    pub below : n < high

  viable_between : (number high : ℕ) (later : List Node) → number + length later ≤ high → All (IsBetween number high) (filter_block_tree array number later)
  unfolding filter_block_tree with_viable
  viable_between number high [] fits = All-nil (IsBetween number high)
  viable_between number high (node ∷ later) fits = by (viable_between (suc number) high later (omega arith)) (is_viable array number node later rest)
    where
      rest : List ℕ
      rest = filter_block_tree array (suc number) later

      weaker : (n : ℕ) → IsBetween (suc number) high n → IsBetween number high n
      weaker n h = record { above = (let a : suc number ≤ n = h.above in omega arith); below = h.below }

      by : All (IsBetween (suc number) high) rest → (b : Bool) → All (IsBetween number high) (cond b (number ∷ rest) rest)
      by ih true = All-cons (IsBetween number high) number rest (record { above = omega arith; below = omega arith }) (All-weaker (IsBetween (suc number) high) (IsBetween number high) weaker rest ih)
      by ih false = All-weaker (IsBetween (suc number) high) (IsBetween number high) weaker rest ih

  length_drop : {A : Type 0} (xs : List A) (i : ℕ) → i ≤ length xs → i + length (drop i xs) ≡ length xs
  length_drop xs zero h = omega arith
  length_drop [] (suc i) h = absurd (omega arith)
  length_drop (x ∷ xs) (suc i) h = let e : i + length (drop i xs) ≡ length xs = length_drop xs i (omega arith) in omega arith

  pub best_between : (low j c : ℕ) → low ≤ length array.nodes → best_child array low j ≡ Some c → IsBetween low (length array.nodes) c
  unfolding best_child children_of viable_from
  best_between low j c inside e =
      best_among_in (IsBetween low (length array.nodes)) (filter (is_child_at array.nodes j) (filter_block_tree array low (drop low array.nodes)))
      (All-filter (is_child_at array.nodes j) (IsBetween low (length array.nodes)) (filter_block_tree array low (drop low array.nodes)) (viable_between low (length array.nodes) (drop low array.nodes) (let l : low + length (drop low array.nodes) ≡ length array.nodes = length_drop array.nodes low inside in omega arith)))
      c e

-- ---- one node more

module _ (array : PlainArray) (p : ℕ) (node : Node) (at : slice_get array.nodes p ≡ Some node) where
  abbrev later : List Node
  later = drop (suc p) array.nodes

  abbrev viable : List ℕ
  viable = viable_from array (suc p)

  viable_opens : viable_from array p ≡ with_viable array p node later viable
  unfolding viable_from filter_block_tree
  viable_opens = ap (filter_block_tree array p) (drop_at array.nodes p node at)

  parent_opens : parent_at array.nodes p ≡ node.parent
  unfolding parent_at
  parent_opens = ap (option_and_then (λ n. n.parent)) at

  is_child_opens : (j : ℕ) → is_child j node ≡ is_child_at array.nodes j p
  unfolding is_child is_child_at
  is_child_opens j = ap (λ o. option_map_or (λ parent. eqb parent j) o false) (sym parent_opens)

  pub any_opens : (j : ℕ) → list_any (is_child j) (drop p array.nodes) ≡ (is_child j node || list_any (is_child j) later)
  any_opens j = ap (list_any (is_child j)) (drop_at array.nodes p node at)

  pub viable_is : (has_child : Bool) (child : Option ℕ) → has_child ≡ list_any (is_child p) later → child ≡ best_child array (suc p) p → cond has_child (is_some child) (agrees array node) ≡ is_viable array p node later viable
  unfolding is_viable best_child children_of
  viable_is has_child child h c =
      ap (λ b. cond b (is_some child) (agrees array node)) h
      ∙ ap (λ b. cond (list_any (is_child p) later) b (agrees array node)) (ap is_some c ∙ some_child array (is_child_at array.nodes p) viable)

  not_child : (j : ℕ) → is_child_at array.nodes j p ≡ false → children_of array (viable_from array p) j ≡ children_of array viable j
  unfolding children_of with_viable
  not_child j n = ap (filter (is_child_at array.nodes j)) viable_opens ∙ by (is_viable array p node later viable)
    where
      by : (b : Bool) → filter (is_child_at array.nodes j) (cond b (p ∷ viable) viable) ≡ filter (is_child_at array.nodes j) viable
      by true = ap (λ b. cond b (p ∷ filter (is_child_at array.nodes j) viable) (filter (is_child_at array.nodes j) viable)) n
      by false = refl

  pub child_stays : (j : ℕ) → is_child_at array.nodes j p ≡ false → best_child array p j ≡ best_child array (suc p) j
  unfolding best_child
  child_stays j n = ap (best_among array) (not_child j n)

  pub child_offered : (j : ℕ) → is_child_at array.nodes j p ≡ true → best_child array p j ≡ cond (is_viable array p node later viable) (Some (better_child array p (best_child array (suc p) j))) (best_child array (suc p) j)
  unfolding best_child children_of with_viable
  child_offered j y = ap (λ v. best_among array (filter (is_child_at array.nodes j) v)) viable_opens ∙ by (is_viable array p node later viable)
    where
      rest : List ℕ
      rest = filter (is_child_at array.nodes j) viable

      by : (b : Bool) → best_among array (filter (is_child_at array.nodes j) (cond b (p ∷ viable) viable)) ≡ cond b (Some (better_child array p (best_among array rest))) (best_among array rest)
      by true = ap (λ b. best_among array (cond b (p ∷ rest) rest)) y ∙ first_best array p rest
      by false = refl

-- ---- the head from a node on

module _ (array : PlainArray) (tree : IsTree array.nodes) where
  no_parent_after : (low j : ℕ) → low ≤ j → (o : Option ℕ) → parent_at array.nodes low ≡ o → is_child_at array.nodes j low ≡ false
  unfolding is_child_at
  no_parent_after low j h None e = ap (λ o. option_map_or (λ parent. eqb parent j) o false) e
  no_parent_after low j h (Some q) e =
      let below : q < low = parent_below array.nodes tree low q e in
      ap (λ o. option_map_or (λ parent. eqb parent j) o false) e ∙ ne_eqb q j (λ s. omega arith)

  children_from : (low j : ℕ) → low ≤ suc j → low ≤ length array.nodes → children_of array (get_filtered_block_tree array) j ≡ children_of array (viable_from array low) j
  unfolding viable_from get_filtered_block_tree
  children_from zero j h inside = refl
  children_from (suc low) j h inside =
      let item : (x : Node) × (slice_get array.nodes low ≡ Some x) = item_at array.nodes low (omega arith) in
      children_from low j (omega arith) (omega arith)
      ∙ not_child array low item.0 item.1 j (no_parent_after low j (omega arith) (parent_at array.nodes low) refl)

  next_is : (j : ℕ) (cs : List ℕ) → next_head array j cs ≡ option_map_or (λ c. c) (best_among array cs) j
  unfolding next_head best_among
  next_is j [] = refl
  next_is j (c ∷ cs) = refl

  next_of : (p : ℕ) → p < length array.nodes → next_head array p (children_of array (get_filtered_block_tree array) p) ≡ option_map_or (λ c. c) (best_child array (suc p) p) p
  unfolding best_child
  next_of p inside = next_is p (children_of array (get_filtered_block_tree array) p) ∙ ap (λ cs. option_map_or (λ c. c) (best_among array cs) p) (children_from (suc p) p (omega arith) (omega arith))

  stays : (k p : ℕ) → next_head array p (children_of array (get_filtered_block_tree array) p) ≡ p → head_within k array (get_filtered_block_tree array) p ≡ p
  unfolding head_within
  stays zero p e = refl
  stays (suc k) p e = ap (head_within k array (get_filtered_block_tree array)) e ∙ stays k p e

  pub head_none : (p : ℕ) → p < length array.nodes → best_child array (suc p) p ≡ None → IsHeadFrom array p p
  unfolding IsHeadFrom
  head_none p inside e = λ k h. stays k p (next_of p inside ∙ ap (λ o. option_map_or (λ c. c) o p) e)

  head_step : (p c head : ℕ) → next_head array p (children_of array (get_filtered_block_tree array) p) ≡ c → p < c → p < length array.nodes → ((k : ℕ) → length array.nodes - c ≤ k → head_within k array (get_filtered_block_tree array) c ≡ head) → (k : ℕ) → length array.nodes - p ≤ k → head_within k array (get_filtered_block_tree array) p ≡ head
  unfolding head_within
  head_step p c head e past inside on zero h = absurd (omega arith)
  head_step p c head e past inside on (suc k) h = ap (head_within k array (get_filtered_block_tree array)) e ∙ on k (omega arith)

  pub head_some : (p c head : ℕ) → p < length array.nodes → best_child array (suc p) p ≡ Some c → p < c → IsHeadFrom array c head → IsHeadFrom array p head
  unfolding IsHeadFrom
  head_some p c head inside e past on = λ k h. head_step p c head (next_of p inside ∙ ap (λ o. option_map_or (λ c. c) o p) e) past inside on k h

-- ---- a node is done

module _ (array : PlainArray) (counts : Counts) (tree : IsTree array.nodes) (below : All (IsBelow (length array.nodes)) (all_of counts)) (bests : List BestDescendant) (p : ℕ) (inside : p < length array.nodes) (past_first : array.justified_node ≤ p) (are_best : AreBest array counts bests (suc p)) (node : Node) (at : slice_get array.nodes p ≡ Some node) (head : ℕ) (head_is : IsHeadFrom array p head) where
  abbrev mine : BestDescendant
  mine = best_descendant_at bests p

  abbrev done : List BestDescendant
  done = set bests p (record mine { descendant = head })

  in_bests : p < length bests
  in_bests = let l : length bests ≡ length array.nodes = are_best.length_is in omega arith

  -- only the descendant of the node changed
  done_at : {A : Type 0} (f : BestDescendant → A) → f (record mine { descendant = head }) ≡ f mine → (j : ℕ) → (j ≡ p) ⊎ (j ≡ p → ⊥) → f (best_descendant_at done j) ≡ f (best_descendant_at bests j)
  done_at f same j (inl here) = ap f (best_same bests p j (record mine { descendant = head }) in_bests here) ∙ same ∙ ap (λ k. f (best_descendant_at bests k)) (sym here)
  done_at f same j (inr n) = ap f (best_other bests p j (record mine { descendant = head }) n)

  head_at : (j : ℕ) → p ≤ j → j < length array.nodes → (j ≡ p) ⊎ (j ≡ p → ⊥) → IsHeadFrom array j (best_descendant_at done j).descendant
  head_at j past in_nodes (inl here) = subst (λ h. IsHeadFrom array j h) (sym (ap (λ (r : BestDescendant). r.descendant) (best_same bests p j (record mine { descendant = head }) in_bests here))) (subst (λ k. IsHeadFrom array k head) (sym here) head_is)
  head_at j past in_nodes (inr n) = subst (λ (r : BestDescendant). IsHeadFrom array j r.descendant) (sym (best_other bests p j (record mine { descendant = head }) n)) (are_best.descendant j (let m : j ≡ p → ⊥ = n in above j past m (cases_lt p j)) in_nodes)
    where
      above : (j : ℕ) → p ≤ j → (j ≡ p → ⊥) → (p < j) ⊎ (j ≤ p) → suc p ≤ j
      above j past n (inl h) = omega arith
      above j past n (inr h) = absurd (n (omega arith))

  length_done : length done ≡ length array.nodes
  length_done = length-set bests p (record mine { descendant = head }) ∙ are_best.length_is

  -- where no node from the justified one on is its parent
  are_best_apart : ((j : ℕ) → array.justified_node ≤ j → is_child_at array.nodes j p ≡ false) → ((j : ℕ) → array.justified_node ≤ j → j < length array.nodes → weight_from array.nodes counts p j ≡ weight_from array.nodes counts (suc p) j) → AreBest array counts done p
  unfolding is_child
  are_best_apart no_child unmoved = record {
    length_is = length_done;
    weight = λ j f h. done_at (λ r. r.weight) refl j (cases_eq j p) ∙ are_best.weight j f h ∙ sym (unmoved j f h);
    has_child = λ j f h. done_at (λ r. r.has_child) refl j (cases_eq j p) ∙ are_best.has_child j f h ∙ sym (any_opens array p node at j ∙ ap (λ b. b || list_any (is_child j) (drop (suc p) array.nodes)) (is_child_opens array p node at j ∙ no_child j f));
    child = λ j f h. done_at (λ r. r.child) refl j (cases_eq j p) ∙ are_best.child j f h ∙ sym (child_stays array p node at j (no_child j f));
    descendant = λ j past h. head_at j past h (cases_eq j p);
  }

  pub are_best_alone : node.parent ≡ None → AreBest array counts done p
  unfolding is_child_at
  are_best_alone none =
      let parent : parent_at array.nodes p ≡ None = parent_opens array p node at ∙ none in
      are_best_apart (λ j f. ap (λ o. option_map_or (λ q. eqb q j) o false) parent) (λ j f h. weight_unmoved array.nodes counts tree below p parent j)

  pub are_best_past : (q : ℕ) → node.parent ≡ Some q → q < array.justified_node → AreBest array counts done p
  unfolding is_child_at
  are_best_past q first before =
      let parent : parent_at array.nodes p ≡ Some q = parent_opens array p node at ∙ first in
      let less : q < p = parent_below array.nodes tree p q parent in
      let other : (j : ℕ) → array.justified_node ≤ j → eqb q j ≡ false = λ j f. ne_eqb q j (λ s. omega arith) in
      are_best_apart
      (λ j f. ap (λ o. option_map_or (λ x. eqb x j) o false) parent ∙ other j f)
      (λ j f h.
      let all : weight_from array.nodes counts p j ≡ weight_from array.nodes counts (suc p) j + cond (eqb q j) (weight_from array.nodes counts (suc p) p) 0 = weight_given array.nodes counts tree below p q parent less j h in
      let c : cond (eqb q j) (weight_from array.nodes counts (suc p) p) 0 ≡ 0 = ap (λ b. cond b (weight_from array.nodes counts (suc p) p) 0) (other j f) in
      omega arith)

  module _ (q : ℕ) (first : node.parent ≡ Some q) (viable : Bool) (viable_of : viable ≡ cond mine.has_child (is_some mine.child) (agrees array node)) where
    abbrev theirs : BestDescendant
    theirs = best_descendant_at done q

    abbrev gained : BestDescendant
    gained = record {
      weight = theirs.weight + mine.weight;
      has_child = true;
      child = cond viable (Some (better_child array p theirs.child)) theirs.child;
      descendant = theirs.descendant;
    }

    parent : parent_at array.nodes p ≡ Some q
    parent = parent_opens array p node at ∙ first

    less : q < p
    less = parent_below array.nodes tree p q parent

    in_done : q < length done
    in_done = let l : length done ≡ length array.nodes = length_done in let h : q < p = less in omega arith

    child_test : (j : ℕ) → is_child_at array.nodes j p ≡ eqb q j
    unfolding is_child_at
    child_test j = ap (λ o. option_map_or (λ x. eqb x j) o false) parent

    viable_here : viable ≡ is_viable array p node (drop (suc p) array.nodes) (viable_from array (suc p))
    viable_here = viable_of ∙ viable_is array p node at mine.has_child mine.child (are_best.has_child p past_first inside) (are_best.child p past_first inside)

    weight_at : (j : ℕ) → array.justified_node ≤ j → j < length array.nodes → (j ≡ q) ⊎ (j ≡ q → ⊥) → (best_descendant_at (set done q gained) j).weight ≡ weight_from array.nodes counts p j
    weight_at j f h (inl same) =
        let given_is : (best_descendant_at (set done q gained) j).weight ≡ theirs.weight + mine.weight = ap (λ (r : BestDescendant). r.weight) (best_same done q j gained in_done same) in
        let before : theirs.weight ≡ weight_from array.nodes counts (suc p) j = done_at (λ r. r.weight) refl q (cases_eq q p) ∙ ap (λ k. (best_descendant_at bests k).weight) (sym same) ∙ are_best.weight j f h in
        let own : mine.weight ≡ weight_from array.nodes counts (suc p) p = are_best.weight p past_first inside in
        let all : weight_from array.nodes counts p j ≡ weight_from array.nodes counts (suc p) j + cond (eqb q j) (weight_from array.nodes counts (suc p) p) 0 = weight_given array.nodes counts tree below p q parent less j h in
        let c : cond (eqb q j) (weight_from array.nodes counts (suc p) p) 0 ≡ weight_from array.nodes counts (suc p) p = ap (λ b. cond b (weight_from array.nodes counts (suc p) p) 0) (eq-eqb q j (sym same)) in
        omega arith
    weight_at j f h (inr n) =
        let before : (best_descendant_at (set done q gained) j).weight ≡ weight_from array.nodes counts (suc p) j = ap (λ (r : BestDescendant). r.weight) (best_other done q j gained n) ∙ done_at (λ r. r.weight) refl j (cases_eq j p) ∙ are_best.weight j f h in
        let all : weight_from array.nodes counts p j ≡ weight_from array.nodes counts (suc p) j + cond (eqb q j) (weight_from array.nodes counts (suc p) p) 0 = weight_given array.nodes counts tree below p q parent less j h in
        let c : cond (eqb q j) (weight_from array.nodes counts (suc p) p) 0 ≡ 0 = ap (λ b. cond b (weight_from array.nodes counts (suc p) p) 0) (ne_eqb q j (λ s. n (sym s))) in
        omega arith

    has_at : (j : ℕ) → array.justified_node ≤ j → j < length array.nodes → (j ≡ q) ⊎ (j ≡ q → ⊥) → (best_descendant_at (set done q gained) j).has_child ≡ list_any (is_child j) (drop p array.nodes)
    has_at j f h (inl same) =
        ap (λ (r : BestDescendant). r.has_child) (best_same done q j gained in_done same)
        ∙ sym (any_opens array p node at j ∙ ap (λ b. b || list_any (is_child j) (drop (suc p) array.nodes)) (is_child_opens array p node at j ∙ child_test j ∙ eq-eqb q j (sym same)))
    has_at j f h (inr n) =
        ap (λ (r : BestDescendant). r.has_child) (best_other done q j gained n) ∙ done_at (λ r. r.has_child) refl j (cases_eq j p) ∙ are_best.has_child j f h
        ∙ sym (any_opens array p node at j ∙ ap (λ b. b || list_any (is_child j) (drop (suc p) array.nodes)) (is_child_opens array p node at j ∙ child_test j ∙ ne_eqb q j (λ s. n (sym s))))

    child_at : (j : ℕ) → array.justified_node ≤ j → j < length array.nodes → (j ≡ q) ⊎ (j ≡ q → ⊥) → (best_descendant_at (set done q gained) j).child ≡ best_child array p j
    child_at j f h (inl same) =
        let before : theirs.child ≡ best_child array (suc p) j = done_at (λ r. r.child) refl q (cases_eq q p) ∙ ap (λ k. (best_descendant_at bests k).child) (sym same) ∙ are_best.child j f h in
        ap (λ (r : BestDescendant). r.child) (best_same done q j gained in_done same)
        ∙ ap (λ o. cond viable (Some (better_child array p o)) o) before
        ∙ ap (λ b. cond b (Some (better_child array p (best_child array (suc p) j))) (best_child array (suc p) j)) viable_here
        ∙ sym (child_offered array p node at j (child_test j ∙ eq-eqb q j (sym same)))
    child_at j f h (inr n) =
        ap (λ (r : BestDescendant). r.child) (best_other done q j gained n) ∙ done_at (λ r. r.child) refl j (cases_eq j p) ∙ are_best.child j f h
        ∙ sym (child_stays array p node at j (child_test j ∙ ne_eqb q j (λ s. n (sym s))))

    pub are_best_given : AreBest array counts (set done q gained) p
    are_best_given = record {
      length_is = length-set done q gained ∙ length_done;
      weight = λ j f h. weight_at j f h (cases_eq j q);
      has_child = λ j f h. has_at j f h (cases_eq j q);
      child = λ j f h. child_at j f h (cases_eq j q);
      descendant = λ j past h. subst (λ (r : BestDescendant). IsHeadFrom array j r.descendant) (sym (best_other done q j gained (λ s. let l : q < p = less in omega arith))) (head_at j past h (cases_eq j p));
    }

  module _ (counted : IsCounted array counts) (q : ℕ) (first : node.parent ≡ Some q) (from_first : array.justified_node ≤ q) (low : (test : ℕ → Bool) → counted_at test (all_of counts) < 2 ^ 113) where
    parent_before : q < p
    parent_before = parent_below array.nodes tree p q (parent_opens array p node at ∙ first)

    weight_low : (j : ℕ) → array.justified_node ≤ j → j < length array.nodes → (best_descendant_at bests j).weight < 2 ^ 113
    unfolding weight_from
    weight_low j f h = subst (λ w. w < 2 ^ 113) (sym (are_best.weight j f h)) (low (λ n. reaches (length array.nodes) array.nodes (suc p) n j))

    weighed_done : (j : ℕ) → suc p ≤ suc j → j < length array.nodes → IsWeighed array done j
    unfolding IsWeighed
    weighed_done j past h = done_at (λ r. r.weight) refl j (cases_eq j p) ∙ are_best.weight j (omega arith) h ∙ weight_whole array.nodes counts tree below (suc p) j past ∙ weight_is array j counts counted

    child_done : (best_descendant_at done q).child ≡ best_child array (suc p) q
    child_done = done_at (λ r. r.child) refl q (cases_eq q p) ∙ are_best.child q from_first (let l : q < p = parent_before in omega arith)

    if_some : (P : ℕ → Type 0) (o : Option ℕ) → ((c : ℕ) → o ≡ Some c → P c) → IfSome o P
    if_some P None f = tt
    if_some P (Some c) f = f c refl

    between : (c : ℕ) → (best_descendant_at done q).child ≡ Some c → IsBetween array (suc p) (length array.nodes) c
    between c e = best_between array (suc p) q c (omega arith) (sym child_done ∙ e)

    pub can_give : CanGive array done p q
    can_give =
        let l : length done ≡ length array.nodes = length_done in
        let h : q < p = parent_before in
        record {
          length_is = length_done;
          number_in = omega arith;
          parent_in = omega arith;
          fits =
              let a : (best_descendant_at done q).weight ≡ (best_descendant_at bests q).weight = done_at (λ r. r.weight) refl q (cases_eq q p) in
              let b : (best_descendant_at done p).weight ≡ (best_descendant_at bests p).weight = done_at (λ r. r.weight) refl p (cases_eq p p) in
              let x : (best_descendant_at bests q).weight < 2 ^ 113 = weight_low q from_first (omega arith) in
              let y : (best_descendant_at bests p).weight < 2 ^ 113 = weight_low p past_first inside in
              omega arith;
          weighed = weighed_done p (omega arith) inside;
          child_in = if_some (λ child. child < length done) (best_descendant_at done q).child (λ c e. let b = between c e in let d : c < length array.nodes = b.below in omega arith);
          child_weighed = if_some (λ child. IsWeighed array done child) (best_descendant_at done q).child (λ c e. let b = between c e in let d : suc p ≤ c = b.above in weighed_done c (omega arith) b.below);
        }

    pub are_best_gave : (viable : Bool) → viable ≡ cond mine.has_child (is_some mine.child) (agrees array node) → AreBest array counts (set done q (given array done p q viable)) p
    unfolding given
    are_best_gave viable viable_of =
        subst (λ (w : ℕ). AreBest array counts (set done q (record { weight = (best_descendant_at done q).weight + w; has_child = true; child = cond viable (Some (better_child array p (best_descendant_at done q).child)) (best_descendant_at done q).child; descendant = (best_descendant_at done q).descendant })) p)
        (sym (done_at (λ r. r.weight) refl p (cases_eq p p)))
        (are_best_given q first viable viable_of)

-- ---- the same of what the code read

module _ (array : PlainArray) (counts : Counts) (tree : IsTree array.nodes) (below : All (IsBelow (length array.nodes)) (all_of counts)) (bests : List BestDescendant) (p : ℕ) (inside : p < length array.nodes) (past_first : array.justified_node ≤ p) (are_best : AreBest array counts bests (suc p)) (node : Node) (at : slice_get array.nodes p ≡ Some node) (head : ℕ) (head_is : IsHeadFrom array p head) (mine : BestDescendant) (mine_is : mine ≡ best_descendant_at bests p) where
  pub step_alone : node.parent ≡ None → AreBest array counts (set bests p (record mine { descendant = head })) p
  step_alone none = subst (λ (m : BestDescendant). AreBest array counts (set bests p (record m { descendant = head })) p) (sym mine_is) (are_best_alone array counts tree below bests p inside past_first are_best node at head head_is none)

  pub step_past : (q : ℕ) → node.parent ≡ Some q → q < array.justified_node → AreBest array counts (set bests p (record mine { descendant = head })) p
  step_past q first before = subst (λ (m : BestDescendant). AreBest array counts (set bests p (record m { descendant = head })) p) (sym mine_is) (are_best_past array counts tree below bests p inside past_first are_best node at head head_is q first before)

  module _ (counted : IsCounted array counts) (q : ℕ) (first : node.parent ≡ Some q) (from_first : array.justified_node ≤ q) (low : (test : ℕ → Bool) → counted_at test (all_of counts) < 2 ^ 113) where
    pub step_can : CanGive array (set bests p (record mine { descendant = head })) p q
    step_can = subst (λ (m : BestDescendant). CanGive array (set bests p (record m { descendant = head })) p q) (sym mine_is) (can_give array counts tree below bests p inside past_first are_best node at head head_is counted q first from_first low)

    pub step_gave : (viable : Bool) → viable ≡ cond mine.has_child (is_some mine.child) (agrees array node) → (new : List BestDescendant) → new ≡ set (set bests p (record mine { descendant = head })) q (given array (set bests p (record mine { descendant = head })) p q viable) → AreBest array counts new p
    step_gave viable viable_of new new_is =
        subst (λ (rs : List BestDescendant). AreBest array counts rs p) (sym new_is)
        (subst (λ (m : BestDescendant). AreBest array counts (set (set bests p (record m { descendant = head })) q (given array (set bests p (record m { descendant = head })) p q viable)) p) (sym mine_is)
        (are_best_gave array counts tree below bests p inside past_first are_best node at head head_is counted q first from_first low viable
        (viable_of ∙ ap (λ (m : BestDescendant). cond m.has_child (is_some m.child) (agrees array node)) mine_is)))

-- ---- the head of a node that is to be done

module _ (array : PlainArray) (counts : Counts) (tree : IsTree array.nodes) (bests : List BestDescendant) (p : ℕ) (inside : p < length array.nodes) (past_first : array.justified_node ≤ p) (are_best : AreBest array counts bests (suc p)) where
  pub child_between : (c : ℕ) → (best_descendant_at bests p).child ≡ Some c → IsBetween array (suc p) (length array.nodes) c
  child_between c e = best_between array (suc p) p c (omega arith) (sym (are_best.child p past_first inside) ∙ e)

  pub heads_itself : (best_descendant_at bests p).child ≡ None → IsHeadFrom array p p
  heads_itself e = head_none array tree p inside (sym (are_best.child p past_first inside) ∙ e)

  pub heads_on : (c : ℕ) → (best_descendant_at bests p).child ≡ Some c → IsHeadFrom array p (best_descendant_at bests c).descendant
  heads_on c e =
      let b = child_between c e in
      let above : suc p ≤ c = b.above in
      head_some array tree p c (best_descendant_at bests c).descendant inside (sym (are_best.child p past_first inside) ∙ e) (omega arith) (are_best.descendant c above b.below)

pub ruleset heading = (heads_itself, heads_on)

-- ---- all nodes

module _ (array : PlainArray) (counts : Counts) (tree : IsTree array.nodes) (below : All (IsBelow (length array.nodes)) (all_of counts)) (bests : List BestDescendant) where
  pub are_best_none : length bests ≡ length array.nodes → ((j : ℕ) → array.justified_node ≤ j → j < length array.nodes → best_descendant_at bests j ≡ record { weight = own_at counts j; has_child = false; child = None; descendant = 0 }) → AreBest array counts bests (length array.nodes)
  unfolding best_child best_among children_of viable_from filter_block_tree
  are_best_none l fresh =
      let over : drop (length array.nodes) array.nodes ≡ [] = drop_all (length array.nodes) array.nodes (omega arith) in
      record {
        length_is = l;
        weight = λ j f h. ap (λ (r : BestDescendant). r.weight) (fresh j f h) ∙ sym (weight_begins array.nodes counts tree below j);
        has_child = λ j f h. ap (λ (r : BestDescendant). r.has_child) (fresh j f h) ∙ sym (ap (list_any (is_child j)) over);
        child = λ j f h. ap (λ (r : BestDescendant). r.child) (fresh j f h) ∙ sym (ap (λ ns. best_among array (filter (is_child_at array.nodes j) (filter_block_tree array (length array.nodes) ns))) over);
        descendant = λ j past h. absurd (omega arith);
      }

  pub weight_made : (low j : ℕ) → IsCounted array counts → AreBest array counts bests low → low ≤ suc j → array.justified_node ≤ j → j < length array.nodes → (best_descendant_at bests j).weight ≡ get_latest_attesting_balance array j
  weight_made low j counted are_best past f h = are_best.weight j f h ∙ weight_whole array.nodes counts tree below low j past ∙ weight_is array j counts counted

  pub are_best_all : (low : ℕ) → low ≡ array.justified_node → IsCounted array counts → AreBest array counts bests low → IsMade array bests
  are_best_all low is counted are_best = record {
    weights = λ j f h. weight_made low j counted are_best (omega arith) f h;
    heads = λ j f h. are_best.descendant j (omega arith) h;
  }
