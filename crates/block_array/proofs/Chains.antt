-- Which nodes a walk to the parents comes by.
use Rattle.std.proofs.Common.{◌≡◌, ℕ, zero, suc, ◌<◌, ◌≤◌, ◌⊎◌, inl, inr, Bool, true, false, cond, ◌||◌, ◌&&◌, eqb, leb, List, Option, Some, None, length, refl, sym, ap, ◌∙◌, arith}
use Rattle.std.specs.Option.{option_map_or, unwrap_or}
use Rattle.std.proofs.lemmas.Bool.{cases_eq, cases_lt, cases_order, eq-eqb, ne_eqb, eqb-true, lt-ltb, le-ltb, le-leb, lt-leb}
use Rattle.block_array.specs.declared.node.Node.{Node}
use Rattle.block_array.specs.PlainArray.{slot_at, parent_at}
use Rattle.block_array.specs.GetAncestor.{parent_or_self, ancestor_within, get_ancestor}
use Rattle.block_array.specs.GetLatestAttestingBalance.{is_on_chain_of}
use Rattle.block_array.specs.inside.Tree.{IsTree, reaches}

false_right : (b : Bool) → (b && false) ≡ false
false_right true = refl
false_right false = refl

module _ (nodes : List Node) (low : ℕ) where
  -- one step of the walk, where a node's parent is known
  abbrev onward : ℕ → ℕ → ℕ → Option ℕ → Bool
  onward k d j o = eqb d j || (leb low d && option_map_or (λ p. reaches k nodes low p j) o false)

  opens : (k d j : ℕ) (o : Option ℕ) → parent_at nodes d ≡ o → reaches (suc k) nodes low d j ≡ onward k d j o
  unfolding reaches
  opens k d j o e = ap (onward k d j) e

  opens_other : (k d j : ℕ) (o : Option ℕ) → parent_at nodes d ≡ o → (d ≡ j → ⊥) → reaches (suc k) nodes low d j ≡ (leb low d && option_map_or (λ p. reaches k nodes low p j) o false)
  opens_other k d j o e n = opens k d j o e ∙ ap (λ b. b || (leb low d && option_map_or (λ p. reaches k nodes low p j) o false)) (ne_eqb d j n)

  at_itself : (k d : ℕ) → reaches k nodes low d d ≡ true
  unfolding reaches
  at_itself zero d = eq-eqb d d refl
  at_itself (suc k) d = ap (λ b. b || (leb low d && option_map_or (λ p. reaches k nodes low p d) (parent_at nodes d) false)) (eq-eqb d d refl)

  -- below the lowest node the walk stops
  pub stops_below : (k d j : ℕ) → d < low → reaches k nodes low d j ≡ eqb d j
  unfolding reaches
  stops_below zero d j h = refl
  stops_below (suc k) d j h = ap (λ b. eqb d j || (b && option_map_or (λ p. reaches k nodes low p j) (parent_at nodes d) false)) (lt-leb low d h) ∙ or_false (eqb d j)
    where
      or_false : (b : Bool) → (b || false) ≡ b
      or_false true = refl
      or_false false = refl

  -- what falls from node to parent keeps it from nodes where it is greater
  module _ (measure : ℕ → ℕ) (falls : (d p : ℕ) → parent_at nodes d ≡ Some p → measure p < measure d) where
    apart : (d j : ℕ) → measure d < measure j → d ≡ j → ⊥
    apart d j h s = let m : measure d ≡ measure j = ap measure s in omega arith

    never_by : (k d j : ℕ) → ((p : ℕ) → measure p < measure j → reaches k nodes low p j ≡ false) → (o : Option ℕ) → parent_at nodes d ≡ o → measure d < measure j → reaches (suc k) nodes low d j ≡ false
    never_by k d j ih None e h = opens_other k d j None e (λ s. apart d j h s) ∙ false_right (leb low d)
    never_by k d j ih (Some p) e h =
        let f : measure p < measure d = falls d p e in
        opens_other k d j (Some p) e (λ s. apart d j h s) ∙ ap (λ b. leb low d && b) (ih p (omega arith)) ∙ false_right (leb low d)

    pub never : (k d j : ℕ) → measure d < measure j → reaches k nodes low d j ≡ false
    unfolding reaches
    never zero d j h = ne_eqb d j (λ s. apart d j h s)
    never (suc k) d j h = never_by k d j (λ p less. never k p j less) (parent_at nodes d) refl h

-- a node without a parent gives nothing
module _ (nodes : List Node) (p : ℕ) (none : parent_at nodes p ≡ None) (j : ℕ) where
  unmoved_by : (k d : ℕ) → ((x : ℕ) → reaches k nodes p x j ≡ reaches k nodes (suc p) x j) → (d ≡ j → ⊥) → p < d → (o : Option ℕ) → parent_at nodes d ≡ o → reaches (suc k) nodes p d j ≡ reaches (suc k) nodes (suc p) d j
  unmoved_by k d ih n past None e = opens_other nodes p k d j None e n ∙ false_right (leb p d) ∙ sym (opens_other nodes (suc p) k d j None e n ∙ false_right (leb (suc p) d))
  unmoved_by k d ih n past (Some x) e =
      opens_other nodes p k d j (Some x) e n ∙ ap (λ b. b && reaches k nodes p x j) (le-leb p d (omega arith)) ∙ ih x
      ∙ sym (opens_other nodes (suc p) k d j (Some x) e n ∙ ap (λ b. b && reaches k nodes (suc p) x j) (le-leb (suc p) d (omega arith)))

  unmoved_case : (k d : ℕ) → ((x : ℕ) → reaches k nodes p x j ≡ reaches k nodes (suc p) x j) → (d ≡ j) ⊎ (d ≡ j → ⊥) → (d ≡ p) ⊎ ((d < p) ⊎ (p < d)) → reaches (suc k) nodes p d j ≡ reaches (suc k) nodes (suc p) d j
  unmoved_case k d ih (inl same) order = ap (reaches (suc k) nodes p d) (sym same) ∙ at_itself nodes p (suc k) d ∙ sym (ap (reaches (suc k) nodes (suc p) d) (sym same) ∙ at_itself nodes (suc p) (suc k) d)
  unmoved_case k d ih (inr n) (inl here) =
      let e : parent_at nodes d ≡ None = ap (parent_at nodes) here ∙ none in
      opens_other nodes p k d j None e n ∙ false_right (leb p d) ∙ sym (opens_other nodes (suc p) k d j None e n ∙ false_right (leb (suc p) d))
  unmoved_case k d ih (inr n) (inr (inl less)) = stops_below nodes p (suc k) d j less ∙ sym (stops_below nodes (suc p) (suc k) d j (omega arith))
  unmoved_case k d ih (inr n) (inr (inr past)) = unmoved_by k d ih n past (parent_at nodes d) refl

  unmoved_zero : (d : ℕ) → reaches zero nodes p d j ≡ reaches zero nodes (suc p) d j
  unfolding reaches
  unmoved_zero d = refl

  pub unmoved : (k d : ℕ) → reaches k nodes p d j ≡ reaches k nodes (suc p) d j
  unmoved zero d = unmoved_zero d
  unmoved (suc k) d = unmoved_case k d (λ x. unmoved k x) (cases_eq d j) (cases_order d p)

module _ (nodes : List Node) (tree : IsTree nodes) where
  pub parent_below : (d p : ℕ) → parent_at nodes d ≡ Some p → p < d
  unfolding IsTree
  parent_below d p e = (tree d p e).number

  parent_slot : (d p : ℕ) → parent_at nodes d ≡ Some p → slot_at nodes p < slot_at nodes d
  unfolding IsTree
  parent_slot d p e = (tree d p e).slot

  -- a walk never comes by a later node, nor by one of a later slot
  pub never_later : (low k d j : ℕ) → d < j → reaches k nodes low d j ≡ false
  never_later low k d j h = never nodes low (λ n. n) parent_below k d j h

  never_slot : (low k d j : ℕ) → slot_at nodes d < slot_at nodes j → reaches k nodes low d j ≡ false
  never_slot low k d j h = never nodes low (slot_at nodes) parent_slot k d j h

  -- ---- what a node gives to its parent

  module _ (p q : ℕ) (parent : parent_at nodes p ≡ Some q) (j : ℕ) where
    abbrev Gives : ℕ → ℕ → Type 0
    Gives k d = reaches k nodes p d j ≡ (reaches k nodes (suc p) d j || (eqb q j && reaches k nodes (suc p) d p))

    gives_above : (k d : ℕ) → ((x : ℕ) → x ≤ k → Gives k x) → d ≤ suc k → p < d → (d ≡ j → ⊥) → (o : Option ℕ) → parent_at nodes d ≡ o → Gives (suc k) d
    gives_above k d ih small past n None e =
        opens_other nodes p k d j None e n ∙ false_right (leb p d)
        ∙ sym (ap₂_or (opens_other nodes (suc p) k d j None e n ∙ false_right (leb (suc p) d)) (opens_other nodes (suc p) k d p None e (λ s. omega arith) ∙ false_right (leb (suc p) d)))
      where
        ap₂_or : {a b : Bool} → a ≡ false → b ≡ false → (a || (eqb q j && b)) ≡ false
        ap₂_or {a} {b} x y = ap (λ z. z || (eqb q j && b)) x ∙ ap (λ z. eqb q j && z) y ∙ false_right (eqb q j)
    gives_above k d ih small past n (Some x) e =
        let below : x < d = parent_below d x e in
        let here : x ≤ k = omega arith in
        let left : reaches (suc k) nodes p d j ≡ reaches k nodes p x j = opens_other nodes p k d j (Some x) e n ∙ ap (λ b. b && reaches k nodes p x j) (le-leb p d (omega arith)) in
        let right : reaches (suc k) nodes (suc p) d j ≡ reaches k nodes (suc p) x j = opens_other nodes (suc p) k d j (Some x) e n ∙ ap (λ b. b && reaches k nodes (suc p) x j) (le-leb (suc p) d (omega arith)) in
        let own : reaches (suc k) nodes (suc p) d p ≡ reaches k nodes (suc p) x p = opens_other nodes (suc p) k d p (Some x) e (λ s. omega arith) ∙ ap (λ b. b && reaches k nodes (suc p) x p) (le-leb (suc p) d (omega arith)) in
        left ∙ ih x here ∙ ap (λ b. b || (eqb q j && reaches k nodes (suc p) x p)) (sym right) ∙ ap (λ b. reaches (suc k) nodes (suc p) d j || (eqb q j && b)) (sym own)

    gives_below : (k d : ℕ) → d < p → Gives k d
    gives_below k d less =
        stops_below nodes p k d j less
        ∙ sym (ap (λ b. b || (eqb q j && reaches k nodes (suc p) d p)) (stops_below nodes (suc p) k d j (omega arith))
        ∙ ap (λ b. eqb d j || (eqb q j && b)) (never_later (suc p) k d p less)
        ∙ ap (λ b. eqb d j || b) (false_right (eqb q j)) ∙ or_right (eqb d j))
      where
        or_right : (b : Bool) → (b || false) ≡ b
        or_right true = refl
        or_right false = refl

    gives_here : (k d : ℕ) → d ≡ p → (d ≡ j → ⊥) → Gives (suc k) d
    gives_here k d same n =
        let here : parent_at nodes d ≡ Some q = ap (parent_at nodes) same ∙ parent in
        let below : q < p = parent_below p q parent in
        let left : reaches (suc k) nodes p d j ≡ eqb q j = opens_other nodes p k d j (Some q) here n ∙ ap (λ b. b && reaches k nodes p q j) (le-leb p d (omega arith)) ∙ stops_below nodes p k q j below in
        let right : reaches (suc k) nodes (suc p) d j ≡ false = stops_below nodes (suc p) (suc k) d j (omega arith) ∙ ne_eqb d j n in
        let own : reaches (suc k) nodes (suc p) d p ≡ true = stops_below nodes (suc p) (suc k) d p (omega arith) ∙ eq-eqb d p same in
        left ∙ sym (ap (λ b. b || (eqb q j && reaches (suc k) nodes (suc p) d p)) right ∙ ap (λ b. eqb q j && b) own ∙ and_true (eqb q j))
      where
        and_true : (b : Bool) → (b && true) ≡ b
        and_true true = refl
        and_true false = refl

    gives_same : (k d : ℕ) → d ≡ j → Gives k d
    gives_same k d same =
        let reached : (low : ℕ) → reaches k nodes low d j ≡ true = λ low. ap (reaches k nodes low d) (sym same) ∙ at_itself nodes low k d in
        reached p ∙ sym (ap (λ b. b || (eqb q j && reaches k nodes (suc p) d p)) (reached (suc p)))

    gives_by : (k d : ℕ) → ((x : ℕ) → x ≤ k → Gives k x) → d ≤ suc k → (d ≡ j) ⊎ (d ≡ j → ⊥) → (d ≡ p) ⊎ ((d < p) ⊎ (p < d)) → Gives (suc k) d
    gives_by k d ih small (inl same) order = gives_same (suc k) d same
    gives_by k d ih small (inr n) (inl here) = gives_here k d here n
    gives_by k d ih small (inr n) (inr (inl less)) = gives_below (suc k) d less
    gives_by k d ih small (inr n) (inr (inr past)) = gives_above k d ih small past n (parent_at nodes d) refl

    pub gives : (k d : ℕ) → d ≤ k → Gives k d
    gives zero d small = gives_below zero d (let below : q < p = parent_below p q parent in omega arith)
    gives (suc k) d small = gives_by k d (λ x h. gives k x h) small (cases_eq d j) (cases_order d p)

  -- and it gives it once: what comes by the node did not come by the parent before
  module _ (p j : ℕ) (less : j < p) where
    once_by : (k d : ℕ) → ((x : ℕ) → reaches k nodes (suc p) x p ≡ true → reaches k nodes (suc p) x j ≡ false) → (o : Option ℕ) → parent_at nodes d ≡ o → p < d → reaches (suc k) nodes (suc p) d p ≡ true → reaches (suc k) nodes (suc p) d j ≡ false
    once_by k d ih None e past own = opens_other nodes (suc p) k d j None e (λ s. omega arith) ∙ false_right (leb (suc p) d)
    once_by k d ih (Some x) e past own =
        let mine : reaches (suc k) nodes (suc p) d p ≡ reaches k nodes (suc p) x p = opens_other nodes (suc p) k d p (Some x) e (λ s. omega arith) ∙ ap (λ b. b && reaches k nodes (suc p) x p) (le-leb (suc p) d (omega arith)) in
        opens_other nodes (suc p) k d j (Some x) e (λ s. omega arith) ∙ ap (λ b. leb (suc p) d && b) (ih x (sym mine ∙ own)) ∙ false_right (leb (suc p) d)

    once_low : (k d : ℕ) → d < suc p → reaches k nodes (suc p) d p ≡ true → reaches k nodes (suc p) d j ≡ false
    once_low k d low own =
        let same : d ≡ p = eqb-true d p (sym (stops_below nodes (suc p) k d p low) ∙ own) in
        stops_below nodes (suc p) k d j low ∙ ne_eqb d j (λ s. omega arith)

    once_zero : (d : ℕ) → reaches zero nodes (suc p) d p ≡ true → reaches zero nodes (suc p) d j ≡ false
    unfolding reaches
    once_zero d own = let same : d ≡ p = eqb-true d p own in ne_eqb d j (λ s. omega arith)

    once_case : (k d : ℕ) → ((x : ℕ) → reaches k nodes (suc p) x p ≡ true → reaches k nodes (suc p) x j ≡ false) → (d < suc p) ⊎ (suc p ≤ d) → reaches (suc k) nodes (suc p) d p ≡ true → reaches (suc k) nodes (suc p) d j ≡ false
    once_case k d ih (inl low) own = once_low (suc k) d low own
    once_case k d ih (inr past) own = once_by k d ih (parent_at nodes d) refl (omega arith) own

    pub once : (k d : ℕ) → reaches k nodes (suc p) d p ≡ true → reaches k nodes (suc p) d j ≡ false
    once zero d own = once_zero d own
    once (suc k) d own = once_case k d (λ x own. once k x own) (cases_lt d (suc p)) own

  -- ---- a node that gave all has its whole chain

  module _ (low j : ℕ) (past : low ≤ suc j) where
    whole_by : (k d : ℕ) → ((x : ℕ) → reaches k nodes low x j ≡ reaches k nodes 0 x j) → (d ≡ j → ⊥) → (o : Option ℕ) → parent_at nodes d ≡ o → low ≤ d → reaches (suc k) nodes low d j ≡ reaches (suc k) nodes 0 d j
    whole_by k d ih n None e h = opens_other nodes low k d j None e n ∙ false_right (leb low d) ∙ sym (opens_other nodes 0 k d j None e n ∙ false_right (leb 0 d))
    whole_by k d ih n (Some x) e h =
        opens_other nodes low k d j (Some x) e n ∙ ap (λ b. b && reaches k nodes low x j) (le-leb low d h) ∙ ih x
        ∙ sym (opens_other nodes 0 k d j (Some x) e n ∙ ap (λ b. b && reaches k nodes 0 x j) (le-leb 0 d (omega arith)))

    whole_case : (k d : ℕ) → ((x : ℕ) → reaches k nodes low x j ≡ reaches k nodes 0 x j) → (d ≡ j) ⊎ (d ≡ j → ⊥) → (d < low) ⊎ (low ≤ d) → reaches (suc k) nodes low d j ≡ reaches (suc k) nodes 0 d j
    whole_case k d ih (inl same) order = ap (reaches (suc k) nodes low d) (sym same) ∙ at_itself nodes low (suc k) d ∙ sym (ap (reaches (suc k) nodes 0 d) (sym same) ∙ at_itself nodes 0 (suc k) d)
    whole_case k d ih (inr n) (inl less) = never_later low (suc k) d j (omega arith) ∙ sym (never_later 0 (suc k) d j (omega arith))
    whole_case k d ih (inr n) (inr h) = whole_by k d ih n (parent_at nodes d) refl h

    whole_zero : (d : ℕ) → reaches zero nodes low d j ≡ reaches zero nodes 0 d j
    unfolding reaches
    whole_zero d = refl

    pub whole : (k d : ℕ) → reaches k nodes low d j ≡ reaches k nodes 0 d j
    whole zero d = whole_zero d
    whole (suc k) d = whole_case k d (λ x. whole k x) (cases_eq d j) (cases_lt d low)

  -- ---- the walk to an ancestor

  module _ (j : ℕ) where
    abbrev found : ℕ → ℕ → ℕ
    found k d = ancestor_within k nodes d (slot_at nodes j)

    found_here : (k d : ℕ) → slot_at nodes d ≤ slot_at nodes j → found (suc k) d ≡ d
    unfolding ancestor_within
    found_here k d h = ap (λ b. cond b (found k (parent_or_self nodes d)) d) (le-ltb (slot_at nodes j) (slot_at nodes d) h)

    found_on : (k d : ℕ) → slot_at nodes j < slot_at nodes d → found (suc k) d ≡ found k (parent_or_self nodes d)
    unfolding ancestor_within
    found_on k d h = ap (λ b. cond b (found k (parent_or_self nodes d)) d) (lt-ltb (slot_at nodes j) (slot_at nodes d) h)

    parent_none : (d : ℕ) → parent_at nodes d ≡ None → parent_or_self nodes d ≡ d
    unfolding parent_or_self
    parent_none d e = ap (λ o. unwrap_or o d) e

    parent_some : (d x : ℕ) → parent_at nodes d ≡ Some x → parent_or_self nodes d ≡ x
    unfolding parent_or_self
    parent_some d x e = ap (λ o. unwrap_or o d) e

    found_zero : (d : ℕ) → found zero d ≡ d
    unfolding ancestor_within
    found_zero d = refl

    stays_by : (k d : ℕ) → found k d ≡ d → parent_at nodes d ≡ None → (slot_at nodes j < slot_at nodes d) ⊎ (slot_at nodes d ≤ slot_at nodes j) → found (suc k) d ≡ d
    stays_by k d ih e (inl h) = found_on k d h ∙ ap (found k) (parent_none d e) ∙ ih
    stays_by k d ih e (inr h) = found_here k d h

    stays : (k d : ℕ) → parent_at nodes d ≡ None → found k d ≡ d
    stays zero d e = found_zero d
    stays (suc k) d e = stays_by k d (stays k d e) e (cases_lt (slot_at nodes j) (slot_at nodes d))

    found_by : (k d : ℕ) → ((x : ℕ) → x ≤ k → reaches k nodes 0 x j ≡ eqb (found k x) j) → d ≤ suc k → (d ≡ j → ⊥) → (o : Option ℕ) → parent_at nodes d ≡ o → (slot_at nodes j < slot_at nodes d) ⊎ (slot_at nodes d ≤ slot_at nodes j) → reaches (suc k) nodes 0 d j ≡ eqb (found (suc k) d) j
    found_by k d ih small n None e order =
        opens_other nodes 0 k d j None e n ∙ false_right (leb 0 d)
        ∙ sym (ap (λ x. eqb x j) (stays (suc k) d e) ∙ ne_eqb d j n)
    found_by k d ih small n (Some x) e (inl later) =
        let below : x < d = parent_below d x e in
        opens_other nodes 0 k d j (Some x) e n ∙ ap (λ b. b && reaches k nodes 0 x j) (le-leb 0 d (omega arith)) ∙ ih x (omega arith)
        ∙ sym (ap (λ y. eqb y j) (found_on k d later ∙ ap (found k) (parent_some d x e)))
    found_by k d ih small n (Some x) e (inr here) =
        let slot : slot_at nodes x < slot_at nodes d = parent_slot d x e in
        opens_other nodes 0 k d j (Some x) e n ∙ ap (λ b. leb 0 d && b) (never_slot 0 k x j (omega arith)) ∙ false_right (leb 0 d)
        ∙ sym (ap (λ y. eqb y j) (found_here k d here) ∙ ne_eqb d j n)

    found_case : (k d : ℕ) → ((x : ℕ) → x ≤ k → reaches k nodes 0 x j ≡ eqb (found k x) j) → d ≤ suc k → (d ≡ j) ⊎ (d ≡ j → ⊥) → reaches (suc k) nodes 0 d j ≡ eqb (found (suc k) d) j
    found_case k d ih small (inl same) =
        let slots : slot_at nodes d ≡ slot_at nodes j = ap (slot_at nodes) same in
        ap (reaches (suc k) nodes 0 d) (sym same) ∙ at_itself nodes 0 (suc k) d ∙ sym (ap (λ y. eqb y j) (found_here k d (omega arith)) ∙ eq-eqb d j same)
    found_case k d ih small (inr n) = found_by k d ih small n (parent_at nodes d) refl (cases_lt (slot_at nodes j) (slot_at nodes d))

    reaches_zero : (d : ℕ) → reaches zero nodes 0 d j ≡ eqb (found zero d) j
    unfolding reaches ancestor_within
    reaches_zero d = refl

    pub reaches_is : (k d : ℕ) → d ≤ k → reaches k nodes 0 d j ≡ eqb (found k d) j
    reaches_is zero d small = reaches_zero d
    reaches_is (suc k) d small = found_case k d (λ x h. reaches_is k x h) small (cases_eq d j)

  pub on_chain : (d j : ℕ) → d < length nodes → reaches (length nodes) nodes 0 d j ≡ is_on_chain_of nodes j d
  unfolding is_on_chain_of get_ancestor
  on_chain d j inside = reaches_is j (length nodes) d (omega arith)
