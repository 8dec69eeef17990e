-- Changes of every place.
use Rattle.std.proofs.Common.{◌≡◌, ℕ, suc, ◌+◌, ◌≤◌, List, [], ◌∷◌, ◌++◌, length, map, refl, sym, ap, subst, ◌∙◌, arith, length-append}
use Rattle.std.specs.Prelude.{slice_set}
use Rattle.std.proofs.lemmas.List.{append-nil, append_assoc}
use Rattle.std.proofs.Math.Seq.{set-append_seam}
use Rattle.tree_nodes.specs.Changes.{AreChanges, changed}

-- so many places have room between the lowest and the length
room : {A : Type 0} (low len : ℕ) (cs : List (ℕ × A)) → low ≤ len → AreChanges low len cs → low + length cs ≤ len
room low len [] le h = omega arith
room low len (c ∷ cs) le h = let more : suc c.0 + length cs ≤ len = room (suc c.0) len cs h.1 h.2 in let first = h.0 in omega arith

every_from : {A : Type 0} (front ys : List A) (low len : ℕ) (cs : List (ℕ × A)) → low ≡ length front → len ≡ length front + length ys → length cs ≡ length ys → AreChanges low len cs → changed (front ++ ys) cs ≡ front ++ map (λ c. c.1) cs
unfolding changed
every_from front [] low len [] is long same h = refl
every_from front (y ∷ ys) low len [] is long same h = absurd (omega arith)
every_from front [] low len (c ∷ cs) is long same h = absurd (omega arith)
every_from front (y ∷ ys) low len (c ∷ cs) is long same h =
    let fits : suc c.0 + length cs ≤ len = room (suc c.0) len cs h.1 h.2 in
    let first = h.0 in
    let place : length front ≡ c.0 = omega arith in
    let more : length (front ++ y ∷ []) ≡ length front + 1 = length-append front (y ∷ []) in
    let rest = every_from (front ++ y ∷ []) ys (suc c.0) len cs (omega arith) (omega arith) (omega arith) h.2 in
    ap (λ (xs : List _). slice_set (changed xs cs) c.0 c.1) (sym (append_assoc front (y ∷ []) ys))
    ∙ (ap (λ (xs : List _). slice_set xs c.0 c.1) (rest ∙ append_assoc front (y ∷ []) (map (λ c. c.1) cs))
    ∙ subst (λ (n : ℕ). slice_set (front ++ y ∷ map (λ c. c.1) cs) n c.1 ≡ front ++ c.1 ∷ map (λ c. c.1) cs) place (set-append_seam front y (map (λ c. c.1) cs) c.1))

-- where every place changes, the items are those of the changes
pub every_set : {A : Type 0} (items : List A) (cs : List (ℕ × A)) → length cs ≡ length items → AreChanges 0 (length items) cs → map (λ c. c.1) cs ≡ changed items cs
every_set items cs same h = sym (every_from [] items 0 (length items) cs refl (omega arith) same h)

-- one item more
pub item_more : {A : Type 0} (front now : List A) (item : A) (change : ℕ × A) (rest next : List (ℕ × A)) (all : List A) → rest ≡ change ∷ next → now ≡ front ++ item ∷ [] → item ≡ change.1 → front ++ map (λ c. c.1) rest ≡ all → now ++ map (λ c. c.1) next ≡ all
item_more front now item change rest next all first push is made =
    ap (λ (xs : List _). xs ++ map (λ c. c.1) next) (push ∙ ap (λ x. front ++ x ∷ []) is)
    ∙ (append_assoc front (change.1 ∷ []) (map (λ c. c.1) next)
    ∙ (ap (λ (cs : List (ℕ × _)). front ++ map (λ c. c.1) cs) (sym first) ∙ made))

pub item_all : {A : Type 0} (front : List A) (rest : List (ℕ × A)) (all : List A) → length rest ≡ 0 → front ++ map (λ c. c.1) rest ≡ all → front ≡ all
item_all front [] all none made = sym (append-nil front) ∙ made
item_all front (c ∷ cs) all none made = absurd (omega arith)
