-- Reading values one after another, as a loop does.
use Rattle.std.proofs.Common.{◌≡◌, ℕ, suc, ◌-◌, ◌+◌, ◌≤◌, ◌<◌, cond, List, [], ◌∷◌, ◌++◌, length, get_or, take, drop, map, Option, Some, None, refl, sym, ap, ◌∙◌, append_assoc, arith}
use Rattle.std.specs.Prelude.{nat_lt, ◌==◌}
use Rattle.std.proofs.lemmas.Bool.{lt-ltb, le-ltb, eq-eqb, ne_eqb}
use Rattle.std.proofs.lemmas.List.{append-nil, drop_more, drop_all}
use Rattle.ssz_codec.specs.declared.fault.SszFault.{SszFault}
use Rattle.ssz_codec.specs.declared.fault.SszFault.TheVariants.{NotAWriting, NoMemory}
use Rattle.ssz_codec.specs.Layout.{◌and_then◌}
use Rattle.ssz_codec.specs.Lists.{parse_items, parse_parts}
use Rattle.ssz_codec.specs.Reads.{Fails}
use Rattle.ssz_codec.specs.inside.Reading.{with_front, with_one}

regroup : {A : Type 0} (front : List A) (x : A) (read : Option (List A)) → with_front front (read and_then λ xs. Some (x ∷ xs)) ≡ with_front (front ++ x ∷ []) read
regroup front x None = refl
regroup front x (Some xs) = ap (λ ys. Some ys) (sym (append_assoc front (x ∷ []) xs))

-- one value is read, and then the others
one_read : {A : Type 0} (front next : List A) (one : Option A) (others : Option (List A)) → with_one front one ≡ Some next
    → with_front front (one and_then λ x. others and_then λ xs. Some (x ∷ xs)) ≡ with_front next others
one_read front next None others e = cc
one_read front next (Some x) others e =
    let next-is : front ++ x ∷ [] ≡ next = cc in
    regroup front x others ∙ ap (λ l. with_front l others) next-is

abbrev item_step : {A : Type 0} → (List ℕ → Option A) → ℕ → ℕ → List ℕ → Option (List A)
item_step parse size count bytes = parse (take size bytes) and_then λ x. parse_items parse size count (drop size bytes) and_then λ xs. Some (x ∷ xs)

-- the count that is left is one more than the next one
left : {A : Type 0} (parse : List ℕ → Option A) (size count i : ℕ) (bytes : List ℕ) → i < count
    → parse_items parse size (count - i) bytes ≡ cond (nat_lt (length bytes) size) None (item_step parse size (count - (i + 1)) bytes)
unfolding parse_items
left parse size count i bytes lt =
    let k : count - i ≡ suc (count - (i + 1)) = omega arith in
    ap (λ n. parse_items parse size n bytes) k

pub item_more : {A : Type 0} (parse : List ℕ → Option A) (size count i : ℕ) (front next : List A) (bytes : List ℕ) (total : Option (List A)) → i < count → size ≤ length bytes → with_one front (parse (take size bytes)) ≡ Some next
    → with_front front (parse_items parse size (count - i) bytes) ≡ total → with_front next (parse_items parse size (count - (i + 1)) (drop size bytes)) ≡ total
item_more parse size count i front next bytes total lt le is so_far =
    let one : parse_items parse size (count - i) bytes ≡ item_step parse size (count - (i + 1)) bytes =
    left parse size count i bytes lt ∙ ap (λ b. cond b None (item_step parse size (count - (i + 1)) bytes)) (le-ltb _ _ le) in
    sym (one_read front next (parse (take size bytes)) (parse_items parse size (count - (i + 1)) (drop size bytes)) is) ∙ ap (with_front front) (sym one) ∙ so_far

pub item_fails : {A : Type 0} (e : SszFault) (parse : List ℕ → Option A) (size count i : ℕ) (front : List A) (bytes : List ℕ) (total : Option (List A)) → i < count → size ≤ length bytes → Fails e (parse (take size bytes))
    → with_front front (parse_items parse size (count - i) bytes) ≡ total → Fails e total
item_fails NoMemory parse size count i front bytes total lt le is so_far = tt
item_fails {A = A} NotAWriting parse size count i front bytes total lt le is so_far =
    let one : parse_items parse size (count - i) bytes ≡ None =
    left parse size count i bytes lt
    ∙ ap (λ b. cond b None (item_step parse size (count - (i + 1)) bytes)) (le-ltb _ _ le)
    ∙ ap (λ (o : Option A). o and_then λ y. parse_items parse size (count - (i + 1)) (drop size bytes) and_then λ xs. Some (y ∷ xs)) is in
    sym so_far ∙ ap (with_front front) one

pub item_short : {A : Type 0} (parse : List ℕ → Option A) (size count i : ℕ) (front : List A) (bytes : List ℕ) (total : Option (List A)) → i < count → length bytes < size
    → with_front front (parse_items parse size (count - i) bytes) ≡ total → total ≡ None
item_short parse size count i front bytes total lt short so_far =
    let one : parse_items parse size (count - i) bytes ≡ None =
    left parse size count i bytes lt ∙ ap (λ b. cond b None (item_step parse size (count - (i + 1)) bytes)) (lt-ltb _ _ short) in
    sym so_far ∙ ap (with_front front) one

last_of : {A : Type 0} (parse : List ℕ → Option A) (size count i : ℕ) (bytes : List ℕ) → count ≤ i → parse_items parse size (count - i) bytes ≡ cond (length bytes == 0) (Some []) None
unfolding parse_items
last_of parse size count i bytes le =
    let k : count - i ≡ 0 = omega arith in
    ap (λ n. parse_items parse size n bytes) k

pub items_end : {A : Type 0} (parse : List ℕ → Option A) (size count i : ℕ) (front : List A) (bytes : List ℕ) (total : Option (List A)) → count ≤ i → length bytes ≡ 0
    → with_front front (parse_items parse size (count - i) bytes) ≡ total → total ≡ Some front
items_end parse size count i front bytes total le none so_far =
    sym so_far ∙ ap (with_front front) (last_of parse size count i bytes le ∙ ap (λ b. cond b (Some []) None) (eq-eqb _ _ none)) ∙ ap (λ xs. Some xs) (append-nil front)

pub items_over : {A : Type 0} (parse : List ℕ → Option A) (size count i : ℕ) (front : List A) (bytes : List ℕ) (total : Option (List A)) → count ≤ i → (length bytes ≡ 0 → ⊥)
    → with_front front (parse_items parse size (count - i) bytes) ≡ total → total ≡ None
items_over parse size count i front bytes total le some so_far =
    sym so_far ∙ ap (with_front front) (last_of parse size count i bytes le ∙ ap (λ b. cond b (Some []) None) (ne_eqb _ _ some))

-- ---- parts

pub part_more : {A : Type 0} (parse : List ℕ → Option A) (front next : List A) (part : List ℕ) (parts : List (List ℕ)) (total : Option (List A)) → with_one front (parse part) ≡ Some next
    → with_front front (parse_parts parse (part ∷ parts)) ≡ total → with_front next (parse_parts parse parts) ≡ total
unfolding parse_parts
part_more parse front next part parts total is so_far = sym (one_read front next (parse part) (parse_parts parse parts) is) ∙ so_far

pub part_fails : {A : Type 0} (e : SszFault) (parse : List ℕ → Option A) (front : List A) (part : List ℕ) (parts : List (List ℕ)) (total : Option (List A)) → Fails e (parse part)
    → with_front front (parse_parts parse (part ∷ parts)) ≡ total → Fails e total
unfolding parse_parts
part_fails NoMemory parse front part parts total is so_far = tt
part_fails {A = A} NotAWriting parse front part parts total is so_far =
    sym so_far ∙ ap (with_front front) (ap (λ (o : Option A). o and_then λ y. parse_parts parse parts and_then λ xs. Some (y ∷ xs)) is)

pub parts_end : {A : Type 0} (parse : List ℕ → Option A) (front : List A) (total : Option (List A)) → with_front front (parse_parts parse []) ≡ total → total ≡ Some front
unfolding parse_parts
parts_end parse front total so_far = sym so_far ∙ ap (λ xs. Some xs) (append-nil front)

front_none : {A : Type 0} (read : Option (List A)) → with_front [] read ≡ read
front_none None = refl
front_none (Some xs) = refl

-- what is read behind nothing
pub read_alone : {A : Type 0} (front values : List A) (read : Option (List A)) → front ≡ [] → with_front front read ≡ Some values → read ≡ Some values
read_alone front values read none h = sym (front_none read) ∙ ap (λ l. with_front l read) (sym none) ∙ h

pub unread_alone : {A : Type 0} (e : SszFault) (front : List A) (read : Option (List A)) → front ≡ [] → Fails e (with_front front read) → Fails e read
unread_alone NoMemory front read none h = tt
unread_alone NotAWriting front read none h = sym (front_none read) ∙ ap (λ l. with_front l read) (sym none) ∙ h

-- what is read of one value behind the others, or why not
pub one_behind : {A : Type 0} (front values : List A) (x : A) (read : Option A) → read ≡ Some x → values ≡ front ++ x ∷ [] → with_one front read ≡ Some values
one_behind front values x read is e = ap (with_one front) is ∙ ap (λ xs. Some xs) (sym e)

pub parts_from : {X : Type 0} (f : X → List ℕ) (parts : List X) (i : ℕ) (d : X) → i < length parts → map f (drop i parts) ≡ f (get_or parts i d) ∷ map f (drop (i + 1) parts)
parts_from f parts i d lt = ap (map f) (drop_more parts i d lt)

pub parts_none : {X : Type 0} (f : X → List ℕ) (parts : List X) (i : ℕ) → length parts ≤ i → map f (drop i parts) ≡ []
parts_none f parts i le = ap (map f) (drop_all i parts le)
