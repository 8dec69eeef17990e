-- Reading a row: the value of the first part, and then those of the others.
use Rattle.std.proofs.Common.{◌≡◌, ℕ, ◌-◌, ◌<◌, ◌≤◌, List, [], ◌∷◌, length, get_or, take, drop, map, Option, Some, None, refl, sym, ap, ◌∙◌, arith}
use Rattle.std.proofs.lemmas.List.{take_all}
use Rattle.ssz_codec.specs.declared.fault.SszFault.{SszFault}
use Rattle.ssz_codec.specs.declared.fault.SszFault.TheVariants.{NotAWriting, NoMemory}
use Rattle.ssz_codec.specs.Layout.{◌and_then◌}
use Rattle.ssz_codec.specs.Codec.{Codec}
use Rattle.ssz_codec.specs.Reads.{Fails}
use Rattle.ssz_codec.specs.inside.Rows.{read_before, beside}

-- the parts behind the first
abbrev others : {X : Type 0} → List X → List X
others parts = take (length parts - 1) (drop 1 parts)

-- the row of these parts, whose first has that value
behind : {A R X : Type 0} (c : Codec A) (reading : List (List ℕ) → Option R) (f : X → List ℕ) (parts : List X) (d : X) (value : Option A) → 1 ≤ length parts → c.deserialize (f (get_or parts 0 d)) ≡ value
    → read_before c reading (map f parts) ≡ (value and_then λ a. reading (map f (others parts)) and_then λ rest. Some (beside a rest))
behind c reading f [] d value some is = absurd (omega arith)
behind {A = A} {X = X} c reading f (part ∷ parts) d value some is =
    ap (λ (o : Option A). o and_then λ a. reading (map f parts) and_then λ rest. Some (beside a rest)) is
    ∙ ap (λ (l : List X). value and_then λ a. reading (map f l) and_then λ rest. Some (beside a rest)) (sym (take_all (length (part ∷ parts) - 1) parts (omega arith)))

pub first_unread : {A R X : Type 0} (e : SszFault) (c : Codec A) (reading : List (List ℕ) → Option R) (f : X → List ℕ) (parts : List X) (d : X) → 1 ≤ length parts → Fails e (c.deserialize (f (get_or parts 0 d)))
    → Fails e (read_before c reading (map f parts))
first_unread NoMemory c reading f parts d some h = tt
first_unread NotAWriting c reading f parts d some h = behind c reading f parts d None some h

pub others_unread : {A R X : Type 0} (e : SszFault) (c : Codec A) (reading : List (List ℕ) → Option R) (f : X → List ℕ) (parts : List X) (d : X) (value : A) → 1 ≤ length parts → c.deserialize (f (get_or parts 0 d)) ≡ Some value
    → Fails e (reading (map f (others parts))) → Fails e (read_before c reading (map f parts))
others_unread NoMemory c reading f parts d value some is h = tt
others_unread {R = R} NotAWriting c reading f parts d value some is h =
    behind c reading f parts d (Some value) some is ∙ ap (λ (o : Option R). o and_then λ rest. Some (beside value rest)) h

pub all_read : {A R X : Type 0} (c : Codec A) (reading : List (List ℕ) → Option R) (f : X → List ℕ) (parts : List X) (d : X) (value : A) (rest : R) → 1 ≤ length parts → c.deserialize (f (get_or parts 0 d)) ≡ Some value
    → reading (map f (others parts)) ≡ Some rest → read_before c reading (map f parts) ≡ Some (value, rest)
all_read {R = R} c reading f parts d value rest some is h =
    behind c reading f parts d (Some value) some is ∙ ap (λ (o : Option R). o and_then λ rest. Some (beside value rest)) h

pub none_read : {A R X : Type 0} (c : Codec A) (reading : List (List ℕ) → Option R) (f : X → List ℕ) (parts : List X) → length parts < 1 → read_before c reading (map f parts) ≡ None
none_read c reading f [] none = refl
none_read c reading f (part ∷ parts) none = absurd (omega arith)
