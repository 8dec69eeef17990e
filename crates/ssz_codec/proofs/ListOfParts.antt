-- Which bytes are no list of variable parts, and what the others are.
use Rattle.std.proofs.Common.{◌≡◌, ℕ, zero, suc, ◌*◌, ◌/◌, ◌≤◌, ◌<◌, Bool, true, false, cond, List, [], length, take, Option, Some, None, refl, sym, ap, ◌∙◌, arith}
use Rattle.std.specs.Prelude.{nat_lt, ◌==◌, replicate}
use Rattle.std.proofs.lemmas.Bool.{lt-ltb, le-ltb, eq-eqb, ne_eqb}
use Rattle.ssz_codec.specs.declared.layout.Field.TheVariants.{Variable}
use Rattle.ssz_codec.specs.declared.fault.SszFault.{SszFault}
use Rattle.ssz_codec.specs.declared.fault.SszFault.TheVariants.{NotAWriting, NoMemory}
use Rattle.ssz_codec.specs.Layout.{◌and_then◌, offset_of, cut_from, cut}
use Rattle.ssz_codec.specs.Lists.{parse_parts, parse_variable_list}
use Rattle.ssz_codec.specs.laws.Lists.{variable_heads}
use Rattle.ssz_codec.specs.Reads.{Fails}
use Rattle.ssz_codec.proofs.Cutting.{cut_short}

-- the bytes that follow the test for none
some_bytes : {A : Type 0} (parse : List ℕ → Option A) (limit count : ℕ) (bytes : List ℕ) → (length bytes ≡ 0 → ⊥) → count ≡ offset_of (take 4 bytes) / 4
    → parse_variable_list parse limit bytes ≡ cond (nat_lt limit count) None (cut (replicate count Variable) bytes and_then λ parts. parse_parts parse parts)
unfolding parse_variable_list
some_bytes parse limit count bytes some is =
    ap (λ b. cond b (Some []) (cond (nat_lt limit (offset_of (take 4 bytes) / 4)) None (cut (replicate (offset_of (take 4 bytes) / 4) Variable) bytes and_then λ parts. parse_parts parse parts))) (ne_eqb _ _ some)
    ∙ ap (λ k. cond (nat_lt limit k) None (cut (replicate k Variable) bytes and_then λ parts. parse_parts parse parts)) (sym is)

abbrev none : {A : Type 0} → Option A
none = None

either_none : {A : Type 0} (b : Bool) → cond b (none {A = A}) None ≡ None
either_none true = refl
either_none false = refl

pub list_none : {A : Type 0} (parse : List ℕ → Option A) (limit : ℕ) (bytes : List ℕ) → length bytes ≡ 0 → parse_variable_list parse limit bytes ≡ Some []
unfolding parse_variable_list
list_none parse limit bytes none = ap (λ b. cond b (Some []) (cond (nat_lt limit (offset_of (take 4 bytes) / 4)) None (cut (replicate (offset_of (take 4 bytes) / 4) Variable) bytes and_then λ parts. parse_parts parse parts))) (eq-eqb _ _ none)

-- too many parts for the bytes
pub list_over : {A : Type 0} (parse : List ℕ → Option A) (limit count : ℕ) (bytes : List ℕ) → (length bytes ≡ 0 → ⊥) → count ≡ offset_of (take 4 bytes) / 4 → length bytes < 4 * count
    → parse_variable_list parse limit bytes ≡ None
list_over {A = A} parse limit count bytes some is over =
    let h : cut (replicate count Variable) bytes ≡ None = cut_short (replicate count Variable) bytes (omega (arith, variable_heads count)) in
    some_bytes parse limit count bytes some is
    ∙ ap (λ (o : Option (List (List ℕ))). cond (nat_lt limit count) None (o and_then λ parts. parse_parts parse parts)) h
    ∙ either_none (nat_lt limit count)

cut_no_fields : (bytes : List ℕ) → (length bytes ≡ 0 → ⊥) → cut [] bytes ≡ None
unfolding cut cut_from
cut_no_fields bytes some =
    ap (λ b. cond b None (cond (length bytes == 0) (Some []) None)) (le-ltb _ _ (omega arith))
    ∙ ap (λ b. cond b (Some []) None) (ne_eqb _ _ some)

short_by : {A : Type 0} (parse : List ℕ → Option A) (limit count : ℕ) (bytes : List ℕ) → (length bytes ≡ 0 → ⊥) → length bytes < 4 → count ≡ offset_of (take 4 bytes) / 4
    → parse_variable_list parse limit bytes ≡ None
short_by parse limit zero bytes some short is =
    some_bytes parse limit zero bytes some is
    ∙ ap (λ (o : Option (List (List ℕ))). cond (nat_lt limit zero) None (o and_then λ parts. parse_parts parse parts)) (cut_no_fields bytes some)
    ∙ either_none (nat_lt limit zero)
short_by parse limit (suc count) bytes some short is = list_over parse limit (suc count) bytes some is (omega arith)

-- fewer bytes than an offset has
pub list_short : {A : Type 0} (parse : List ℕ → Option A) (limit : ℕ) (bytes : List ℕ) → (length bytes ≡ 0 → ⊥) → length bytes < 4 → parse_variable_list parse limit bytes ≡ None
list_short parse limit bytes some short = short_by parse limit (offset_of (take 4 bytes) / 4) bytes some short refl

pub list_past : {A : Type 0} (parse : List ℕ → Option A) (limit count : ℕ) (bytes : List ℕ) → (length bytes ≡ 0 → ⊥) → count ≡ offset_of (take 4 bytes) / 4 → limit < count → parse_variable_list parse limit bytes ≡ None
list_past parse limit count bytes some is past =
    some_bytes parse limit count bytes some is ∙ ap (λ b. cond b None (cut (replicate count Variable) bytes and_then λ parts. parse_parts parse parts)) (lt-ltb _ _ past)

within : {A : Type 0} (parse : List ℕ → Option A) (limit count : ℕ) (bytes : List ℕ) → (length bytes ≡ 0 → ⊥) → count ≡ offset_of (take 4 bytes) / 4 → count ≤ limit
    → parse_variable_list parse limit bytes ≡ (cut (replicate count Variable) bytes and_then λ parts. parse_parts parse parts)
within parse limit count bytes some is le =
    some_bytes parse limit count bytes some is ∙ ap (λ b. cond b None (cut (replicate count Variable) bytes and_then λ parts. parse_parts parse parts)) (le-ltb _ _ le)

pub list_uncut : {A : Type 0} (e : SszFault) (parse : List ℕ → Option A) (limit count : ℕ) (bytes : List ℕ) → (length bytes ≡ 0 → ⊥) → count ≡ offset_of (take 4 bytes) / 4 → count ≤ limit
    → Fails e (cut (replicate count Variable) bytes) → Fails e (parse_variable_list parse limit bytes)
list_uncut NoMemory parse limit count bytes some is le h = tt
list_uncut NotAWriting parse limit count bytes some is le h =
    within parse limit count bytes some is le ∙ ap (λ (o : Option (List (List ℕ))). o and_then λ parts. parse_parts parse parts) h

pub list_cut : {A : Type 0} (parse : List ℕ → Option A) (limit count : ℕ) (bytes : List ℕ) (parts : List (List ℕ)) → (length bytes ≡ 0 → ⊥) → count ≡ offset_of (take 4 bytes) / 4 → count ≤ limit
    → cut (replicate count Variable) bytes ≡ Some parts → parse_variable_list parse limit bytes ≡ parse_parts parse parts
list_cut parse limit count bytes parts some is le h =
    within parse limit count bytes some is le ∙ ap (λ (o : Option (List (List ℕ))). o and_then λ ps. parse_parts parse ps) h
