-- The codecs of vectors and lists keep the law. Proofs, not definitions.
use Rattle.std.proofs.Common.{◌≡◌, ℕ, zero, suc, ◌+◌, ◌*◌, ◌/◌, ◌^◌, ◌<◌, ◌≤◌, Bool, true, false, cond, List, [], ◌∷◌, ◌++◌, length, take, drop, map, Option, Some, None, refl, sym, ap, subst, ◌∙◌, append_assoc, arith}
use Rattle.std.specs.Prelude.{nat_lt, ◌==◌, replicate}
use Rattle.std.specs.List.{AllByRecursion, flat_map}
use Rattle.std.proofs.lemmas.Bool.{ltb-false, le-ltb, eqb-true, ne_eqb}
use Rattle.std.proofs.lemmas.List.{take_at, drop_at, take-append-drop, length-append, length-map}
use Rattle.std.proofs.lemmas.Nat.{div-mul-add}
use Rattle.std.proofs.Math.Nat.{zero-mul}
use Rattle.ssz_codec.specs.declared.layout.Field.{Field}
use Rattle.ssz_codec.specs.declared.layout.Field.TheVariants.{Fixed, Variable}
use Rattle.ssz_codec.specs.Layout.{◌and_then◌, offset_bytes, offset_of, field_length, fixed_length, fixed_parts, variable_parts, joined, OffsetsFit, cut}
use Rattle.ssz_codec.specs.Codec.{Codec}
use Rattle.ssz_codec.specs.Lists.{parse_items, parse_parts, parse_list, parse_variable_list, vector_codec, fixed_size_list, variable_size_list}
use Rattle.ssz_codec.specs.Lawful.{IsBytes, HasSize, FitFields, IsLawful, IsFixed}
use Rattle.ssz_codec.specs.laws.Layout.{IsBytes-nil, IsBytes-append, IsBytes-take, IsBytes-drop, joined_fits, bind_some, some_is, unless_some, when_some, offset_again, offset_len, cut_is_joined, joined_is_cut}

sized : (f : Field) (bytes : List ℕ) → IsFixed f → HasSize f bytes → length bytes ≡ field_length f
sized (Fixed n) bytes fixed h = h
sized Variable bytes fixed h = elim fixed [ ]

fixed_above : (f : Field) → IsFixed f → 0 < field_length f
fixed_above (Fixed n) fixed = fixed
fixed_above Variable fixed = elim fixed [ ]

-- ---- values of fixed size, one after another

abbrev AreItems : {A : Type 0} → Codec A → ℕ → List ℕ → List A → Type 0
AreItems c count bytes xs = (length xs ≡ count) × AllByRecursion c.Within xs × (bytes ≡ flat_map c.serialize xs)

empty : (bytes : List ℕ) → length bytes ≡ 0 → bytes ≡ []
empty [] e = refl
empty (b ∷ bytes) e = absurd (omega arith)

items_sound : {A : Type 0} (c : Codec A) → IsLawful c → (size count : ℕ) (bytes : List ℕ) (xs : List A) → IsBytes bytes → parse_items c.deserialize size count bytes ≡ Some xs → AreItems c count bytes xs
unfolding parse_items
items_sound {A = A} c law size zero bytes xs fits e =
    let w = when_some (length bytes == 0) (Some []) xs e in
    subst (λ (ys : List A). AreItems c zero bytes ys) (some_is _ _ w.1) (refl, tt, empty bytes (eqb-true _ _ w.0))
items_sound {A = A} c law size (suc count) bytes xs fits e =
    let g = unless_some (nat_lt (length bytes) size) (c.deserialize (take size bytes) and_then λ x. parse_items c.deserialize size count (drop size bytes) and_then λ ys. Some (x ∷ ys)) xs e in
    let a = bind_some (c.deserialize (take size bytes)) (λ x. parse_items c.deserialize size count (drop size bytes) and_then λ ys. Some (x ∷ ys)) xs g.1 in
    let b = bind_some (parse_items c.deserialize size count (drop size bytes)) (λ ys. Some (a.0 ∷ ys)) xs a.2 in
    let h = law.sound (take size bytes) a.0 (IsBytes-take size bytes fits) a.1 in
    let k = items_sound c law size count (drop size bytes) b.0 (IsBytes-drop size bytes fits) b.1 in
    let bytes-is : bytes ≡ c.serialize a.0 ++ flat_map c.serialize b.0 =
    sym (take-append-drop size bytes) ∙ ap (λ (l : List ℕ). l ++ drop size bytes) h.1 ∙ ap (λ (l : List ℕ). c.serialize a.0 ++ l) k.2 in
    subst (λ (ys : List A). AreItems c (suc count) bytes ys) (some_is _ _ b.2) (ap suc k.0, (h.0, k.1), bytes-is)

items_again : {A : Type 0} (c : Codec A) → IsLawful c → IsFixed c.field → (xs : List A) → AllByRecursion c.Within xs → parse_items c.deserialize (field_length c.field) (length xs) (flat_map c.serialize xs) ≡ Some xs
unfolding parse_items
items_again c law fixed [] within = refl
items_again {A = A} c law fixed (x ∷ xs) within =
    let size = field_length c.field in
    let bytes = c.serialize x ++ flat_map c.serialize xs in
    let len : length (c.serialize x) ≡ size = sized c.field (c.serialize x) fixed (law.size x within.0) in
    let test : nat_lt (length bytes) size ≡ false = le-ltb _ _ (omega (arith, length-append (c.serialize x) (flat_map c.serialize xs))) in
    let front : c.deserialize (take size bytes) ≡ Some x = ap c.deserialize (take_at (c.serialize x) (flat_map c.serialize xs) size len) ∙ law.complete x within.0 in
    let rest : parse_items c.deserialize size (length xs) (drop size bytes) ≡ Some xs =
    ap (parse_items c.deserialize size (length xs)) (drop_at (c.serialize x) (flat_map c.serialize xs) size len) ∙ items_again c law fixed xs within.1 in
    ap (λ b. cond b None (c.deserialize (take size bytes) and_then λ y. parse_items c.deserialize size (length xs) (drop size bytes) and_then λ ys. Some (y ∷ ys))) test
    ∙ ap (λ (o : Option A). o and_then λ y. parse_items c.deserialize size (length xs) (drop size bytes) and_then λ ys. Some (y ∷ ys)) front
    ∙ ap (λ (o : Option (List A)). o and_then λ ys. Some (x ∷ ys)) rest

items_len : {A : Type 0} (c : Codec A) → IsLawful c → IsFixed c.field → (xs : List A) → AllByRecursion c.Within xs → length (flat_map c.serialize xs) ≡ length xs * field_length c.field
items_len c law fixed [] within = sym (zero-mul (field_length c.field))
items_len c law fixed (x ∷ xs) within =
    let first = sized c.field (c.serialize x) fixed (law.size x within.0) in
    let rest = items_len c law fixed xs within.1 in
    let step : suc (length xs) * field_length c.field ≡ field_length c.field + length xs * field_length c.field = grind arith in
    omega (arith, length-append (c.serialize x) (flat_map c.serialize xs))

-- the writings of values are bytes
pub items_fit : {A : Type 0} (c : Codec A) → IsLawful c → (xs : List A) → AllByRecursion c.Within xs → IsBytes (flat_map c.serialize xs)
items_fit c law [] within = IsBytes-nil
items_fit c law (x ∷ xs) within = IsBytes-append (c.serialize x) (flat_map c.serialize xs) (law.bytes x within.0) (items_fit c law xs within.1)

parts_fit : {A : Type 0} (c : Codec A) → IsLawful c → (xs : List A) → AllByRecursion c.Within xs → AllByRecursion IsBytes (map c.serialize xs)
parts_fit c law [] within = tt
parts_fit c law (x ∷ xs) within = (law.bytes x within.0, parts_fit c law xs within.1)

pub vector_lawful : {A : Type 0} (c : Codec A) (count : ℕ) → IsFixed c.field → IsLawful c → IsLawful (vector_codec c count)
vector_lawful {A = A} c count fixed law = record {
  sound = λ bytes xs fits e.
      let h = items_sound c law (field_length c.field) count bytes xs fits e in
      ((h.0, h.1), h.2);
  complete = λ xs within.
      subst (λ n. parse_items c.deserialize (field_length c.field) n (flat_map c.serialize xs) ≡ Some xs) within.0 (items_again c law fixed xs within.1);
  size = λ xs within. items_len c law fixed xs within.1 ∙ ap (λ n. n * field_length c.field) within.0;
  bytes = λ xs within. items_fit c law xs within.1;
}

pub list_lawful : {A : Type 0} (c : Codec A) (limit : ℕ) → IsFixed c.field → IsLawful c → IsLawful (fixed_size_list c limit)
unfolding parse_list
list_lawful {A = A} c limit fixed law =
    let size = field_length c.field in
    record {
      sound = λ bytes xs fits e.
          let count = length bytes / size in
          let g = unless_some (nat_lt limit count) (parse_items c.deserialize size count bytes) xs e in
          let h = items_sound c law size count bytes xs fits g.1 in
          let le : count ≤ limit = ltb-false _ _ g.0 in
          ((subst (λ n. n ≤ limit) (sym h.0) le, h.1), h.2);
      complete = λ xs within.
          let bytes = flat_map c.serialize xs in
          let long : length bytes ≡ length xs * size = items_len c law fixed xs within.1 in
          let count-is : length bytes / size ≡ length xs = ap (λ n. n / size) (long ∙ omega arith) ∙ div-mul-add (length xs) size 0 (fixed_above c.field fixed) in
          ap (λ n. cond (nat_lt limit n) None (parse_items c.deserialize size n bytes)) count-is
          ∙ ap (λ b. cond b None (parse_items c.deserialize size (length xs) bytes)) (le-ltb _ _ within.0)
          ∙ items_again c law fixed xs within.1;
      size = λ xs within. tt;
      bytes = λ xs within. items_fit c law xs within.1;
    }

-- ---- values of variable size

abbrev AreOfParts : {A : Type 0} → Codec A → List (List ℕ) → List A → Type 0
AreOfParts c parts xs = (length xs ≡ length parts) × AllByRecursion c.Within xs × (parts ≡ map c.serialize xs)

parts_sound : {A : Type 0} (c : Codec A) → IsLawful c → (parts : List (List ℕ)) (xs : List A) → AllByRecursion IsBytes parts → parse_parts c.deserialize parts ≡ Some xs → AreOfParts c parts xs
unfolding parse_parts
parts_sound {A = A} c law [] xs each e = subst (λ (ys : List A). AreOfParts c [] ys) (some_is _ _ e) (refl, tt, refl)
parts_sound {A = A} c law (p ∷ parts) xs each e =
    let a = bind_some (c.deserialize p) (λ x. parse_parts c.deserialize parts and_then λ ys. Some (x ∷ ys)) xs e in
    let b = bind_some (parse_parts c.deserialize parts) (λ ys. Some (a.0 ∷ ys)) xs a.2 in
    let h = law.sound p a.0 each.0 a.1 in
    let k = parts_sound c law parts b.0 each.1 b.1 in
    subst (λ (ys : List A). AreOfParts c (p ∷ parts) ys) (some_is _ _ b.2)
    (ap suc k.0, (h.0, k.1), ap (λ (q : List ℕ). q ∷ parts) h.1 ∙ ap (λ (qs : List (List ℕ)). c.serialize a.0 ∷ qs) k.2)

parts_again : {A : Type 0} (c : Codec A) → IsLawful c → (xs : List A) → AllByRecursion c.Within xs → parse_parts c.deserialize (map c.serialize xs) ≡ Some xs
unfolding parse_parts
parts_again c law [] within = refl
parts_again {A = A} c law (x ∷ xs) within =
    ap (λ (o : Option A). o and_then λ y. parse_parts c.deserialize (map c.serialize xs) and_then λ ys. Some (y ∷ ys)) (law.complete x within.0)
    ∙ ap (λ (o : Option (List A)). o and_then λ ys. Some (x ∷ ys)) (parts_again c law xs within.1)

pub variable_heads : (n : ℕ) → fixed_length (replicate n Variable) ≡ 4 * n
variable_heads zero = refl
variable_heads (suc n) = omega (arith, variable_heads n)

fit_variable : (n : ℕ) (parts : List (List ℕ)) → length parts ≡ n → FitFields (replicate n Variable) parts
fit_variable zero [] e = tt
fit_variable zero (p ∷ parts) e = absurd (omega arith)
fit_variable (suc n) [] e = absurd (omega arith)
fit_variable (suc n) (p ∷ parts) e = (tt, fit_variable n parts (omega arith))

fitted_len : (n : ℕ) (parts : List (List ℕ)) → FitFields (replicate n Variable) parts → length parts ≡ n
fitted_len zero [] fit = refl
fitted_len zero (p ∷ parts) fit = elim fit [ ]
fitted_len (suc n) [] fit = elim fit [ ]
fitted_len (suc n) (p ∷ parts) fit = ap suc (fitted_len n parts fit.1)

joined_nothing : joined (replicate 0 Variable) [] ≡ []
unfolding joined fixed_parts variable_parts
joined_nothing = refl

-- the bytes of a list that isn't empty begin with their first offset
first_offset : (n : ℕ) (p : List ℕ) (parts : List (List ℕ)) → take 4 (joined (replicate (suc n) Variable) (p ∷ parts)) ≡ offset_bytes (fixed_length (replicate (suc n) Variable))
unfolding joined fixed_parts variable_parts
first_offset n p parts =
    let s = fixed_length (replicate (suc n) Variable) in
    ap (take 4) (append_assoc (offset_bytes s) (fixed_parts (replicate n Variable) parts (s + length p)) (p ++ variable_parts (replicate n Variable) parts))
    ∙ take_at (offset_bytes s) (fixed_parts (replicate n Variable) parts (s + length p) ++ (p ++ variable_parts (replicate n Variable) parts)) 4 (offset_len s)

first_fits : (n : ℕ) (p : List ℕ) (parts : List (List ℕ)) (s : ℕ) → OffsetsFit (replicate (suc n) Variable) (p ∷ parts) s → s < 2 ^ 32
unfolding OffsetsFit
first_fits n p parts s fit = fit.0

abbrev AreListed : {A : Type 0} → Codec A → ℕ → List ℕ → List A → Type 0
AreListed c limit bytes xs =
    ((length xs ≤ limit) × AllByRecursion c.Within xs × OffsetsFit (replicate (length xs) Variable) (map c.serialize xs) (4 * length xs))
    × (bytes ≡ joined (replicate (length xs) Variable) (map c.serialize xs))

nothing_fits : OffsetsFit (replicate 0 Variable) [] 0
unfolding OffsetsFit
nothing_fits = tt

variable_sound_by : {A : Type 0} (c : Codec A) → IsLawful c → (limit count : ℕ) (bytes : List ℕ) (xs : List A) → IsBytes bytes
    → cond (nat_lt limit count) None (cut (replicate count Variable) bytes and_then λ parts. parse_parts c.deserialize parts) ≡ Some xs → AreListed c limit bytes xs
variable_sound_by c law limit count bytes xs fits e =
    let g = unless_some (nat_lt limit count) (cut (replicate count Variable) bytes and_then λ parts. parse_parts c.deserialize parts) xs e in
    let b = bind_some (cut (replicate count Variable) bytes) (λ parts. parse_parts c.deserialize parts) xs g.1 in
    let h = cut_is_joined (replicate count Variable) bytes b.0 fits b.1 in
    let k = parts_sound c law b.0 xs h.each b.2 in
    let len : length xs ≡ count = k.0 ∙ fitted_len count b.0 h.fit in
    let le : count ≤ limit = ltb-false _ _ g.0 in
    let fit : OffsetsFit (replicate (length xs) Variable) (map c.serialize xs) (4 * length xs) =
    subst (λ n. OffsetsFit (replicate n Variable) (map c.serialize xs) (4 * n)) (sym len)
    (subst (λ n. OffsetsFit (replicate count Variable) (map c.serialize xs) n) (variable_heads count)
    (subst (λ ps. OffsetsFit (replicate count Variable) ps (fixed_length (replicate count Variable))) k.2 h.offsets)) in
    ((subst (λ n. n ≤ limit) (sym len) le, k.1, fit), h.whole ∙ ap (joined (replicate count Variable)) k.2 ∙ ap (λ n. joined (replicate n Variable) (map c.serialize xs)) (sym len))

variable_sound : {A : Type 0} (c : Codec A) → IsLawful c → (limit : ℕ) (bytes : List ℕ) (xs : List A) (b : Bool) → (length bytes == 0) ≡ b → IsBytes bytes
    → cond b (Some []) (cond (nat_lt limit (offset_of (take 4 bytes) / 4)) None (cut (replicate (offset_of (take 4 bytes) / 4) Variable) bytes and_then λ parts. parse_parts c.deserialize parts)) ≡ Some xs
    → AreListed c limit bytes xs
variable_sound {A = A} c law limit bytes xs true test fits e =
    subst (λ (ys : List A). AreListed c limit bytes ys) (some_is _ _ e) ((omega arith, tt, nothing_fits), empty bytes (eqb-true _ _ test) ∙ sym joined_nothing)
variable_sound c law limit bytes xs false test fits e = variable_sound_by c law limit (offset_of (take 4 bytes) / 4) bytes xs fits e

variable_again : {A : Type 0} (c : Codec A) → IsLawful c → (limit : ℕ) (xs : List A) → length xs ≤ limit → AllByRecursion c.Within xs
    → OffsetsFit (replicate (length xs) Variable) (map c.serialize xs) (4 * length xs)
    → parse_variable_list c.deserialize limit (joined (replicate (length xs) Variable) (map c.serialize xs)) ≡ Some xs
unfolding parse_variable_list
variable_again c law limit [] le within fit =
    ap (λ (bytes : List ℕ). cond (length bytes == 0) (Some []) (cond (nat_lt limit (offset_of (take 4 bytes) / 4)) None (cut (replicate (offset_of (take 4 bytes) / 4) Variable) bytes and_then λ parts. parse_parts c.deserialize parts))) joined_nothing
variable_again c law limit (x ∷ xs) le within fit =
    let n = length (x ∷ xs) in
    let fs = replicate n Variable in
    let parts = map c.serialize (x ∷ xs) in
    let bytes = joined fs parts in
    let size-is : fixed_length fs ≡ 4 * n = variable_heads n in
    let fit_heads : OffsetsFit fs parts (fixed_length fs) = subst (λ k. OffsetsFit fs parts k) (sym size-is) fit in
    let below : fixed_length fs < 2 ^ 32 = first_fits (length xs) (c.serialize x) (map c.serialize xs) (fixed_length fs) fit_heads in
    let first : offset_of (take 4 bytes) ≡ fixed_length fs = ap offset_of (first_offset (length xs) (c.serialize x) (map c.serialize xs)) ∙ offset_again (fixed_length fs) below in
    let count-is : offset_of (take 4 bytes) / 4 ≡ n = ap (λ k. k / 4) (first ∙ size-is) ∙ omega arith in
    let len-take : length (take 4 bytes) ≡ 4 = ap length (first_offset (length xs) (c.serialize x) (map c.serialize xs)) ∙ offset_len (fixed_length fs) in
    let some_bytes : (length bytes == 0) ≡ false = ne_eqb _ _ (λ none. let e : bytes ≡ [] = empty bytes none in let z : 0 ≡ 4 = sym (ap (λ (l : List ℕ). length (take 4 l)) e) ∙ len-take in absurd (omega arith)) in
    let cut-is : cut fs bytes ≡ Some parts = joined_is_cut fs parts (fit_variable n parts (length-map (x ∷ xs) c.serialize)) fit_heads in
    ap (λ b. cond b (Some []) (cond (nat_lt limit (offset_of (take 4 bytes) / 4)) None (cut (replicate (offset_of (take 4 bytes) / 4) Variable) bytes and_then λ ps. parse_parts c.deserialize ps))) some_bytes
    ∙ ap (λ k. cond (nat_lt limit k) None (cut (replicate k Variable) bytes and_then λ ps. parse_parts c.deserialize ps)) count-is
    ∙ ap (λ b. cond b None (cut fs bytes and_then λ ps. parse_parts c.deserialize ps)) (le-ltb _ _ le)
    ∙ ap (λ (o : Option (List (List ℕ))). o and_then λ ps. parse_parts c.deserialize ps) cut-is
    ∙ parts_again c law (x ∷ xs) within

pub variable_list_lawful : {A : Type 0} (c : Codec A) (limit : ℕ) → IsLawful c → IsLawful (variable_size_list c limit)
unfolding parse_variable_list
variable_list_lawful c limit law = record {
  sound = λ bytes xs fits e. variable_sound c law limit bytes xs (length bytes == 0) refl fits e;
  complete = λ xs within. variable_again c law limit xs within.0 within.1 within.2;
  size = λ xs within. tt;
  bytes = λ xs within. joined_fits (replicate (length xs) Variable) (map c.serialize xs) (parts_fit c law xs within.1);
}
