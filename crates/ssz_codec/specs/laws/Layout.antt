-- The laws of a layout: what is cut is what was joined, and what was joined is cut again. Proofs, not definitions.
use Rattle.std.proofs.Common.{◌≡◌, ℕ, zero, suc, ◌+◌, ◌-◌, ◌^◌, ◌<◌, ◌≤◌, Bool, true, false, cond, List, [], ◌∷◌, ◌++◌, length, take, drop, Option, Some, None, refl, sym, ap, subst, ◌∙◌, append_assoc, arith, inl, inr}
use Rattle.std.specs.Prelude.{nat_lt, ◌==◌}
use Rattle.std.specs.List.{AllByRecursion}
use Rattle.std.proofs.lemmas.Bool.{cases_lt, ltb-false, le-ltb, eqb-true, eq-eqb}
use Rattle.std.proofs.lemmas.List.{take_at, drop_at, take-append-drop, length-append, length-take, length-take-le, length-drop, get_or-drop, get_or-take, get_or_past, drop_all, drop-drop, append-nil}
use Rattle.std.proofs.lemmas.Nat.{le_bytes_4, from_le_bytes-to_le_bytes_4}
use Rattle.std.proofs.Math.Seq.{take-add}
use Rattle.ssz_codec.specs.declared.layout.Field.{Field}
use Rattle.ssz_codec.specs.declared.layout.Field.TheVariants.{Fixed, Variable}
use Rattle.ssz_codec.specs.Layout.{◌and_then◌, offset_bytes, offset_of, fixed_length, fixed_parts, variable_parts, joined, OffsetsFit, Cuts, cut_variable, cut_from, cut}
use Rattle.ssz_codec.specs.Lawful.{IsBytes, FitFields}

pub IsBytes-append : (xs ys : List ℕ) → IsBytes xs → IsBytes ys → IsBytes (xs ++ ys)
IsBytes-append [] ys first second i = second i
IsBytes-append (x ∷ xs) ys first second zero = first zero
IsBytes-append (x ∷ xs) ys first second (suc i) = IsBytes-append xs ys (λ j. first (suc j)) second i

pub IsBytes-nil : IsBytes []
IsBytes-nil i = omega arith

pub IsBytes-drop : (n : ℕ) (bytes : List ℕ) → IsBytes bytes → IsBytes (drop n bytes)
IsBytes-drop n bytes h i = rw get_or-drop (h (n + i))

pub IsBytes-take : (n : ℕ) (bytes : List ℕ) → IsBytes bytes → IsBytes (take n bytes)
IsBytes-take n bytes h i =
    elim (cases_lt i n) [
      | inl lt ↦ rw (get_or-take n bytes i 0 lt) (h i)
      | inr le ↦ rw (get_or_past (take n bytes) i 0 (omega (arith, length-take n bytes))) (omega arith)
    ]

-- a step that gave a value
pub bind_some : {A B : Type 0} (o : Option A) (f : A → Option B) (y : B) → (o and_then f) ≡ Some y → (x : A) × (o ≡ Some x) × (f x ≡ Some y)
bind_some None f y e = absurd cc
bind_some (Some x) f y e = (x, refl, e)

abbrev some : {A : Type 0} → A → Option A
some x = Some x

pub some_is : {A : Type 0} (x y : A) → some x ≡ some y → x ≡ y
some_is x y e = cc

-- a test that let a value pass, or did not stop it
pub unless_some : {A : Type 0} (b : Bool) (o : Option A) (y : A) → cond b None o ≡ Some y → (b ≡ false) × (o ≡ Some y)
unless_some true o y e = absurd cc
unless_some false o y e = (refl, e)

pub when_some : {A : Type 0} (b : Bool) (o : Option A) (y : A) → cond b o None ≡ Some y → (b ≡ true) × (o ≡ Some y)
when_some true o y e = (refl, e)
when_some false o y e = absurd cc

-- ---- offsets

pub offset_again : (n : ℕ) → n < 2 ^ 32 → offset_of (offset_bytes n) ≡ n
unfolding offset_of offset_bytes
offset_again n lt = from_le_bytes-to_le_bytes_4 n lt

pub offset_back : (bytes : List ℕ) → length bytes ≡ 4 → IsBytes bytes → offset_bytes (offset_of bytes) ≡ bytes
unfolding offset_of offset_bytes
offset_back bytes len fits = le_bytes_4 bytes _ len fits refl

pub offset_below : (bytes : List ℕ) → IsBytes bytes → offset_of bytes < 2 ^ 32
unfolding offset_of
offset_below bytes fits = omega (arith, fits 0, fits 1, fits 2, fits 3)

pub offset_len : (n : ℕ) → length (offset_bytes n) ≡ 4
unfolding offset_bytes
offset_len n = refl

-- ---- what is cut was joined so

pub record IsCut (fs : List Field) (head whole : List ℕ) (c : Cuts) : Type 0 where
  pub fit : FitFields fs c.parts
  pub front : take (fixed_length fs) head ≡ fixed_parts fs c.parts c.start
  pub back : drop c.start whole ≡ variable_parts fs c.parts
  pub start : c.start ≤ length whole
  pub offsets : OffsetsFit fs c.parts c.start
  pub bytes : AllByRecursion IsBytes c.parts

abbrev cuts : List (List ℕ) → ℕ → Cuts
cuts parts start = record { parts = parts; start = start }

cut_none : (head whole : List ℕ) → IsCut [] head whole (cuts [] (length whole))
unfolding fixed_parts variable_parts OffsetsFit
cut_none head whole = record { fit = tt; front = refl; back = drop_all (length whole) whole (omega arith); start = omega arith; offsets = tt; bytes = tt }

cut_fixed : (n : ℕ) (fs : List Field) (head whole : List ℕ) (next : Cuts) → IsBytes head → n + fixed_length fs ≤ length head → IsCut fs (drop n head) whole next
    → IsCut (Fixed n ∷ fs) head whole (cuts (take n head ∷ next.parts) next.start)
unfolding fixed_parts variable_parts OffsetsFit
cut_fixed n fs head whole next fits long h = record {
  fit = (length-take-le n head (omega arith), h.fit);
  front = take-add n (fixed_length fs) head ∙ ap (λ (l : List ℕ). take n head ++ l) h.front;
  back = h.back;
  start = h.start;
  offsets = h.offsets;
  bytes = (IsBytes-take n head fits, h.bytes);
}

cut_offset : (fs : List Field) (head whole : List ℕ) (next : Cuts) → IsBytes head → IsBytes whole → 4 + fixed_length fs ≤ length head → IsCut fs (drop 4 head) whole next
    → offset_of (take 4 head) ≤ next.start
    → IsCut (Variable ∷ fs) head whole (cuts (take (next.start - offset_of (take 4 head)) (drop (offset_of (take 4 head)) whole) ∷ next.parts) (offset_of (take 4 head)))
unfolding fixed_parts variable_parts OffsetsFit
cut_offset fs head whole next fits fits_whole long h le =
    let o = offset_of (take 4 head) in
    let k = next.start - o in
    let part = take k (drop o whole) in
    let start-le : next.start ≤ length whole = h.start in
    let part-len : length part ≡ k = length-take-le k (drop o whole) (omega (arith, length-drop o whole)) in
    let end-is : o + length part ≡ next.start = omega arith in
    let bytes-is : take 4 head ≡ offset_bytes o = sym (offset_back (take 4 head) (length-take-le 4 head (omega arith)) (IsBytes-take 4 head fits)) in
    let rest-is : drop k (drop o whole) ≡ drop next.start whole = drop-drop k o whole ∙ ap (λ n. drop n whole) (omega arith) in
    record {
      fit = (tt, h.fit);
      front = take-add 4 (fixed_length fs) head ∙ ap (λ (l : List ℕ). take 4 head ++ l) (h.front ∙ ap (fixed_parts fs next.parts) (sym end-is)) ∙ ap (λ (l : List ℕ). l ++ fixed_parts fs next.parts (o + length part)) bytes-is;
      back = sym (take-append-drop k (drop o whole)) ∙ ap (λ (l : List ℕ). part ++ l) (rest-is ∙ h.back);
      start = omega arith;
      offsets = (offset_below (take 4 head) (IsBytes-take 4 head fits), subst (λ n. OffsetsFit fs next.parts n) (sym end-is) h.offsets);
      bytes = (IsBytes-take k (drop o whole) (IsBytes-drop o whole fits_whole), h.bytes);
    }

cut_from_is : (fs : List Field) (head whole : List ℕ) (c : Cuts) → IsBytes head → IsBytes whole → fixed_length fs ≤ length head → cut_from fs head whole ≡ Some c → IsCut fs head whole c
unfolding cut_from
cut_from_is [] head whole c fits fits_whole long e = subst (λ d. IsCut [] head whole d) (some_is (cuts [] (length whole)) c e) (cut_none head whole)
cut_from_is (Fixed n ∷ fs) head whole c fits fits_whole long e =
    let b = bind_some (cut_from fs (drop n head) whole) (λ next. Some (cuts (take n head ∷ next.parts) next.start)) c e in
    let h = cut_from_is fs (drop n head) whole b.0 (IsBytes-drop n head fits) fits_whole (omega (arith, length-drop n head)) b.1 in
    subst (λ d. IsCut (Fixed n ∷ fs) head whole d) (some_is _ c b.2) (cut_fixed n fs head whole b.0 fits long h)
cut_from_is (Variable ∷ fs) head whole c fits fits_whole long e =
    let o = offset_of (take 4 head) in
    let b = bind_some (cut_from fs (drop 4 head) whole) (λ next. cut_variable o whole next) c e in
    let h = cut_from_is fs (drop 4 head) whole b.0 (IsBytes-drop 4 head fits) fits_whole (omega (arith, length-drop 4 head)) b.1 in
    let g = unless_some (nat_lt b.0.start o) (Some (cuts (take (b.0.start - o) (drop o whole) ∷ b.0.parts) o)) c b.2 in
    subst (λ d. IsCut (Variable ∷ fs) head whole d) (some_is _ c g.1) (cut_offset fs head whole b.0 fits fits_whole long h (ltb-false _ _ g.0))

-- the parts that were cut
pub record AreParts (fs : List Field) (bytes : List ℕ) (parts : List (List ℕ)) : Type 0 where
  pub fit : FitFields fs parts
  pub whole : bytes ≡ joined fs parts
  pub offsets : OffsetsFit fs parts (fixed_length fs)
  pub each : AllByRecursion IsBytes parts

pub cut_is_joined : (fs : List Field) (bytes : List ℕ) (parts : List (List ℕ)) → IsBytes bytes → cut fs bytes ≡ Some parts → AreParts fs bytes parts
unfolding cut joined
cut_is_joined fs bytes parts fits e =
    let g = unless_some (nat_lt (length bytes) (fixed_length fs)) (cut_from fs bytes bytes and_then λ all. cond (all.start == fixed_length fs) (Some all.parts) None) parts e in
    let b = bind_some (cut_from fs bytes bytes) (λ all. cond (all.start == fixed_length fs) (Some all.parts) None) parts g.1 in
    let w = when_some (b.0.start == fixed_length fs) (Some b.0.parts) parts b.2 in
    let h = cut_from_is fs bytes bytes b.0 fits fits (ltb-false _ _ g.0) b.1 in
    let start-is : b.0.start ≡ fixed_length fs = eqb-true _ _ w.0 in
    let parts-is : b.0.parts ≡ parts = some_is _ _ w.1 in
    subst (λ ps. AreParts fs bytes ps) parts-is (record {
      fit = h.fit;
      whole = sym (take-append-drop (fixed_length fs) bytes) ∙ ap (λ (l : List ℕ). l ++ drop (fixed_length fs) bytes) (h.front ∙ ap (fixed_parts fs b.0.parts) start-is) ∙ ap (λ (l : List ℕ). fixed_parts fs b.0.parts (fixed_length fs) ++ l) (ap (λ n. drop n bytes) (sym start-is) ∙ h.back);
      offsets = subst (λ n. OffsetsFit fs b.0.parts n) start-is h.offsets;
      each = h.bytes;
    })

-- ---- what was joined is cut again

pub fixed_parts_is_long : (fs : List Field) (parts : List (List ℕ)) (s : ℕ) → FitFields fs parts → length (fixed_parts fs parts s) ≡ fixed_length fs
unfolding fixed_parts
fixed_parts_is_long [] [] s fit = refl
fixed_parts_is_long [] (p ∷ parts) s fit = elim fit [ ]
fixed_parts_is_long (f ∷ fs) [] s fit = elim fit [ ]
fixed_parts_is_long (Fixed n ∷ fs) (p ∷ parts) s fit = omega (arith, length-append p (fixed_parts fs parts s), fixed_parts_is_long fs parts s fit.1, fit.0)
fixed_parts_is_long (Variable ∷ fs) (p ∷ parts) s fit = omega (arith, length-append (offset_bytes s) (fixed_parts fs parts (s + length p)), fixed_parts_is_long fs parts (s + length p) fit.1, offset_len s)

cut_from_again : (fs : List Field) (parts : List (List ℕ)) (head whole front more : List ℕ) (s : ℕ) → FitFields fs parts → OffsetsFit fs parts s
    → head ≡ fixed_parts fs parts s ++ more → length front ≡ s → whole ≡ front ++ variable_parts fs parts → cut_from fs head whole ≡ Some (cuts parts s)
unfolding cut_from fixed_parts variable_parts OffsetsFit
cut_from_again [] [] head whole front more s fit offsets head-is len whole-is =
    ap (λ n. Some (cuts [] n)) (ap length (whole-is ∙ append-nil front) ∙ len)
cut_from_again [] (p ∷ parts) head whole front more s fit offsets head-is len whole-is = elim fit [ ]
cut_from_again (f ∷ fs) [] head whole front more s fit offsets head-is len whole-is = elim fit [ ]
cut_from_again (Fixed n ∷ fs) (p ∷ parts) head whole front more s fit offsets head-is len whole-is =
    let grouped : head ≡ p ++ (fixed_parts fs parts s ++ more) = head-is ∙ append_assoc p (fixed_parts fs parts s) more in
    let front-is : take n head ≡ p = ap (take n) grouped ∙ take_at p (fixed_parts fs parts s ++ more) n fit.0 in
    let rest-is : drop n head ≡ fixed_parts fs parts s ++ more = ap (drop n) grouped ∙ drop_at p (fixed_parts fs parts s ++ more) n fit.0 in
    let h = cut_from_again fs parts (drop n head) whole front more s fit.1 offsets rest-is len whole-is in
    ap (λ (o : Option Cuts). o and_then λ next. Some (cuts (take n head ∷ next.parts) next.start)) h ∙ ap (λ (q : List ℕ). Some (cuts (q ∷ parts) s)) front-is
cut_from_again (Variable ∷ fs) (p ∷ parts) head whole front more s fit offsets head-is len whole-is =
    let end = s + length p in
    let grouped : head ≡ offset_bytes s ++ (fixed_parts fs parts end ++ more) = head-is ∙ append_assoc (offset_bytes s) (fixed_parts fs parts end) more in
    let front-is : take 4 head ≡ offset_bytes s = ap (take 4) grouped ∙ take_at (offset_bytes s) (fixed_parts fs parts end ++ more) 4 (offset_len s) in
    let rest-is : drop 4 head ≡ fixed_parts fs parts end ++ more = ap (drop 4) grouped ∙ drop_at (offset_bytes s) (fixed_parts fs parts end ++ more) 4 (offset_len s) in
    let o-is : offset_of (take 4 head) ≡ s = ap offset_of front-is ∙ offset_again s offsets.0 in
    let whole-too : whole ≡ (front ++ p) ++ variable_parts fs parts = whole-is ∙ sym (append_assoc front p (variable_parts fs parts)) in
    let h = cut_from_again fs parts (drop 4 head) whole (front ++ p) more end fit.1 offsets.1 rest-is (omega (arith, length-append front p)) whole-too in
    let test : nat_lt end s ≡ false = le-ltb end s (omega arith) in
    let part-is : take (end - s) (drop s whole) ≡ p = ap (λ n. take n (drop s whole)) (omega arith) ∙ ap (take (length p)) (ap (drop s) whole-is ∙ drop_at front (p ++ variable_parts fs parts) s len) ∙ take_at p (variable_parts fs parts) (length p) refl in
    ap (λ (o : Option Cuts). o and_then λ next. cut_variable (offset_of (take 4 head)) whole next) h
    ∙ ap (λ o. cut_variable o whole (cuts parts end)) o-is
    ∙ ap (λ b. cond b None (Some (cuts (take (end - s) (drop s whole) ∷ parts) s))) test
    ∙ ap (λ (q : List ℕ). Some (cuts (q ∷ parts) s)) part-is

pub joined_is_cut : (fs : List Field) (parts : List (List ℕ)) → FitFields fs parts → OffsetsFit fs parts (fixed_length fs) → cut fs (joined fs parts) ≡ Some parts
unfolding cut joined
joined_is_cut fs parts fit offsets =
    let n = fixed_length fs in
    let bytes = fixed_parts fs parts n ++ variable_parts fs parts in
    let long = fixed_parts_is_long fs parts n fit in
    let test : nat_lt (length bytes) n ≡ false = le-ltb _ _ (omega (arith, length-append (fixed_parts fs parts n) (variable_parts fs parts))) in
    let h = cut_from_again fs parts bytes bytes (fixed_parts fs parts n) (variable_parts fs parts) n fit offsets refl long refl in
    ap (λ b. cond b None (cut_from fs bytes bytes and_then λ all. cond (all.start == n) (Some all.parts) None)) test
    ∙ ap (λ (o : Option Cuts). o and_then λ all. cond (all.start == n) (Some all.parts) None) h
    ∙ ap (λ b. cond b (Some parts) None) (eq-eqb n n refl)

-- ---- what is joined of bytes is bytes

offset_fits : (n : ℕ) → IsBytes (offset_bytes n)
unfolding offset_bytes
offset_fits n zero = omega arith
offset_fits n (suc zero) = omega arith
offset_fits n (suc (suc zero)) = omega arith
offset_fits n (suc (suc (suc zero))) = omega arith
offset_fits n (suc (suc (suc (suc i)))) = omega arith

fixed_fits : (fs : List Field) (parts : List (List ℕ)) (s : ℕ) → AllByRecursion IsBytes parts → IsBytes (fixed_parts fs parts s)
unfolding fixed_parts
fixed_fits [] parts s each = IsBytes-nil
fixed_fits (f ∷ fs) [] s each = IsBytes-nil
fixed_fits (Fixed n ∷ fs) (p ∷ parts) s each = IsBytes-append p (fixed_parts fs parts s) each.0 (fixed_fits fs parts s each.1)
fixed_fits (Variable ∷ fs) (p ∷ parts) s each = IsBytes-append (offset_bytes s) (fixed_parts fs parts (s + length p)) (offset_fits s) (fixed_fits fs parts (s + length p) each.1)

variable_fits : (fs : List Field) (parts : List (List ℕ)) → AllByRecursion IsBytes parts → IsBytes (variable_parts fs parts)
unfolding variable_parts
variable_fits [] parts each = IsBytes-nil
variable_fits (f ∷ fs) [] each = IsBytes-nil
variable_fits (Fixed n ∷ fs) (p ∷ parts) each = variable_fits fs parts each.1
variable_fits (Variable ∷ fs) (p ∷ parts) each = IsBytes-append p (variable_parts fs parts) each.0 (variable_fits fs parts each.1)

pub joined_fits : (fs : List Field) (parts : List (List ℕ)) → AllByRecursion IsBytes parts → IsBytes (joined fs parts)
unfolding joined
joined_fits fs parts each =
    IsBytes-append (fixed_parts fs parts (fixed_length fs)) (variable_parts fs parts) (fixed_fits fs parts (fixed_length fs) each) (variable_fits fs parts each)
