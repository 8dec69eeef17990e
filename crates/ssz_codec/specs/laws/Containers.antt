-- Containers keep the law of codecs, given that their fields do. Proofs, not definitions.
use Rattle.std.proofs.Common.{◌≡◌, ℕ, ◌+◌, List, [], ◌∷◌, length, Option, Some, refl, sym, ap, subst, ◌∙◌, arith}
use Rattle.std.specs.List.{AllByRecursion}
use Rattle.std.proofs.lemmas.List.{length-append}
use Rattle.ssz_codec.specs.declared.layout.Field.{Field}
use Rattle.ssz_codec.specs.declared.layout.Field.TheVariants.{Fixed, Variable}
use Rattle.ssz_codec.specs.Layout.{◌and_then◌, fixed_length, fixed_parts, variable_parts, joined, OffsetsFit, cut}
use Rattle.ssz_codec.specs.Codec.{Codec}
use Rattle.ssz_codec.specs.Containers.{pair, Fields, fields_of, deserialize_next, ◌▹◌∶◌, ◌▹◌≔◌, and_fixed, field_of, all_read, container_of}
use Rattle.ssz_codec.specs.Lawful.{IsBytes, HasSize, FitFields, IsLawful}
use Rattle.ssz_codec.specs.laws.Layout.{bind_some, some_is, cut_is_joined, joined_is_cut, fixed_parts_is_long, joined_fits}

-- what the fields took from the front of some parts, and what the rest was given
pub record Taken {S B : Type 0} (q : Fields S B) (next : B → List (List ℕ) → Option S) (parts : List (List ℕ)) (s : S) : Type 0 where
  pub value : q.Values
  pub rest : List (List ℕ)
  pub within : q.Within value
  pub whole : parts ≡ q.parts value rest
  pub each : AllByRecursion IsBytes rest
  pub after : next (q.make value) rest ≡ Some s

pub record AreLawful {S B : Type 0} (q : Fields S B) : Type 0 where
  pub sound : (next : B → List (List ℕ) → Option S) (parts : List (List ℕ)) (s : S) → AllByRecursion IsBytes parts → q.deserialize next parts ≡ Some s → Taken q next parts s
  pub complete : (next : B → List (List ℕ) → Option S) (a : q.Values) (rest : List (List ℕ)) → q.Within a → q.deserialize next (q.parts a rest) ≡ next (q.make a) rest
  pub sizes : (a : q.Values) (fs : List Field) (rest : List (List ℕ)) → q.Within a → FitFields fs rest → FitFields (q.layout fs) (q.parts a rest)
  pub bytes : (a : q.Values) (rest : List (List ℕ)) → q.Within a → AllByRecursion IsBytes rest → AllByRecursion IsBytes (q.parts a rest)

pub start : {S B : Type 0} {make : B} → AreLawful (fields_of {S = S} make)
start = record {
  sound = λ next parts s each e. record { value = tt; rest = parts; within = tt; whole = refl; each = each; after = e };
  complete = λ next a rest within. refl;
  sizes = λ a fs rest within fit. fit;
  bytes = λ a rest within each. each;
}

next_taken : {S A B : Type 0} (q : Fields S (A → B)) (get : S → A) (c : Codec A) → IsLawful c → (next : B → List (List ℕ) → Option S) (parts : List (List ℕ)) (s : S)
    (a : q.Values) (rest : List (List ℕ)) → q.Within a → parts ≡ q.parts a rest → AllByRecursion IsBytes rest → deserialize_next c (λ x. next (q.make a x)) rest ≡ Some s
    → Taken (q ▹ get ∶ c) next parts s
next_taken q get c law next parts s a [] within whole each e = absurd cc
next_taken q get c law next parts s a (p ∷ rest) within whole each e =
    let b = bind_some (c.deserialize p) (λ x. next (q.make a x) rest) s e in
    let h = law.sound p b.0 each.0 b.1 in
    record {
      value = pair a b.0;
      rest = rest;
      within = (within, h.0);
      whole = whole ∙ ap (λ (l : List ℕ). q.parts a (l ∷ rest)) h.1;
      each = each.1;
      after = b.2;
    }

infixl 10 ◌▸◌
pub ◌▸◌ : {S A B : Type 0} {q : Fields S (A → B)} {get : S → A} {c : Codec A} → AreLawful q → IsLawful c → AreLawful (q ▹ get ∶ c)
◌▸◌ {A = A} {q = q} {get = get} {c = c} laws law = record {
  sound = λ next parts s each e.
      let t = laws.sound (λ f. deserialize_next c (λ x. next (f x))) parts s each e in
      next_taken q get c law next parts s t.value t.rest t.within t.whole t.each t.after;
  complete = λ next a rest within.
      laws.complete (λ f. deserialize_next c (λ x. next (f x))) a.first (c.serialize a.rest ∷ rest) within.0
      ∙ ap (λ (o : Option A). o and_then λ x. next (q.make a.first x) rest) (law.complete a.rest within.1);
  sizes = λ a fs rest within fit. laws.sizes a.first (c.field ∷ fs) (c.serialize a.rest ∷ rest) within.0 (law.size a.rest within.1, fit);
  bytes = λ a rest within each. laws.bytes a.first (c.serialize a.rest ∷ rest) within.0 (law.bytes a.rest within.1, each);
}

-- a field without a part
pub and_given : {S A B : Type 0} {q : Fields S (A → B)} {get : S → A} {x : A} → AreLawful q → AreLawful (q ▹ get ≔ x)
and_given {q = q} {x = x} laws = record {
  sound = λ next parts s each e.
      let t = laws.sound (λ f. next (f x)) parts s each e in
      record { value = pair t.value x; rest = t.rest; within = (t.within, refl); whole = t.whole; each = t.each; after = t.after };
  complete = λ next a rest within.
      laws.complete (λ f. next (f x)) a.first rest within.0 ∙ ap (λ y. next (q.make a.first y) rest) (sym within.1);
  sizes = λ a fs rest within fit. laws.sizes a.first fs rest within.0 fit;
  bytes = λ a rest within each. laws.bytes a.first rest within.0 each;
}

-- ---- the container

abbrev AllFixed : Field → List Field → List (List ℕ) → Type 0
AllFixed (Fixed n) fs parts = (variable_parts fs parts ≡ []) × (fixed_length fs ≡ n)
AllFixed Variable fs parts = Unit {0}

fixed_more : (n : ℕ) (f : Field) (fs : List Field) (p : List ℕ) (parts : List (List ℕ)) → AllFixed f fs parts → AllFixed (and_fixed n f) (Fixed n ∷ fs) (p ∷ parts)
unfolding variable_parts
fixed_more n (Fixed m) fs p parts h = (h.0, ap (λ k. n + k) h.1)
fixed_more n Variable fs p parts h = tt

are_fixed : (fs : List Field) (parts : List (List ℕ)) → FitFields fs parts → AllFixed (field_of fs) fs parts
unfolding variable_parts
are_fixed [] [] fit = (refl, refl)
are_fixed [] (p ∷ parts) fit = elim fit [ ]
are_fixed (f ∷ fs) [] fit = elim fit [ ]
are_fixed (Fixed n ∷ fs) (p ∷ parts) fit = fixed_more n (field_of fs) fs p parts (are_fixed fs parts fit.1)
are_fixed (Variable ∷ fs) (p ∷ parts) fit = tt

size_from : (f : Field) (fs : List Field) (parts : List (List ℕ)) → FitFields fs parts → AllFixed f fs parts → HasSize f (joined fs parts)
unfolding joined
size_from (Fixed n) fs parts fit h =
    omega (arith, length-append (fixed_parts fs parts (fixed_length fs)) (variable_parts fs parts), fixed_parts_is_long fs parts (fixed_length fs) fit, ap length h.0, h.1)
size_from Variable fs parts fit h = tt

pub parts_size : (fs : List Field) (parts : List (List ℕ)) → FitFields fs parts → HasSize (field_of fs) (joined fs parts)
parts_size fs parts fit = size_from (field_of fs) fs parts fit (are_fixed fs parts fit)

nothing_left : {S : Type 0} (made s : S) (rest : List (List ℕ)) → all_read made rest ≡ Some s → (rest ≡ []) × (made ≡ s)
nothing_left made s [] e = (refl, some_is _ _ e)
nothing_left made s (p ∷ rest) e = absurd cc

-- given that the constructor and the getters agree
pub container_of_lawful : {S : Type 0} (q : Fields S S) → ((s : S) → q.make (q.values s) ≡ s) → ((a : q.Values) → q.values (q.make a) ≡ a) → AreLawful q → IsLawful (container_of q)
container_of_lawful {S = S} q there back laws =
    let fs = q.layout [] in
    record {
      sound = λ bytes s fits e.
          let b = bind_some (cut fs bytes) (λ parts. q.deserialize all_read parts) s e in
          let h = cut_is_joined fs bytes b.0 fits b.1 in
          let t = laws.sound all_read b.0 s h.each b.2 in
          let n = nothing_left (q.make t.value) s t.rest t.after in
          let parts-are : b.0 ≡ q.parts t.value [] = t.whole ∙ ap (q.parts t.value) n.0 in
          let values-are : t.value ≡ q.values s = sym (back t.value) ∙ ap q.values n.1 in
          let P : q.Values → Type 0 = λ a. (q.Within a × OffsetsFit fs (q.parts a []) (fixed_length fs)) × (bytes ≡ joined fs (q.parts a [])) in
          subst P values-are ((t.within, subst (λ parts. OffsetsFit fs parts (fixed_length fs)) parts-are h.offsets), h.whole ∙ ap (joined fs) parts-are);
      complete = λ s within.
          ap (λ (o : Option (List (List ℕ))). o and_then λ parts. q.deserialize all_read parts) (joined_is_cut fs (q.parts (q.values s) []) (laws.sizes (q.values s) [] [] within.0 tt) within.1)
          ∙ laws.complete all_read (q.values s) [] within.0
          ∙ ap (λ (o : S). Some o) (there s);
      size = λ s within. parts_size fs (q.parts (q.values s) []) (laws.sizes (q.values s) [] [] within.0 tt);
      bytes = λ s within. joined_fits fs (q.parts (q.values s) []) (laws.bytes (q.values s) [] within.0 tt);
    }
