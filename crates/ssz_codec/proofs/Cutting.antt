-- The loops of cutting, which go from the last field to the first.
use Rattle.std.proofs.Common.{◌≡◌, ℕ, zero, suc, ◌+◌, ◌-◌, ◌<◌, ◌≤◌, Bool, true, false, cond, List, [], ◌∷◌, length, get_or, take, drop, map, Option, Some, None, refl, sym, ap, subst, ◌∙◌, arith}
use Rattle.std.specs.Prelude.{nat_lt, ◌==◌}
use Rattle.std.proofs.lemmas.Bool.{lt-ltb, le-ltb, eq-eqb, ne_eqb}
use Rattle.std.proofs.lemmas.List.{drop_more, drop-drop, drop_all}
use Rattle.std.proofs.lemmas.Grind.{drop-set_at}
use Rattle.std.proofs.Math.ListN.{set}
use Rattle.ssz_codec.specs.declared.layout.Field.{Field}
use Rattle.ssz_codec.specs.declared.layout.Field.TheVariants.{Fixed, Variable}
use Rattle.ssz_codec.specs.Layout.{◌and_then◌, offset_of, field_length, fixed_length, Cuts, cut_variable, cut_from, cut}

abbrev pub cuts : List (List ℕ) → ℕ → Cuts
cuts parts start = record { parts = parts; start = start }

pub heads_from : (fs : List Field) (i : ℕ) (d : Field) → i < length fs → fixed_length (drop i fs) ≡ field_length (get_or fs i d) + fixed_length (drop (i + 1) fs)
heads_from fs i d lt = ap fixed_length (drop_more fs i d lt)

pub heads_le : (fs : List Field) (i : ℕ) → fixed_length (drop i fs) ≤ fixed_length fs
heads_le fs zero = omega arith
heads_le [] (suc i) = omega arith
heads_le (f ∷ fs) (suc i) = omega (arith, heads_le fs i)

pub cut_fixed : (fs : List Field) (i n : ℕ) (at next end : ℕ) (bytes : List ℕ) (ps : List (List ℕ)) → i < length fs → get_or fs i (Fixed 0) ≡ Fixed n → at + n ≡ next
    → cut_from (drop (i + 1) fs) (drop next bytes) bytes ≡ Some (cuts ps end)
    → cut_from (drop i fs) (drop at bytes) bytes ≡ Some (cuts (take n (drop at bytes) ∷ ps) end)
unfolding cut_from
cut_fixed fs i n at next end bytes ps lt is next-is h =
    let fields-are : drop i fs ≡ Fixed n ∷ drop (i + 1) fs = drop_more fs i (Fixed 0) lt ∙ ap (λ f. f ∷ drop (i + 1) fs) is in
    let rest-is : drop n (drop at bytes) ≡ drop next bytes = drop-drop n at bytes ∙ ap (λ k. drop k bytes) next-is in
    ap (λ gs. cut_from gs (drop at bytes) bytes) fields-are
    ∙ ap (λ (l : List ℕ). cut_from (drop (i + 1) fs) l bytes and_then λ c. Some (cuts (take n (drop at bytes) ∷ c.parts) c.start)) rest-is
    ∙ ap (λ (o : Option Cuts). o and_then λ c. Some (cuts (take n (drop at bytes) ∷ c.parts) c.start)) h

-- what a variable field makes of the fields behind it
offset_step : (fs : List Field) (i : ℕ) (at next end : ℕ) (bytes : List ℕ) (ps : List (List ℕ)) → i < length fs → get_or fs i (Fixed 0) ≡ Variable → at + 4 ≡ next
    → cut_from (drop (i + 1) fs) (drop next bytes) bytes ≡ Some (cuts ps end)
    → cut_from (drop i fs) (drop at bytes) bytes ≡ cut_variable (offset_of (take 4 (drop at bytes))) bytes (cuts ps end)
unfolding cut_from
offset_step fs i at next end bytes ps lt is next-is h =
    let fields-are : drop i fs ≡ Variable ∷ drop (i + 1) fs = drop_more fs i (Fixed 0) lt ∙ ap (λ f. f ∷ drop (i + 1) fs) is in
    let rest-is : drop 4 (drop at bytes) ≡ drop next bytes = drop-drop 4 at bytes ∙ ap (λ k. drop k bytes) next-is in
    ap (λ gs. cut_from gs (drop at bytes) bytes) fields-are
    ∙ ap (λ (l : List ℕ). cut_from (drop (i + 1) fs) l bytes and_then λ c. cut_variable (offset_of (take 4 (drop at bytes))) bytes c) rest-is
    ∙ ap (λ (o : Option Cuts). o and_then λ c. cut_variable (offset_of (take 4 (drop at bytes))) bytes c) h

pub cut_offset : (fs : List Field) (i : ℕ) (at next start end : ℕ) (bytes : List ℕ) (ps : List (List ℕ)) → i < length fs → get_or fs i (Fixed 0) ≡ Variable → at + 4 ≡ next
    → start ≡ offset_of (take 4 (drop at bytes)) → start ≤ end
    → cut_from (drop (i + 1) fs) (drop next bytes) bytes ≡ Some (cuts ps end)
    → cut_from (drop i fs) (drop at bytes) bytes ≡ Some (cuts (take (end - start) (drop start bytes) ∷ ps) start)
cut_offset fs i at next start end bytes ps lt is next-is start-is le h =
    offset_step fs i at next end bytes ps lt is next-is h
    ∙ ap (λ o. cut_variable o bytes (cuts ps end)) (sym start-is)
    ∙ ap (λ b. cond b None (Some (cuts (take (end - start) (drop start bytes) ∷ ps) start))) (le-ltb end start le)

-- nothing is cut where the fields from one on can't be
none_before : (fs : List Field) (k skip : ℕ) (head whole : List ℕ) → skip + fixed_length (drop k fs) ≡ fixed_length fs → cut_from (drop k fs) (drop skip head) whole ≡ None → cut_from fs head whole ≡ None
unfolding cut_from
none_before fs zero skip head whole skip-is h = let e : skip ≡ 0 = omega arith in subst (λ n. cut_from fs (drop n head) whole ≡ None) e h
none_before [] (suc k) skip head whole skip-is h = let e : skip ≡ 0 = omega arith in subst (λ n. cut_from [] (drop n head) whole ≡ None) e h
none_before (Fixed n ∷ fs) (suc k) skip head whole skip-is h =
    let le = heads_le fs k in
    let rest : cut_from (drop k fs) (drop (skip - n) (drop n head)) whole ≡ None =
    ap (λ (l : List ℕ). cut_from (drop k fs) l whole) (drop-drop (skip - n) n head ∙ ap (λ m. drop m head) (omega arith)) ∙ h in
    ap (λ (o : Option Cuts). o and_then λ c. Some (cuts (take n head ∷ c.parts) c.start)) (none_before fs k (skip - n) (drop n head) whole (omega arith) rest)
none_before (Variable ∷ fs) (suc k) skip head whole skip-is h =
    let le = heads_le fs k in
    let rest : cut_from (drop k fs) (drop (skip - 4) (drop 4 head)) whole ≡ None =
    ap (λ (l : List ℕ). cut_from (drop k fs) l whole) (drop-drop (skip - 4) 4 head ∙ ap (λ m. drop m head) (omega arith)) ∙ h in
    ap (λ (o : Option Cuts). o and_then λ c. cut_variable (offset_of (take 4 head)) whole c) (none_before fs k (skip - 4) (drop 4 head) whole (omega arith) rest)

pub none_where : (fs : List Field) (bytes : List ℕ) (b : Bool) → cut_from fs bytes bytes ≡ None → cond b None (cut_from fs bytes bytes and_then λ all. cond (all.start == fixed_length fs) (Some all.parts) None) ≡ None
none_where fs bytes true h = refl
none_where fs bytes false h = ap (λ (o : Option Cuts). o and_then λ all. cond (all.start == fixed_length fs) (Some all.parts) None) h

pub cut_falls : (fs : List Field) (i : ℕ) (at next start end : ℕ) (bytes : List ℕ) (ps : List (List ℕ)) → i < length fs → get_or fs i (Fixed 0) ≡ Variable → at + 4 ≡ next
    → start ≡ offset_of (take 4 (drop at bytes)) → end < start → next + fixed_length (drop (i + 1) fs) ≡ fixed_length fs
    → cut_from (drop (i + 1) fs) (drop next bytes) bytes ≡ Some (cuts ps end)
    → cut fs bytes ≡ None
unfolding cut
cut_falls fs i at next start end bytes ps lt is next-is start-is falls at-is h =
    let here : cut_from (drop i fs) (drop at bytes) bytes ≡ None =
    offset_step fs i at next end bytes ps lt is next-is h
    ∙ ap (λ o. cut_variable o bytes (cuts ps end)) (sym start-is)
    ∙ ap (λ b. cond b None (Some (cuts (take (end - start) (drop start bytes) ∷ ps) start))) (lt-ltb end start falls) in
    let from = heads_from fs i (Fixed 0) lt in
    let four : field_length (get_or fs i (Fixed 0)) ≡ 4 = ap field_length is in
    let all = none_before fs i at bytes bytes (omega arith) here in
    none_where fs bytes (nat_lt (length bytes) (fixed_length fs)) all

pub cut_short : (fs : List Field) (bytes : List ℕ) → length bytes < fixed_length fs → cut fs bytes ≡ None
unfolding cut
cut_short fs bytes lt = ap (λ b. cond b None (cut_from fs bytes bytes and_then λ all. cond (all.start == fixed_length fs) (Some all.parts) None)) (lt-ltb _ _ lt)

cut_done : (fs : List Field) (bytes : List ℕ) (ps : List (List ℕ)) (end at : ℕ) → fixed_length fs ≤ length bytes → at ≡ 0 → cut_from fs (drop at bytes) bytes ≡ Some (cuts ps end)
    → cut fs bytes ≡ cond (end == fixed_length fs) (Some ps) None
unfolding cut
cut_done fs bytes ps end at le at-is h =
    let h0 : cut_from fs bytes bytes ≡ Some (cuts ps end) = subst (λ n. cut_from fs (drop n bytes) bytes ≡ Some (cuts ps end)) at-is h in
    ap (λ b. cond b None (cut_from fs bytes bytes and_then λ all. cond (all.start == fixed_length fs) (Some all.parts) None)) (le-ltb _ _ le)
    ∙ ap (λ (o : Option Cuts). o and_then λ all. cond (all.start == fixed_length fs) (Some all.parts) None) h0

pub cut_whole : (fs : List Field) (bytes : List ℕ) (ps : List (List ℕ)) (end at : ℕ) → fixed_length fs ≤ length bytes → at ≡ 0 → end ≡ fixed_length fs → cut_from fs (drop at bytes) bytes ≡ Some (cuts ps end) → cut fs bytes ≡ Some ps
cut_whole fs bytes ps end at le at-is end-is h = cut_done fs bytes ps end at le at-is h ∙ ap (λ b. cond b (Some ps) None) (eq-eqb _ _ end-is)

pub cut_gap : (fs : List Field) (bytes : List ℕ) (ps : List (List ℕ)) (end at : ℕ) → fixed_length fs ≤ length bytes → at ≡ 0 → (end ≡ fixed_length fs → ⊥) → cut_from fs (drop at bytes) bytes ≡ Some (cuts ps end) → cut fs bytes ≡ None
cut_gap fs bytes ps end at le at-is not h = cut_done fs bytes ps end at le at-is h ∙ ap (λ b. cond b (Some ps) None) (ne_eqb _ _ not)

-- the parts from i on, after the i-th was written
pub set_part : {A : Type 0} (f : A → List ℕ) (xs : List A) (i : ℕ) (x : A) → i < length xs → map f (drop i (set xs i x)) ≡ f x ∷ map f (drop (i + 1) xs)
set_part f xs i x lt = ap (map f) (drop-set_at xs i i x refl lt)

-- the invariant of the loop, said of one more field behind
pub behind : {A : Type 0} (f : A → List ℕ) (fs : List Field) (parts : List A) (i j next end : ℕ) (bytes : List ℕ) → i ≡ j + 1 → cut_from (drop i fs) (drop next bytes) bytes ≡ Some (cuts (map f (drop i parts)) end)
    → cut_from (drop (j + 1) fs) (drop next bytes) bytes ≡ Some (cuts (map f (drop (j + 1) parts)) end)
behind f fs parts i j next end bytes e h = subst (λ k. cut_from (drop k fs) (drop next bytes) bytes ≡ Some (cuts (map f (drop k parts)) end)) e h

pub heads_end : (fs : List Field) → fixed_length (drop (length fs) fs) ≡ 0
heads_end fs = ap fixed_length (drop_all (length fs) fs (omega arith))

pub heads_here : (fs : List Field) (i j : ℕ) (f : Field) → i ≤ length fs → i ≡ j + 1 → get_or fs j (Fixed 0) ≡ f → field_length f + fixed_length (drop i fs) ≡ fixed_length (drop j fs)
heads_here fs i j f le e is =
    ap (λ g. field_length g + fixed_length (drop i fs)) (sym is)
    ∙ ap (λ k. field_length (get_or fs j (Fixed 0)) + fixed_length (drop k fs)) e
    ∙ sym (heads_from fs j (Fixed 0) (omega arith))

pub cut_start : {A : Type 0} (f : A → List ℕ) (fs : List Field) (parts : List A) (bytes : List ℕ) (at : ℕ) → length parts ≡ length fs
    → cut_from (drop (length fs) fs) (drop at bytes) bytes ≡ Some (cuts (map f (drop (length fs) parts)) (length bytes))
unfolding cut_from
cut_start f fs parts bytes at e =
    ap (λ gs. cut_from gs (drop at bytes) bytes) (drop_all (length fs) fs (omega arith))
    ∙ ap (λ ps. Some (cuts (map f ps) (length bytes))) (sym (drop_all (length fs) parts (omega arith)))
