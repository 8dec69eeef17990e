-- Places and items that are taken apart and put together again.
use Rattle.std.proofs.Common.{◌≡◌, ℕ, List, [], ◌∷◌, ◌++◌, length, refl, sym, ap, ap₂, ◌∙◌, arith}
use Rattle.std.specs.Prelude.{zip}
use Rattle.std.proofs.lemmas.List.{append-nil, append_assoc}

module _ {A : Type 0} where
  pub length_zip : (places : List ℕ) (items : List A) → length places ≡ length items → length (zip places items) ≡ length items
  length_zip [] [] same = refl
  length_zip [] (x ∷ xs) same = absurd (omega arith)
  length_zip (p ∷ ps) [] same = absurd (omega arith)
  length_zip (p ∷ ps) (x ∷ xs) same = omega (arith, length_zip ps xs (omega arith))

  zip_push : (places : List ℕ) (items : List A) (at : ℕ) (item : A) → length places ≡ length items → zip (places ++ at ∷ []) (items ++ item ∷ []) ≡ zip places items ++ (at, item) ∷ []
  zip_push [] [] at item same = refl
  zip_push [] (x ∷ xs) at item same = absurd (omega arith)
  zip_push (p ∷ ps) [] at item same = absurd (omega arith)
  zip_push (p ∷ ps) (x ∷ xs) at item same = ap (λ (r : List (ℕ × A)). (p, x) ∷ r) (zip_push ps xs at item (omega arith))

  -- one change more is taken apart
  pub split_more : (places places_now : List ℕ) (items items_now : List A) (at : ℕ) (item : A) (rest next all : List (ℕ × A)) → length places ≡ length items → rest ≡ (at, item) ∷ next → places_now ≡ places ++ at ∷ [] → items_now ≡ items ++ item ∷ [] → zip places items ++ rest ≡ all → zip places_now items_now ++ next ≡ all
  split_more places places_now items items_now at item rest next all same first place push made =
      ap₂ (λ (ps : List ℕ) (xs : List A). zip ps xs ++ next) place push
      ∙ (ap (λ (cs : List (ℕ × A)). cs ++ next) (zip_push places items at item same)
      ∙ (append_assoc (zip places items) ((at, item) ∷ []) next
      ∙ (ap (λ (cs : List (ℕ × A)). zip places items ++ cs) (sym first) ∙ made)))

  -- one leaf more is put at its place
  pub known_more : (front now : List (ℕ × A)) (at : ℕ) (item : A) (places places_next : List ℕ) (items items_next : List A) (all : List (ℕ × A)) → places ≡ at ∷ places_next → items ≡ item ∷ items_next → now ≡ front ++ (at, item) ∷ [] → front ++ zip places items ≡ all → now ++ zip places_next items_next ≡ all
  known_more front now at item places places_next items items_next all place first push made =
      ap (λ (cs : List (ℕ × A)). cs ++ zip places_next items_next) push
      ∙ (append_assoc front ((at, item) ∷ []) (zip places_next items_next)
      ∙ (ap₂ (λ (ps : List ℕ) (xs : List A). front ++ zip ps xs) (sym place) (sym first) ∙ made))

  pub known_all : (front : List (ℕ × A)) (places : List ℕ) (items : List A) (all : List (ℕ × A)) → length items ≡ 0 → front ++ zip places items ≡ all → front ≡ all
  known_all front [] items all none made = sym (append-nil front) ∙ made
  known_all front (p ∷ ps) [] all none made = sym (append-nil front) ∙ made
  known_all front (p ∷ ps) (x ∷ xs) all none made = absurd (omega arith)

  -- a batch of changes
  pub changes_more : (front now batch rest next all : List (ℕ × A)) → batch ++ next ≡ rest → now ≡ front ++ batch → front ++ rest ≡ all → now ++ next ≡ all
  changes_more front now batch rest next all taken added made =
      ap (λ (cs : List (ℕ × A)). cs ++ next) added ∙ (append_assoc front batch next ∙ (ap (λ (cs : List (ℕ × A)). front ++ cs) taken ∙ made))

  pub changes_all : (front rest all : List (ℕ × A)) → length rest ≡ 0 → front ++ rest ≡ all → front ≡ all
  changes_all front [] all none made = sym (append-nil front) ∙ made
  changes_all front (c ∷ cs) all none made = absurd (omega arith)
