-- Kept blocks by their numbers.
use Rattle.std.proofs.Common.{◌≡◌, ℕ, zero, suc, ◌+◌, ◌<◌, inl, inr, Bool, true, false, cond, not, eqb, List, [], ◌∷◌, ◌++◌, length, take, Option, Some, None, is_some, slice_get, refl, sym, ap, subst, ◌∙◌, arith}
use Rattle.std.specs.Cmp.{unsigned_Decides}
use Rattle.std.specs.Cmp.Lexicographic.{pointwise_decides}
use Rattle.std.specs.Option.{option_map}
use Rattle.std.proofs.lemmas.Bool.{cases_eq, eq-eqb, ne_eqb, false_from_ne_true}
use Rattle.std.proofs.lemmas.Option.{same_Some, slice_get_within}
use Rattle.beacon_types.specs.Equality.{same_root}
use Rattle.spec_fork_choice.specs.Store.{KeptBlock, block_of, is_kept}
use Rattle.spec_fork_choice.specs.Clash.{place_of}
use Rattle.fork_store.specs.Arrays.{node_number}

-- ---- roots

pub same_is : (a b : List ℕ) → same_root a b ≡ true → a ≡ b
same_is a b h = (pointwise_decides unsigned_Decides a b).0 h

pub is_same : (a b : List ℕ) → a ≡ b → same_root a b ≡ true
is_same a b e = (pointwise_decides unsigned_Decides a b).1 e

-- ---- one block in front of others

opens_by : (b : Bool) (kept : KeptBlock) (o : Option KeptBlock) (p : ℕ)
    → cond (is_some (cond b (Some kept) o)) (Some (cond (not b) (1 + p) 0)) None ≡ cond b (Some 0) (option_map (λ n. 1 + n) (cond (is_some o) (Some p) None))
opens_by true kept o p = refl
opens_by false kept None p = refl
opens_by false kept (Some other) p = refl

number_opens : (kept : KeptBlock) (blocks : List KeptBlock) (root : List ℕ)
    → node_number (kept ∷ blocks) root ≡ cond (same_root kept.root root) (Some 0) (option_map (λ n. 1 + n) (node_number blocks root))
unfolding node_number is_kept block_of place_of
number_opens kept blocks root = opens_by (same_root kept.root root) kept (block_of blocks root) (place_of blocks root)

block_opens : (kept : KeptBlock) (blocks : List KeptBlock) (root : List ℕ)
    → block_of (kept ∷ blocks) root ≡ cond (same_root kept.root root) (Some kept) (block_of blocks root)
unfolding block_of
block_opens kept blocks root = refl

pub no_number : (root : List ℕ) → node_number [] root ≡ None
unfolding node_number is_kept block_of
no_number root = refl

no_block : (root : List ℕ) → block_of [] root ≡ None
unfolding block_of
no_block root = refl

-- ---- the block of a number

pub record IsAt (blocks : List KeptBlock) (root : List ℕ) (number : ℕ) : Type 0 where
  pub kept : KeptBlock
  pub at : slice_get blocks number ≡ Some kept
  pub named : kept.root ≡ root
  pub found : block_of blocks root ≡ Some kept

at_by : (k : KeptBlock) (blocks : List KeptBlock) (root : List ℕ) (n : ℕ) → ((m : ℕ) → node_number blocks root ≡ Some m → IsAt blocks root m) → (b : Bool)
    → same_root k.root root ≡ b → (o : Option ℕ) → node_number blocks root ≡ o
    → cond b (Some 0) (option_map (λ m. 1 + m) o) ≡ Some n → IsAt (k ∷ blocks) root n
at_by k blocks root n ih true e o oe h =
    let zero_is : 0 ≡ n = same_Some 0 n h in
    record {
      kept = k;
      at = subst (λ m. slice_get (k ∷ blocks) m ≡ Some k) zero_is refl;
      named = same_is k.root root e;
      found = block_opens k blocks root ∙ ap (λ t. cond t (Some k) (block_of blocks root)) e;
    }
at_by k blocks root n ih false e None oe h = absurd cc
at_by k blocks root n ih false e (Some m) oe h =
    let later = ih m oe in
    let one_more : 1 + m ≡ n = same_Some (1 + m) n h in
    let next : suc m ≡ n = omega arith in
    record {
      kept = later.kept;
      at = subst (λ j. slice_get (k ∷ blocks) j ≡ Some later.kept) next later.at;
      named = later.named;
      found = block_opens k blocks root ∙ ap (λ t. cond t (Some k) (block_of blocks root)) e ∙ later.found;
    }

pub at_number : (blocks : List KeptBlock) (root : List ℕ) (n : ℕ) → node_number blocks root ≡ Some n → IsAt blocks root n
at_number [] root n h = let e : None ≡ Some n = sym (no_number root) ∙ h in absurd cc
at_number (k ∷ blocks) root n h =
    at_by k blocks root n (λ m is. at_number blocks root m is) (same_root k.root root) refl (node_number blocks root) refl (sym (number_opens k blocks root) ∙ h)

pub number_inside : (blocks : List KeptBlock) (root : List ℕ) (n : ℕ) → node_number blocks root ≡ Some n → n < length blocks
number_inside blocks root n h = let here = at_number blocks root n h in slice_get_within blocks n here.kept here.at

pub some_numbered : (blocks : List KeptBlock) (root : List ℕ) (n : ℕ) → node_number blocks root ≡ Some n → 0 < length blocks
some_numbered blocks root n h = let inside = number_inside blocks root n h in omega (arith, inside)

-- ---- more blocks behind

more_by : (b : Bool) (o p : Option ℕ) (n : ℕ) → ((m : ℕ) → o ≡ Some m → p ≡ Some m) → cond b (Some 0) (option_map (λ m. 1 + m) o) ≡ Some n
    → cond b (Some 0) (option_map (λ m. 1 + m) p) ≡ Some n
more_by true o p n ih h = h
more_by false None p n ih h = absurd cc
more_by false (Some m) p n ih h = ap (option_map (λ j. 1 + j)) (ih m refl) ∙ h

pub number_more : (xs ys : List KeptBlock) (root : List ℕ) (n : ℕ) → node_number xs root ≡ Some n → node_number (xs ++ ys) root ≡ Some n
number_more [] ys root n h = let e : None ≡ Some n = sym (no_number root) ∙ h in absurd cc
number_more (k ∷ xs) ys root n h =
    number_opens k (xs ++ ys) root
    ∙ more_by (same_root k.root root) (node_number xs root) (node_number (xs ++ ys) root) n (λ m is. number_more xs ys root m is) (sym (number_opens k xs root) ∙ h)

block_more_by : (b : Bool) (k kept : KeptBlock) (o p : Option KeptBlock) → (o ≡ Some kept → p ≡ Some kept) → cond b (Some k) o ≡ Some kept
    → cond b (Some k) p ≡ Some kept
block_more_by true k kept o p ih h = h
block_more_by false k kept o p ih h = ih h

pub block_more : (xs ys : List KeptBlock) (root : List ℕ) (kept : KeptBlock) → block_of xs root ≡ Some kept → block_of (xs ++ ys) root ≡ Some kept
block_more [] ys root kept h = let e : None ≡ Some kept = sym (no_block root) ∙ h in absurd cc
block_more (k ∷ xs) ys root kept h =
    block_opens k (xs ++ ys) root
    ∙ block_more_by (same_root k.root root) k kept (block_of xs root) (block_of (xs ++ ys) root) (λ is. block_more xs ys root kept is)
    (sym (block_opens k xs root) ∙ h)

-- ---- a fresh block's number

pub number_found : (blocks : List KeptBlock) (root : List ℕ) (kept : KeptBlock) → block_of blocks root ≡ Some kept
    → node_number blocks root ≡ Some (place_of blocks root)
unfolding node_number is_kept
number_found blocks root kept h = ap (λ o. cond (is_some o) (Some (place_of blocks root)) None) h

none_by : (b : Bool) (k : KeptBlock) (o : Option KeptBlock) → is_some (cond b (Some k) o) ≡ false → (b ≡ false) × (is_some o ≡ false)
none_by true k o h = absurd cc
none_by false k o h = (refl, h)

pub none_opens : (k : KeptBlock) (blocks : List KeptBlock) (root : List ℕ) → is_kept (k ∷ blocks) root ≡ false
    → (same_root k.root root ≡ false) × (is_kept blocks root ≡ false)
unfolding is_kept block_of
none_opens k blocks root h = none_by (same_root k.root root) k (block_of blocks root) h

pub number_fresh : (blocks : List KeptBlock) (n : ℕ) (kept : KeptBlock) → slice_get blocks n ≡ Some kept → is_kept (take n blocks) kept.root ≡ false
    → node_number blocks kept.root ≡ Some n
number_fresh [] n kept h fresh = absurd cc
number_fresh (k ∷ blocks) zero kept h fresh =
    let same : k ≡ kept = cc in
    number_opens k blocks kept.root ∙ ap (λ b. cond b (Some 0) (option_map (λ m. 1 + m) (node_number blocks kept.root)))
    (is_same k.root kept.root (ap (λ (x : KeptBlock). x.root) same))
number_fresh (k ∷ blocks) (suc n) kept h fresh =
    let parts = none_opens k (take n blocks) kept.root fresh in
    let next : 1 + n ≡ suc n = omega arith in
    number_opens k blocks kept.root ∙ ap (λ b. cond b (Some 0) (option_map (λ m. 1 + m) (node_number blocks kept.root))) parts.0
    ∙ ap (option_map (λ m. 1 + m)) (number_fresh blocks n kept h parts.1)
    ∙ ap Some next

-- ---- two numbers

pub same_number : (blocks : List KeptBlock) (a b : List ℕ) (i j : ℕ) → node_number blocks a ≡ Some i → node_number blocks b ≡ Some j → same_root a b ≡ eqb i j
same_number blocks a b i j ha hb = elim (cases_eq i j) [
  | inl e ↦
      let one = at_number blocks a i ha in
      let two = at_number blocks b j hb in
      let same : one.kept ≡ two.kept = same_Some one.kept two.kept (sym one.at ∙ ap (slice_get blocks) e ∙ two.at) in
      is_same a b (sym one.named ∙ ap (λ (x : KeptBlock). x.root) same ∙ two.named) ∙ sym (eq-eqb i j e)
  | inr ne ↦ false_from_ne_true (same_root a b) (λ t. ne (same_Some i j (sym ha ∙ ap (node_number blocks) (same_is a b t) ∙ hb))) ∙ sym (ne_eqb i j ne)
]
