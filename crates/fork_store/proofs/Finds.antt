-- Looking a kept block up by its root: the place of the root among the roots beside the blocks is its number.
use Rattle.std.proofs.Common.{◌≡◌, ℕ, suc, not, arith, ◌+◌, ◌<◌, ◌≤◌, ◌||◌, Bool, true, false, cond, if◌then◌else◌, Option, Some, None, Result, Ok, Err, OnOk, IsOk, List, [], ◌∷◌, ◌++◌, length, position, is_some, slice_get, nat_lt, refl, sym, ap, ◌∙◌}
use Rattle.std.specs.List.{position_or_len, list_any}
use Rattle.std.specs.Cmp.Lexicographic.{nat_list_eq_equiv}
use Rattle.std.proofs.lemmas.Bool.{lt-ltb, le-ltb, false≢true}
use Rattle.std.proofs.lemmas.List.Folds.{find_at}
use Rattle.std.proofs.lemmas.Option.{same_Some, slice_get_within}
use Rattle.indexmap.specs.IndexSet.{insert_key}
use Rattle.beacon_types.specs.Equality.{same_root}
use Rattle.spec_fork_choice.specs.Store.{KeptBlock, block_of, is_kept}
use Rattle.spec_fork_choice.specs.Clash.{place_of}
use Rattle.fork_store.specs.Arrays.{node_number}
use Rattle.fork_store.specs.Roots.{roots_of}
use Rattle.fork_store.proofs.Items.{past}
use Rattle.fork_store.proofs.ArraysPlaces.{number_inside, none_opens}

-- ---- the roots

pub length_roots : (blocks : List KeptBlock) → length (roots_of blocks) ≡ length blocks
length_roots [] = refl
length_roots (kept ∷ blocks) = ap suc (length_roots blocks)

flip : (a b : List ℕ) → same_root a b ≡ same_root b a
flip a b = nat_list_eq_equiv.symm a b

place_by_roots : (blocks : List KeptBlock) (root : List ℕ) → position_or_len (same_root root) (roots_of blocks) ≡ place_of blocks root
unfolding place_of
place_by_roots [] root = refl
place_by_roots (kept ∷ blocks) root = λ i. cond (not (flip root kept.root i)) (1 + place_by_roots blocks root i) 0

within_by : {A : Type 0} (xs : List A) (i : ℕ) (o : Option A) → slice_get xs i ≡ o → is_some o ≡ nat_lt i (length xs)
within_by xs i (Some x) e = sym (lt-ltb i (length xs) (slice_get_within xs i x e))
within_by xs i None e = sym (le-ltb i (length xs) (past xs i (sym e)))

is_within : {A : Type 0} (xs : List A) (i : ℕ) → is_some (slice_get xs i) ≡ nat_lt i (length xs)
is_within xs i = within_by xs i (slice_get xs i) refl

block_in_place : (blocks : List KeptBlock) (root : List ℕ) → block_of blocks root ≡ slice_get blocks (place_of blocks root)
unfolding block_of place_of
block_in_place blocks root = find_at (λ (kept : KeptBlock). same_root kept.root root) blocks

kept_within : (blocks : List KeptBlock) (root : List ℕ) → is_kept blocks root ≡ nat_lt (place_of blocks root) (length blocks)
unfolding is_kept
kept_within blocks root = ap is_some (block_in_place blocks root) ∙ is_within blocks (place_of blocks root)

number_is : (blocks : List KeptBlock) (root : List ℕ) → node_number blocks root ≡ cond (is_kept blocks root) (Some (place_of blocks root)) None
unfolding node_number
number_is blocks root = refl

-- the place among the roots is the number
pub numbered : (blocks : List KeptBlock) (keys : List (List ℕ)) (root : List ℕ) → keys ≡ roots_of blocks → position (same_root root) keys ≡ node_number blocks root
numbered blocks keys root same =
    ap (position (same_root root)) same
    ∙ (λ i. cond (nat_lt (place_by_roots blocks root i) (length_roots blocks i)) (Some (place_by_roots blocks root i)) None)
    ∙ ap (λ b. cond b (Some (place_of blocks root)) None) (sym (kept_within blocks root))
    ∙ sym (number_is blocks root)

-- ---- the block of a number

number_by : (b : Bool) (place n : ℕ) → Some n ≡ cond b (Some place) None → n ≡ place
number_by true place n e = same_Some n place e
number_by false place n e = absurd cc

-- a number is the block's place
pub in_place : (blocks : List KeptBlock) (root : List ℕ) (n : ℕ) → Some n ≡ node_number blocks root → n ≡ place_of blocks root
in_place blocks root n e = number_by (is_kept blocks root) (place_of blocks root) n (e ∙ number_is blocks root)

pub inside : (blocks : List KeptBlock) (root : List ℕ) (n : ℕ) → Some n ≡ node_number blocks root → n < length blocks
inside blocks root n e = number_inside blocks root n (sym e)

none_by : (b : Bool) (place : ℕ) → None ≡ cond b (Some place) None → b ≡ false
none_by true place e = absurd cc
none_by false place e = refl

not_kept : (blocks : List KeptBlock) (root : List ℕ) → None ≡ node_number blocks root → is_kept blocks root ≡ false
not_kept blocks root e = none_by (is_kept blocks root) (place_of blocks root) (e ∙ number_is blocks root)

pub no_block : (o : Option KeptBlock) → is_some o ≡ false → None ≡ o
no_block None e = refl
no_block (Some kept) e = absurd cc

pub block_found : (blocks : List KeptBlock) (root : List ℕ) (n : ℕ) → Some n ≡ node_number blocks root → slice_get blocks n ≡ block_of blocks root
block_found blocks root n e = ap (slice_get blocks) (in_place blocks root n e) ∙ sym (block_in_place blocks root)

pub block_missed : (blocks : List KeptBlock) (root : List ℕ) → None ≡ node_number blocks root → None ≡ block_of blocks root
unfolding is_kept
block_missed blocks root e = no_block (block_of blocks root) (not_kept blocks root e)

kept_numbered : (blocks : List KeptBlock) (root : List ℕ) (n : ℕ) → Some n ≡ node_number blocks root → true ≡ is_kept blocks root
kept_numbered blocks root n e = some_by (is_kept blocks root) (place_of blocks root) n (e ∙ number_is blocks root)
  where
    some_by : (b : Bool) (place n : ℕ) → Some n ≡ cond b (Some place) None → true ≡ b
    some_by true place n e = refl
    some_by false place n e = absurd cc

number_some : (o : Option ℕ) (blocks : List KeptBlock) (root : List ℕ) → o ≡ node_number blocks root → is_some o ≡ is_kept blocks root
number_some (Some n) blocks root e = kept_numbered blocks root n e
number_some None blocks root e = sym (not_kept blocks root e)

-- a root is kept where it has a number
pub number_tells : (o : Option ℕ) (blocks : List KeptBlock) (root : List ℕ) → o ≡ node_number blocks root → is_some o ≡ is_kept blocks root
number_tells o blocks root e = number_some o blocks root e

pub ruleset keeping = (number_tells)

-- ---- its place

place_past : (blocks : List KeptBlock) (root : List ℕ) → is_kept blocks root ≡ false → length blocks ≡ place_of blocks root
unfolding place_of
place_past [] root e = refl
place_past (kept ∷ blocks) root e =
    let parts = none_opens kept blocks root e in
    let later : length blocks ≡ place_of blocks root = place_past blocks root parts.1 in
    (let one : length (kept ∷ blocks) ≡ 1 + length blocks = omega arith in one)
    ∙ ap (λ n. 1 + n) later ∙ ap (λ b. cond (not b) (1 + place_of blocks root) 0) (sym parts.0)

pub place_missed : (blocks : List KeptBlock) (root : List ℕ) → None ≡ node_number blocks root → length blocks ≡ place_of blocks root
place_missed blocks root e = place_past blocks root (not_kept blocks root e)

pub place_low : (blocks : List KeptBlock) (root : List ℕ) (n : ℕ) → Some n ≡ node_number blocks root → n ≤ length blocks
place_low blocks root n e = let h : n < length blocks = inside blocks root n e in omega (arith, h)

pub ruleset placing = (in_place, place_low, place_missed)

-- ---- another block

none_any : (blocks : List KeptBlock) (root : List ℕ) → is_kept blocks root ≡ false → list_any (same_root root) (roots_of blocks) ≡ false
none_any [] root e = refl
none_any (kept ∷ blocks) root e =
    let parts = none_opens kept blocks root e in
    ap (λ b. b || list_any (same_root root) (roots_of blocks)) (flip root kept.root ∙ parts.0) ∙ none_any blocks root parts.1

roots_more : (xs ys : List KeptBlock) → roots_of (xs ++ ys) ≡ roots_of xs ++ roots_of ys
roots_more [] ys = refl
roots_more (kept ∷ xs) ys = ap (λ (l : List (List ℕ)). kept.root ∷ l) (roots_more xs ys)

-- a root that isn't kept goes behind the others
pub root_added : (blocks more : List KeptBlock) (old keys : List (List ℕ)) (kept : KeptBlock) → old ≡ roots_of blocks → is_kept blocks kept.root ≡ false
    → keys ≡ insert_key same_root old kept.root → more ≡ blocks ++ kept ∷ [] → keys ≡ roots_of more
root_added blocks more old keys kept same fresh inserted grown =
    inserted
    ∙ ap (λ (l : List (List ℕ)). insert_key same_root l kept.root) same
    ∙ ap (λ b. if b then roots_of blocks else roots_of blocks ++ kept.root ∷ []) (none_any blocks kept.root fresh)
    ∙ sym (roots_more blocks (kept ∷ []))
    ∙ ap roots_of (sym grown)

-- what an answer that isn't an error says
pub of_ok : {X E : Type 0} (result : Result X E) (P : Type 0) → OnOk result P → IsOk result → P
of_ok (Ok x) P says ok = says
of_ok (Err e) P says ok = absurd (false≢true ok)
