-- Looking a kept block up by its root: what a map finds is the kept block, its place among the keys is that among the blocks.
use Rattle.std.proofs.Common.{◌≡◌, ◌∙◌, ℕ, ◌+◌, ◌≤◌, ◌⊎◌, inl, inr, not, Bool, true, false, cond, List, [], ◌∷◌, ◌++◌, map, length, take, nat_lt, Option, Some, None, is_some, position, refl, sym, ap, arith}
use Rattle.std.specs.List.{position_or_len, take-map}
use Rattle.std.specs.Option.{option_map}
use Rattle.std.specs.Map.{keys_of, lookup}
use Rattle.std.specs.Cmp.Lexicographic.{nat_list_eq_equiv}
use Rattle.std.proofs.lemmas.Bool.{ltb-false}
use Rattle.std.proofs.lemmas.Option.{same_Some}
use Rattle.std.proofs.lemmas.List.{map-append, length-map}
use Rattle.std.proofs.lemmas.List.Sums.{prefix_len-le-length}
use Rattle.std.proofs.lemmas.Map.Entries.{length-keys_of}
use Rattle.indexmap.specs.IndexMap.{insert_entry}
use Rattle.beacon_types.specs.Equality.{same_root}
use Rattle.beacon_types.specs.declared.block.BeaconBlock.{BeaconBlock}
use Rattle.spec_state.specs.declared.plain.PlainState.{PlainState}
use Rattle.spec_state.specs.Genesis.{header_root_of}
use Rattle.spec_fork_choice.specs.Store.{KeptBlock, block_of, is_kept}
use Rattle.spec_fork_choice.specs.Clash.{place_of}
use Rattle.spec_fork_choice.specs.GetForkchoiceStore.{genesis_block}
use Rattle.spec_forensics.specs.Clash.{first_accepted}
use Rattle.forensics.specs.declared.kept_blocks.Kept.{Kept}
use Rattle.forensics.specs.inside.Kept.{kept_block, kept_blocks, with_kept}

flip : (a b : List ℕ) → same_root a b ≡ same_root b a
flip a b = nat_list_eq_equiv.symm a b

chosen : {A B : Type 0} (f : A → B) (b : Bool) (x : A) (rest : Option A) → option_map f (cond b (Some x) rest) ≡ cond b (Some (f x)) (option_map f rest)
chosen f true x rest = refl
chosen f false x rest = refl

pub block_found : (entries : List (List ℕ × Kept)) (root : List ℕ) → option_map (λ (k : KeptBlock). k.block) (block_of (kept_blocks entries) root) ≡ option_map (λ (v : Kept). v.block) (lookup (same_root root) entries)
unfolding block_of kept_blocks
block_found [] root = refl
block_found (e ∷ entries) root =
    chosen (λ (k : KeptBlock). k.block) (same_root e.0 root) (kept_block e) (block_of (kept_blocks entries) root)
    ∙ (λ i. cond (flip e.0 root i) (Some e.1.block) (block_found entries root i))
    ∙ sym (chosen (λ (v : Kept). v.block) (same_root root e.0) e.1 (lookup (same_root root) entries))

there : {A B : Type 0} (f : A → B) (o : Option A) → is_some (option_map f o) ≡ is_some o
there f None = refl
there f (Some x) = refl

pub found_kept : (entries : List (List ℕ × Kept)) (root : List ℕ) → is_some (lookup (same_root root) entries) ≡ is_kept (kept_blocks entries) root
unfolding is_kept
found_kept entries root =
    sym (there (λ (v : Kept). v.block) (lookup (same_root root) entries))
    ∙ ap is_some (sym (block_found entries root))
    ∙ there (λ (k : KeptBlock). k.block) (block_of (kept_blocks entries) root)

pub placed : (entries : List (List ℕ × Kept)) (root : List ℕ) → position_or_len (same_root root) (keys_of entries) ≡ place_of (kept_blocks entries) root
unfolding place_of kept_blocks
placed [] root = refl
placed (e ∷ entries) root = λ i. cond (not (flip root e.0 i)) (1 + placed entries root i) 0

pub one_more : (entries more : List (List ℕ × Kept)) (root : List ℕ) (v : Kept) → is_kept (kept_blocks entries) root ≡ false → more ≡ entries ++ (root, v) ∷ []
    → kept_blocks more ≡ with_kept (kept_blocks entries) (record { root = root; block = v.block; state = v.state.value })
unfolding with_kept kept_blocks
one_more entries more root v fresh is =
    ap kept_blocks is
    ∙ map-append kept_block entries ((root, v) ∷ [])
    ∙ sym (ap (λ b. cond b (map kept_block entries) (map kept_block entries ++ kept_block (root, v) ∷ [])) fresh)

pub none_more : (blocks : List KeptBlock) (k : KeptBlock) → is_kept blocks k.root ≡ true → blocks ≡ with_kept blocks k
unfolding with_kept
none_more blocks k here = sym (ap (λ b. cond b blocks (blocks ++ k ∷ [])) here)

-- ---- places, as a map tells them

number_by : (b : Bool) (place n : ℕ) → Some n ≡ cond b (Some place) None → n ≡ place
number_by true place n e = same_Some n place e
number_by false place n e = absurd cc

pub at_number : (entries : List (List ℕ × Kept)) (blocks : List KeptBlock) (root : List ℕ) (n : ℕ) → kept_blocks entries ≡ blocks → Some n ≡ position (same_root root) (keys_of entries) → n ≡ place_of blocks root
at_number entries blocks root n is e =
    number_by (nat_lt (position_or_len (same_root root) (keys_of entries)) (length (keys_of entries))) (position_or_len (same_root root) (keys_of entries)) n e
    ∙ placed entries root
    ∙ ap (λ (bs : List KeptBlock). place_of bs root) is

last_by : (place count : ℕ) (b : Bool) → place ≤ count → nat_lt place count ≡ b → None ≡ cond b (Some place) None → count ≡ place
last_by place count true most is e = absurd cc
last_by place count false most is e = let h : count ≤ place = ltb-false place count is in omega arith

pub at_end : (entries : List (List ℕ × Kept)) (blocks : List KeptBlock) (root : List ℕ) (n : ℕ) → kept_blocks entries ≡ blocks → None ≡ position (same_root root) (keys_of entries) → n ≡ length entries → n ≡ place_of blocks root
at_end entries blocks root n is e count =
    count
    ∙ sym (length-keys_of entries)
    ∙ last_by (position_or_len (same_root root) (keys_of entries)) (length (keys_of entries)) (nat_lt (position_or_len (same_root root) (keys_of entries)) (length (keys_of entries))) (prefix_len-le-length (λ x. not (same_root root x)) (keys_of entries)) refl e
    ∙ placed entries root
    ∙ ap (λ (bs : List KeptBlock). place_of bs root) is

-- ---- keeping a block

entries_by : (e : List ℕ × Kept) (entries : List (List ℕ × Kept)) (root : List ℕ) (v : Kept) (b : Bool) → is_some (cond b (Some e.1) (lookup (same_root root) entries)) ≡ false
    → insert_entry same_root entries root v ≡ entries ++ (root, v) ∷ [] ⊎ (is_some (lookup (same_root root) entries) ≡ true) → cond b ((e.0, v) ∷ entries) (e ∷ insert_entry same_root entries root v) ≡ e ∷ (entries ++ (root, v) ∷ [])
entries_by e entries root v true none rest = absurd cc
entries_by e entries root v false none (inl is) = ap (λ (es : List (List ℕ × Kept)). e ∷ es) is
entries_by e entries root v false none (inr some) = absurd cc

either_way : (entries : List (List ℕ × Kept)) (root : List ℕ) (v : Kept) → (is_some (lookup (same_root root) entries) ≡ false → insert_entry same_root entries root v ≡ entries ++ (root, v) ∷ []) → (b : Bool) → is_some (lookup (same_root root) entries) ≡ b
    → insert_entry same_root entries root v ≡ entries ++ (root, v) ∷ [] ⊎ (is_some (lookup (same_root root) entries) ≡ true)
either_way entries root v rest true is = inr is
either_way entries root v rest false is = inl (rest is)

one_behind : (entries : List (List ℕ × Kept)) (root : List ℕ) (v : Kept) → is_some (lookup (same_root root) entries) ≡ false → insert_entry same_root entries root v ≡ entries ++ (root, v) ∷ []
one_behind [] root v none = refl
one_behind (e ∷ entries) root v none = entries_by e entries root v (same_root root e.0) none (either_way entries root v (one_behind entries root v) (is_some (lookup (same_root root) entries)) refl)

pub kept_more : (entries more : List (List ℕ × Kept)) (blocks : List KeptBlock) (root : List ℕ) (v : Kept) (block : BeaconBlock) (state : PlainState) → kept_blocks entries ≡ blocks → is_some (lookup (same_root root) entries) ≡ false
    → more ≡ insert_entry same_root entries root v → v.block ≡ block → v.state.value ≡ state → kept_blocks more ≡ with_kept blocks (record { root = root; block = block; state = state })
kept_more entries more blocks root v block state is none grown block_is state_is =
    one_more entries more root v (sym (found_kept entries root) ∙ none) (grown ∙ one_behind entries root v none)
    ∙ ap (λ (bs : List KeptBlock). with_kept bs (record { root = root; block = v.block; state = v.state.value })) is
    ∙ ap (λ (x : BeaconBlock). with_kept blocks (record { root = root; block = x; state = v.state.value })) block_is
    ∙ ap (λ (x : PlainState). with_kept blocks (record { root = root; block = block; state = x })) state_is

pub kept_same : (entries : List (List ℕ × Kept)) (blocks : List KeptBlock) (k : KeptBlock) → kept_blocks entries ≡ blocks → is_some (lookup (same_root k.root) entries) ≡ true → blocks ≡ with_kept blocks k
kept_same entries blocks k is some = none_more blocks k (ap (λ (bs : List KeptBlock). is_kept bs k.root) (sym is) ∙ sym (found_kept entries k.root) ∙ some)

pub first_kept : (genesis : PlainState) (entries more : List (List ℕ × Kept)) (root : List ℕ) (v : Kept) → entries ≡ [] → more ≡ insert_entry same_root entries root v → root ≡ header_root_of genesis → v.block ≡ genesis_block genesis → v.state.value ≡ genesis
    → kept_blocks more ≡ first_accepted genesis []
unfolding kept_blocks first_accepted
first_kept genesis entries more root v none grown root_is block_is state_is =
    ap (map kept_block) (grown ∙ ap (λ (es : List (List ℕ × Kept)). insert_entry same_root es root v) none)
    ∙ ap (λ (r : List ℕ). record { root = r; block = v.block; state = v.state.value } ∷ []) root_is
    ∙ ap (λ (x : BeaconBlock). record { root = header_root_of genesis; block = x; state = v.state.value } ∷ []) block_is
    ∙ ap (λ (x : PlainState). record { root = header_root_of genesis; block = genesis_block genesis; state = x } ∷ []) state_is

-- ---- how many are kept, and the first so many

pub many_kept : (entries : List (List ℕ × Kept)) (blocks : List KeptBlock) (n : ℕ) → kept_blocks entries ≡ blocks → n ≡ length entries → n ≡ length blocks
unfolding kept_blocks
many_kept entries blocks n is many = many ∙ sym (length-map entries kept_block) ∙ ap length is

pub cut_kept : (entries more : List (List ℕ × Kept)) (blocks : List KeptBlock) (n : ℕ) → kept_blocks entries ≡ blocks → more ≡ take n entries → kept_blocks more ≡ take n blocks
unfolding kept_blocks
cut_kept entries more blocks n is cut = ap (map kept_block) cut ∙ sym (take-map kept_block n entries) ∙ ap (take n) is
