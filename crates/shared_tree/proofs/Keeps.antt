-- What a list keeps after a change.
use Rattle.std.proofs.Common.{◌≡◌, ℕ, ◌<◌, ◌≤◌, ◌^◌, List, [], ◌∷◌, ◌++◌, length, map, Option, Some, None, cond, sym, ap, ap₂, subst, ◌∙◌, arith}
use Rattle.std.proofs.lemmas.Bool.{lt-ltb, le-ltb}
use Rattle.bc_words.specs.Outcome.{done, refused, checked_push}
use Rattle.bc_words.specs.declared.refusal.Refusal.TheVariants.{ListFull}
use Rattle.hash_tree.specs.Merkle.{merkle_root, merkleize, mix_in_length, depth_of}
use Rattle.shared_tree.specs.Lists.{Limited}
use Rattle.shared_tree.specs.inside.Kept.{IsKept}
use Rattle.tree_nodes.specs.inside.Puts.{put_at}
use Rattle.tree_nodes.proofs.Puts.{put_push}

-- a list after a change of its tree, whose root is not made
pub kept_unrooted : {A : Type 0} (root_of : A → List ℕ) (tree new : ℕ × List A) (items : List A) (limit : ℕ) (old_root : Option (List ℕ)) → IsKept root_of tree limit old_root → new ≡ (tree.0, items) → length items ≤ limit → IsKept root_of new limit None
kept_unrooted root_of tree new items limit old_root h is fits =
    let deep : new.0 ≡ tree.0 = ap (λ (v : ℕ × List _). v.0) is in
    let count : length new.1 ≡ length items = ap (λ (v : ℕ × List _). length v.1) is in
    record {
      depth_is = deep ∙ h.depth_is;
      limit_low = h.limit_low;
      wide = subst (λ (d : ℕ). limit ≤ 2 ^ d) (sym deep) h.wide;
      fits = omega arith;
      root_is = tt;
    }

-- the root of a list, of what its tree has at the top
pub root_of_top : {A : Type 0} (root_of : A → List ℕ) (tree : ℕ × List A) (limit len : ℕ) (kept : Option (List ℕ)) (root top : List ℕ) → IsKept root_of tree limit kept → len ≡ length tree.1 → top ≡ merkle_root tree.0 (map root_of tree.1) → root ≡ mix_in_length top len → root ≡ mix_in_length (merkleize (map root_of tree.1) limit) (length tree.1)
unfolding merkleize
root_of_top root_of tree limit len kept root top h long top_is root_is =
    root_is ∙ (ap (λ (t : List ℕ). mix_in_length t len) (top_is ∙ ap (λ (d : ℕ). merkle_root d (map root_of tree.1)) h.depth_is) ∙ ap (λ (n : ℕ). mix_in_length (merkle_root (depth_of limit) (map root_of tree.1)) n) long)

-- the same, whose root is made
pub kept_after : {A : Type 0} (root_of : A → List ℕ) (tree new : ℕ × List A) (items : List A) (limit len : ℕ) (old_root : Option (List ℕ)) (root top : List ℕ) → IsKept root_of tree limit old_root → new ≡ (tree.0, items) → len ≡ length items → len ≤ limit → top ≡ merkle_root new.0 (map root_of new.1) → root ≡ mix_in_length top len → IsKept root_of new limit (Some root)
kept_after root_of tree new items limit len old_root root top h is long fits top_is root_is =
    let bare = kept_unrooted root_of tree new items limit old_root h is (omega arith) in
    let count : length new.1 ≡ length items = ap (λ (v : ℕ × List _). length v.1) is in
    record {
      depth_is = bare.depth_is;
      limit_low = bare.limit_low;
      wide = bare.wide;
      fits = bare.fits;
      root_is = root_of_top root_of new limit len None root top bare (long ∙ sym count) top_is root_is;
    }

pub kept_new : {A : Type 0} (root_of : A → List ℕ) (new : ℕ × List A) (items : List A) (limit depth len : ℕ) (root top : List ℕ) → new ≡ (depth, items) → depth ≡ depth_of limit → limit ≤ 2 ^ depth → limit ≤ 2 ^ 40 → length items ≤ limit → len ≡ length new.1 → top ≡ merkle_root new.0 (map root_of new.1) → root ≡ mix_in_length top len → IsKept root_of new limit (Some root)
unfolding merkleize
kept_new root_of new items limit depth len root top is depth_is wide low fits long top_is root_is =
    let deep : new.0 ≡ depth = ap (λ (v : ℕ × List _). v.0) is in
    let count : length new.1 ≡ length items = ap (λ (v : ℕ × List _). length v.1) is in
    record {
      depth_is = deep ∙ depth_is;
      limit_low = low;
      wide = subst (λ (d : ℕ). limit ≤ 2 ^ d) (sym deep) wide;
      fits = omega arith;
      root_is = root_is ∙ (ap (λ (t : List ℕ). mix_in_length t len) (top_is ∙ ap (λ (d : ℕ). merkle_root d (map root_of new.1)) (deep ∙ depth_is)) ∙ ap (λ (n : ℕ). mix_in_length (merkle_root (depth_of limit) (map root_of new.1)) n) long);
    }

-- the list as it is seen after a change of its items
pub seen_after : {A : Type 0} (old : Limited A) (limit : ℕ) (was now items : List A) → ◌≡◌ {A = Limited A} (record { limit = limit; items = was }) old → now ≡ items → ◌≡◌ {A = Limited A} (record { limit = limit; items = now }) (record { limit = old.limit; items = items })
seen_after old limit was now items view is =
    ap₂ (λ (n : ℕ) (xs : List _). record { limit = n; items = xs }) (ap (λ (l : Limited _). l.limit) view) is

-- one more item, where there is room
pub push_value : {A : Type 0} (old : Limited A) (limit len : ℕ) (item : A) (was now : List A) → ◌≡◌ {A = Limited A} (record { limit = limit; items = was }) old → len ≡ length was → len < limit → now ≡ put_at was len item → checked_push old.limit old.items item ≡ done now
unfolding checked_push
push_value old limit len item was now view len_is room is =
    let items : was ≡ old.items = ap (λ (l : Limited _). l.items) view in
    let limits : limit ≡ old.limit = ap (λ (l : Limited _). l.limit) view in
    let pushed : now ≡ old.items ++ item ∷ [] = is ∙ (put_push was len item len_is ∙ ap (λ (xs : List _). xs ++ item ∷ []) items) in
    let less : length old.items < old.limit = omega (arith, ap length items) in
    ap (λ b. cond b (done (old.items ++ item ∷ [])) (refused ListFull)) (lt-ltb _ _ less) ∙ ap (λ (xs : List _). done xs) (sym pushed)

pub push_full : {A : Type 0} (old : Limited A) (limit len : ℕ) (item : A) (was : List A) → ◌≡◌ {A = Limited A} (record { limit = limit; items = was }) old → len ≡ length was → limit ≤ len → checked_push old.limit old.items item ≡ refused ListFull
unfolding checked_push
push_full old limit len item was view len_is full =
    let items : was ≡ old.items = ap (λ (l : Limited _). l.items) view in
    let limits : limit ≡ old.limit = ap (λ (l : Limited _). l.limit) view in
    let more : old.limit ≤ length old.items = omega (arith, ap length items) in
    ap (λ b. cond b (done (old.items ++ item ∷ [])) (refused ListFull)) (le-ltb _ _ more)
