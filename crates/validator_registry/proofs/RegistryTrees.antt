-- The tree of a registry's groups after a change.
use Rattle.std.proofs.Common.{◌≡◌, ◌∙◌, ℕ, ◌+◌, ◌*◌, ◌/◌, ◌%◌, ◌<◌, ◌≤◌, ◌^◌, List, [], ◌∷◌, zero, suc, ◌++◌, length, refl, sym, ap, subst, arith, pow_mono, length-set, cond}
use Rattle.std.specs.Prelude.{slice_get, slice_set, Some, None}
use Rattle.std.proofs.lemmas.Bool.{lt-ltb, le-ltb}
use Rattle.bc_words.specs.Outcome.{done, refused, checked_push}
use Rattle.bc_words.specs.declared.refusal.Refusal.TheVariants.{ListFull}
use Rattle.hash_tree.proofs.Halves.{width_halves}
use Rattle.std.proofs.lemmas.Option.{none-some}
use Rattle.beacon_types.specs.declared.validator.Validator.{Validator}
use Rattle.tree_nodes.specs.Changes.{changed}
use Rattle.tree_nodes.specs.inside.Puts.{put_at}
use Rattle.tree_nodes.proofs.Changes.{length_changed}
use Rattle.tree_nodes.proofs.Puts.{length_put}
use Rattle.validator_registry.specs.Registries.{with_balances}
use Rattle.validator_registry.specs.inside.Groups.{joined, AreGroups, IsTreeOf}
use Rattle.validator_registry.proofs.GroupChanges.{balance_lengths}
use Rattle.validator_registry.proofs.Groups.{room, group_there, put_in_group, groups_put, push_in_group, groups_push}

-- the validators of a tree are no more than the limit
pub few_validators : (vs : List Validator) (tree : ℕ × List (List Validator)) (depth : ℕ) → IsTreeOf vs tree depth → length (joined tree.1) ≤ 2 ^ 40
few_validators vs tree depth is =
    let wide : 2 ^ depth ≤ 2 ^ 36 = pow_mono is.low in
    omega (arith, room tree.1 is.groups, is.full)

-- a tree with another group at a place
put_tree : (vs now : List Validator) (tree new : ℕ × List (List Validator)) (depth k : ℕ) (g : List Validator) → IsTreeOf vs tree depth → new ≡ (tree.0, put_at tree.1 k g) → k < length tree.1 → AreGroups (put_at tree.1 k g) → joined (put_at tree.1 k g) ≡ now → IsTreeOf now new depth
put_tree vs now tree new depth k g is put there groups same =
    let second : new.1 ≡ put_at tree.1 k g = ap (λ (t : ℕ × List (List Validator)). t.1) put in
    record {
      depth_is = ap (λ (t : ℕ × List (List Validator)). t.0) put ∙ is.depth_is;
      low = is.low;
      full = ap length second ∙ (omega (arith, length_put tree.1 k g (omega arith), is.full));
      groups = subst AreGroups (sym second) groups;
      validators_are = ap joined second ∙ same;
    }

-- another validator at a place
pub set_tree : (tree new : ℕ × List (List Validator)) (depth at : ℕ) (g other : List Validator) (v : Validator) → IsTreeOf (joined tree.1) tree depth → at < length (joined tree.1) → slice_get tree.1 (at / 16) ≡ Some g → other ≡ slice_set g (at % 16) v
    → new ≡ (tree.0, put_at tree.1 (at / 16) other) → IsTreeOf (slice_set (joined tree.1) at v) new depth
set_tree tree new depth at g other v is within there e put =
    put_tree (joined tree.1) (slice_set (joined tree.1) at v) tree new depth (at / 16) other is put (group_there tree.1 at is.groups within)
    (groups_put tree.1 at g other v is.groups there e) (put_in_group tree.1 at g other v is.groups there within e)

-- one more validator behind the last
pub push_tree : (tree new : ℕ × List (List Validator)) (depth len : ℕ) (g more : List Validator) (v : Validator) → IsTreeOf (joined tree.1) tree depth → len ≡ length (joined tree.1) → len < 16 * length tree.1 → slice_get tree.1 (len / 16) ≡ Some g → more ≡ g ++ v ∷ []
    → new ≡ (tree.0, put_at tree.1 (len / 16) more) → IsTreeOf (joined tree.1 ++ v ∷ []) new depth
push_tree tree new depth len g more v is end room there e put =
    put_tree (joined tree.1) (joined tree.1 ++ v ∷ []) tree new depth (len / 16) more is put (omega arith)
    (groups_push tree.1 len g more v is.groups end there e) (push_in_group tree.1 len g more v is.groups end there e)

-- other groups at many places
pub changed_tree : (tree new : ℕ × List (List Validator)) (depth : ℕ) (changes : List (ℕ × List Validator)) (vs : List Validator) → IsTreeOf (joined tree.1) tree depth → AreGroups (changed tree.1 changes) → joined (changed tree.1 changes) ≡ vs
    → new ≡ (tree.0, changed tree.1 changes) → IsTreeOf vs new depth
changed_tree tree new depth changes vs is groups same put =
    let second : new.1 ≡ changed tree.1 changes = ap (λ (t : ℕ × List (List Validator)). t.1) put in
    record {
      depth_is = ap (λ (t : ℕ × List (List Validator)). t.0) put ∙ is.depth_is;
      low = is.low;
      full = ap length second ∙ (length_changed tree.1 changes ∙ is.full);
      groups = subst AreGroups (sym second) groups;
      validators_are = ap joined second ∙ same;
    }

-- a tree of validators is that of its own
pub own_tree : (vs : List Validator) (tree : ℕ × List (List Validator)) (depth : ℕ) → IsTreeOf vs tree depth → IsTreeOf (joined tree.1) tree depth
own_tree vs tree depth is = record { depth_is = is.depth_is; low = is.low; full = is.full; groups = is.groups; validators_are = refl }

-- and has room where it is twice as large
pub doubled_room : (vs : List Validator) (tree more : ℕ × List (List Validator)) (depth len : ℕ) → IsTreeOf vs tree depth → IsTreeOf vs more (depth + 1) → len ≡ length (joined tree.1) → len < 16 * length more.1
doubled_room vs tree more depth len is now end =
    let any : 0 ≤ depth = omega arith in
    let some : 2 ^ 0 ≤ 2 ^ depth = pow_mono any in
    let both : 2 ^ (depth + 1) ≡ 2 ^ depth + 2 ^ depth = width_halves (depth + 1) depth (omega arith) in
    omega (arith, room tree.1 is.groups, is.full, now.full)

-- a place below the length has a group
pub not_none : (gs : List (List Validator)) (k : ℕ) → k < length gs → None ≡ slice_get gs k → ⊥
not_none [] k within none = absurd (omega arith)
not_none (g ∷ gs) zero within none = absurd (none-some g none)
not_none (g ∷ gs) (suc k) within none = not_none gs k (omega arith) none

-- as many validators after a change at a place
pub set_length : (vs : List Validator) (now : List Validator) (at len : ℕ) (v : Validator) → now ≡ slice_set vs at v → len ≡ length vs → len ≡ length now
set_length vs now at len v is long = long ∙ sym (ap length is ∙ length-set vs at v)

-- and after changes of balances
pub balances_length : (vs : List Validator) (now : List Validator) (changes : List (ℕ × ℕ)) (len : ℕ) → now ≡ with_balances vs changes → len ≡ length vs → len ≡ length now
balances_length vs now changes len is long = long ∙ sym (ap length is ∙ balance_lengths vs changes)

-- the group of a place is there
pub place_there : (vs : List Validator) (tree : ℕ × List (List Validator)) (depth at : ℕ) → IsTreeOf vs tree depth → at < length (joined tree.1) → (at / 16 < length tree.1) × (at / 16 < 2 ^ tree.0)
place_there vs tree depth at is within =
    let there = group_there tree.1 at is.groups within in
    (there, subst (λ (d : ℕ). at / 16 < 2 ^ d) (sym is.depth_is) (omega (arith, is.full)))

-- the groups of a tree are few
pub few_groups : (vs : List Validator) (tree : ℕ × List (List Validator)) (depth : ℕ) → IsTreeOf vs tree depth → 16 * length tree.1 ≤ 2 ^ 40
few_groups vs tree depth is =
    let wide : 2 ^ depth ≤ 2 ^ 36 = pow_mono is.low in
    omega (arith, is.full)

-- one more validator, where there is room
pub pushed : (vs old now : List Validator) (v : Validator) (len : ℕ) → vs ≡ old → len ≡ length vs → len < 2 ^ 40 → now ≡ vs ++ v ∷ [] → checked_push (2 ^ 40) old v ≡ done now
unfolding checked_push
pushed vs old now v len view long room is =
    let less : length old < 2 ^ 40 = omega (arith, ap length view) in
    ap (λ b. cond b (done (old ++ v ∷ [])) (refused ListFull)) (lt-ltb _ _ less) ∙ ap (λ (xs : List Validator). done xs) (sym (is ∙ ap (λ (xs : List Validator). xs ++ v ∷ []) view))

-- and where there is none
pub push_full : (vs old : List Validator) (v : Validator) (len : ℕ) → vs ≡ old → len ≡ length vs → 2 ^ 40 ≤ len → checked_push (2 ^ 40) old v ≡ refused ListFull
unfolding checked_push
push_full vs old v len view long full =
    let more : 2 ^ 40 ≤ length old = omega (arith, ap length view) in
    ap (λ b. cond b (done (old ++ v ∷ [])) (refused ListFull)) (le-ltb _ _ more)
