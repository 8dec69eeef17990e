-- Entries say of a history's chains what its blocks do.
use Rattle.std.proofs.Common.{◌≡◌, ◌∙◌, ℕ, ◌+◌, ◌-◌, ◌<◌, ◌≤◌, Bool, true, false, cond, ◌||◌, List, [], ◌∷◌, ◌++◌, map, reverse, take, drop, get_or, length, Option, Some, None, refl, sym, ap, subst, arith}
use Rattle.std.specs.List.{All, find, list_any}
use Rattle.std.specs.Option.{option_map, option_map_or}
use Rattle.std.proofs.lemmas.List.{take_more, drop_more, drop_all, reverse-append, reverse-reverse, take_all}
use Rattle.std.proofs.lemmas.List.Elements.{All-nil, All-cons, All-tail}
use Rattle.indexmap.proofs.ReorderLemmas.{map-reverse}
use Rattle.beacon_types.specs.Equality.{same_root, same_checkpoint}
use Rattle.beacon_types.specs.declared.checkpoint.Checkpoint.{Checkpoint}
use Rattle.spec_state.specs.declared.plain.PlainState.{PlainState}
use Rattle.spec_state.specs.Genesis.{header_root_of}
use Rattle.spec_forensics.specs.Histories.{AcceptedBlock, chain_to}
use Rattle.spec_forensics.specs.Verdict.{roots_of, is_on_chain, first_moved, moved_or, moved_on, finalizing_root, finalizing_chain}
use Rattle.forensics.specs.inside.Whole.{PlainHistory, with_latest}
use Rattle.forensics.specs.declared.entries.Entry.{Entry}
use Rattle.forensics.specs.inside.Entries.{entry_of, entries_of, IsKeptOf, reaches, move_or, earliest, finalizing}

-- ---- one block more

latest_first : {A : Type 0} (x : A) (xs : List A) → reverse (x ∷ xs) ≡ reverse xs ++ x ∷ []
latest_first x xs = reverse-append (x ∷ []) xs

pub none_kept : (genesis : PlainState) (blocks : List AcceptedBlock) (entries : List Entry) → blocks ≡ [] → entries ≡ [] → IsKeptOf genesis blocks entries
unfolding entries_of
none_kept genesis blocks entries no_block none = subst (λ (bs : List AcceptedBlock). IsKeptOf genesis bs entries) (sym no_block) (record { same = none; rooted = All-nil (λ (b : AcceptedBlock). length b.root ≡ 32) })

-- what is seen of a history with it
pub latest_is : (history : PlainHistory) (genesis : PlainState) (finalized : Checkpoint) (blocks now : List AcceptedBlock) (b : AcceptedBlock) → record { genesis = genesis; blocks = blocks; finalized = finalized } ≡ history → now ≡ b ∷ blocks
    → record { genesis = genesis; blocks = now; finalized = finalized } ≡ with_latest history b
unfolding with_latest
latest_is history genesis finalized blocks now b is more = ap (λ (bs : List AcceptedBlock). record { genesis = genesis; blocks = bs; finalized = finalized }) more ∙ ap (λ (h : PlainHistory). record h { blocks = b ∷ h.blocks }) is

entry_is : (view : PlainHistory) (genesis : PlainState) (finalized : Checkpoint) (blocks : List AcceptedBlock) (b : AcceptedBlock) (moved : Option ℕ) → record { genesis = genesis; blocks = blocks; finalized = finalized } ≡ view → moved ≡ first_moved view.genesis b.entered
    → record { root = b.root; parent = b.block.parent_root; finalized = b.state.finalized_checkpoint; moved = moved } ≡ entry_of genesis b
unfolding entry_of
entry_is view genesis finalized blocks b moved seen is =
    ap (λ (m : Option ℕ). record { root = b.root; parent = b.block.parent_root; finalized = b.state.finalized_checkpoint; moved = m }) (is ∙ ap (λ (h : PlainHistory). first_moved h.genesis b.entered) (sym seen))

pub entry_added : (view : PlainHistory) (genesis : PlainState) (finalized : Checkpoint) (blocks now : List AcceptedBlock) (entries entries_now : List Entry) (b : AcceptedBlock) (e : Entry) (moved : Option ℕ)
    → record { genesis = genesis; blocks = blocks; finalized = finalized } ≡ view → IsKeptOf genesis blocks entries → length b.root ≡ 32
    → e ≡ record { root = b.root; parent = b.block.parent_root; finalized = b.state.finalized_checkpoint; moved = moved } → moved ≡ first_moved view.genesis b.entered
    → entries_now ≡ entries ++ e ∷ [] → now ≡ b ∷ blocks → IsKeptOf genesis now entries_now
unfolding entries_of
entry_added view genesis finalized blocks now entries entries_now b e moved seen is rooted same moved_is grown more =
    subst (λ (bs : List AcceptedBlock). IsKeptOf genesis bs entries_now) (sym more) (record {
      same = grown ∙ ap (λ (x : Entry). entries ++ x ∷ []) (same ∙ entry_is view genesis finalized blocks b moved seen moved_is) ∙ ap (λ (es : List Entry). es ++ entry_of genesis b ∷ []) is.same ∙ sym (latest_first (entry_of genesis b) (map (entry_of genesis) blocks));
      rooted = All-cons (λ (x : AcceptedBlock). length x.root ≡ 32) b blocks rooted is.rooted;
    })

-- ---- walks back over entries

module _ {A : Type 0} where
  -- the first so many of a list, the last of them first
  unfoldable pub back : ℕ → List A → List A
  back n xs = reverse (take n xs)

  pub back_all : (xs : List A) (n : ℕ) → n ≡ length xs → back n xs ≡ reverse xs
  unfolding back
  back_all xs n is = ap reverse (take_all n xs (omega arith))

  back_none : (xs : List A) → back 0 xs ≡ []
  unfolding back
  back_none [] = refl
  back_none (x ∷ xs) = refl

  back_one : (xs : List A) (i : ℕ) (d : A) → i < length xs → back (i + 1) xs ≡ get_or xs i d ∷ back i xs
  unfolding back
  back_one xs i d less = ap reverse (take_more xs i d less) ∙ reverse-append (take i xs) (get_or xs i d ∷ [])

-- ---- a root on a chain

or_nothing : (b : Bool) → b || false ≡ b
or_nothing true = refl
or_nothing false = refl

or_chosen : (b other : Bool) → cond b true other ≡ b || other
or_chosen true other = refl
or_chosen false other = refl

module _ (genesis : PlainState) where
  abbrev kept : List AcceptedBlock → List Entry
  kept blocks = map (entry_of genesis) blocks

  reaches_chain : (blocks : List AcceptedBlock) (root ancestor : List ℕ) → reaches (header_root_of genesis) ancestor (kept blocks) root ≡ is_on_chain genesis blocks root ancestor
  unfolding reaches is_on_chain roots_of entry_of chain_to
  reaches_chain [] root ancestor = sym (or_nothing (same_root (header_root_of genesis) ancestor))
  reaches_chain (b ∷ earlier) root ancestor =
      elim (same_root b.root root) as (λ c. cond c (cond (same_root b.root ancestor) true (reaches (header_root_of genesis) ancestor (kept earlier) b.block.parent_root)) (reaches (header_root_of genesis) ancestor (kept earlier) root)
      ≡ list_any (λ r. same_root r ancestor) (map (λ (x : AcceptedBlock). x.root) (cond c (b ∷ chain_to earlier b.block.parent_root) (chain_to earlier root)) ++ header_root_of genesis ∷ [])) [
        | true ↦ ap (λ o. cond (same_root b.root ancestor) true o) (reaches_chain earlier b.block.parent_root ancestor) ∙ or_chosen (same_root b.root ancestor) (is_on_chain genesis earlier b.block.parent_root ancestor)
        | false ↦ reaches_chain earlier root ancestor
      ]

  backwards : (blocks : List AcceptedBlock) (entries : List Entry) → IsKeptOf genesis blocks entries → reverse entries ≡ kept blocks
  unfolding entries_of
  backwards blocks entries is = ap reverse is.same ∙ reverse-reverse (kept blocks)

  on_chain_of : (blocks : List AcceptedBlock) (entries : List Entry) (genesis_root root ancestor : List ℕ) → IsKeptOf genesis blocks entries → genesis_root ≡ header_root_of genesis
      → reaches genesis_root ancestor (reverse entries) root ≡ is_on_chain genesis blocks root ancestor
  on_chain_of blocks entries genesis_root root ancestor is same =
      ap (λ (r : List ℕ). reaches r ancestor (reverse entries) root) same
      ∙ ap (λ (es : List Entry). reaches (header_root_of genesis) ancestor es root) (backwards blocks entries is)
      ∙ reaches_chain blocks root ancestor

  -- ---- the earliest move of a chain

  abbrev Move : Type 0
  Move = Option (List ℕ × ℕ)

  abbrev or_else : Move → Move → Move
  or_else (Some x) other = Some x
  or_else None other = other

  or_else_none : (o : Move) → or_else o None ≡ o
  or_else_none (Some x) = refl
  or_else_none None = refl

  moved_over : (root : List ℕ) (moved : Option ℕ) (a b : Move) → moved_or root moved (or_else a b) ≡ or_else (moved_or root moved a) b
  unfolding moved_or
  moved_over root (Some epoch) a b = refl
  moved_over root None a b = refl

  moved_behind : (first last : List AcceptedBlock) → moved_on genesis (first ++ last) ≡ or_else (moved_on genesis first) (moved_on genesis last)
  unfolding moved_on
  moved_behind [] last = refl
  moved_behind (b ∷ first) last = ap (moved_or b.root (first_moved genesis b.entered)) (moved_behind first last) ∙ moved_over b.root (first_moved genesis b.entered) (moved_on genesis first) (moved_on genesis last)

  overwritten : (e : Entry) (moved : Option ℕ) (a found : Move) → or_else a (move_or e moved found) ≡ or_else (or_else a (moved_or e.root moved None)) found
  unfolding move_or moved_or
  overwritten e moved (Some x) found = refl
  overwritten e (Some epoch) None found = refl
  overwritten e None None found = refl

  earliest_chain : (blocks : List AcceptedBlock) (root : List ℕ) (found : Move) → earliest (kept blocks) root found ≡ or_else (moved_on genesis (reverse (chain_to blocks root))) found
  unfolding earliest entry_of chain_to moved_on
  earliest_chain [] root found = refl
  earliest_chain (b ∷ earlier) root found =
      elim (same_root b.root root) as (λ c. cond c (earliest (kept earlier) b.block.parent_root (move_or (entry_of genesis b) (first_moved genesis b.entered) found)) (earliest (kept earlier) root found)
      ≡ or_else (moved_on genesis (reverse (cond c (b ∷ chain_to earlier b.block.parent_root) (chain_to earlier root)))) found) [
        | true ↦
            let chain : List AcceptedBlock = chain_to earlier b.block.parent_root in
            earliest_chain earlier b.block.parent_root (move_or (entry_of genesis b) (first_moved genesis b.entered) found)
            ∙ overwritten (entry_of genesis b) (first_moved genesis b.entered) (moved_on genesis (reverse chain)) found
            ∙ ap (λ (o : Move). or_else o found) (sym (moved_behind (reverse chain) (b ∷ [])))
            ∙ ap (λ (bs : List AcceptedBlock). or_else (moved_on genesis bs) found) (sym (latest_first b chain))
        | false ↦ earliest_chain earlier root found
      ]

  -- ---- the finalising block

  find_mapped : (finalized : Checkpoint) (blocks : List AcceptedBlock) → finalizing (kept blocks) finalized ≡ option_map (λ (b : AcceptedBlock). b.root) (find (λ (b : AcceptedBlock). same_checkpoint b.state.finalized_checkpoint finalized) blocks)
  unfolding finalizing entry_of
  find_mapped finalized [] = refl
  find_mapped finalized (b ∷ blocks) =
      elim (same_checkpoint b.state.finalized_checkpoint finalized) as (λ c. option_map (λ (e : Entry). e.root) (cond c (Some (entry_of genesis b)) (find (λ (e : Entry). same_checkpoint e.finalized finalized) (kept blocks)))
      ≡ option_map (λ (x : AcceptedBlock). x.root) (cond c (Some b) (find (λ (x : AcceptedBlock). same_checkpoint x.state.finalized_checkpoint finalized) blocks))) [
        | true ↦ refl
        | false ↦ find_mapped finalized blocks
      ]

  finalizing_is : (blocks : List AcceptedBlock) (entries : List Entry) (finalized : Checkpoint) → IsKeptOf genesis blocks entries
      → finalizing entries finalized ≡ option_map (λ (b : AcceptedBlock). b.root) (find (λ (b : AcceptedBlock). same_checkpoint b.state.finalized_checkpoint finalized) (reverse blocks))
  unfolding entries_of
  finalizing_is blocks entries finalized is =
      ap (λ (es : List Entry). finalizing es finalized) (is.same ∙ sym (map-reverse (entry_of genesis) blocks)) ∙ find_mapped finalized (reverse blocks)

  root_or : (o : Option AcceptedBlock) (root : List ℕ) → Some root ≡ option_map (λ (b : AcceptedBlock). b.root) o → option_map_or (λ (b : AcceptedBlock). b.root) o [] ≡ root
  root_or (Some b) root is = let same : root ≡ b.root = cc in sym same
  root_or None root is = absurd cc

  no_root_or : (o : Option AcceptedBlock) → None ≡ option_map (λ (b : AcceptedBlock). b.root) o → option_map_or (λ (b : AcceptedBlock). b.root) o [] ≡ []
  no_root_or (Some b) is = absurd cc
  no_root_or None is = refl

  -- no block has no root
  not_rooted : (root : List ℕ) → length root ≡ 32 → same_root root [] ≡ false
  not_rooted [] is = absurd (omega arith)
  not_rooted (n ∷ root) is = refl

  no_chain : (blocks : List AcceptedBlock) → All (λ (b : AcceptedBlock). length b.root ≡ 32) blocks → chain_to blocks [] ≡ []
  unfolding chain_to
  no_chain [] rooted = refl
  no_chain (b ∷ earlier) rooted =
      ap (λ c. cond c (b ∷ chain_to earlier b.block.parent_root) (chain_to earlier [])) (not_rooted b.root (rooted 0 b (omega arith)))
      ∙ no_chain earlier (All-tail (λ (x : AcceptedBlock). length x.root ≡ 32) b earlier rooted)

  -- ---- the first move on the way to it

  moved_there : (blocks : List AcceptedBlock) (entries : List Entry) (finalized : Checkpoint) (root : List ℕ) (result : Move) → IsKeptOf genesis blocks entries → Some root ≡ finalizing entries finalized
      → result ≡ earliest (reverse entries) root None → result ≡ moved_on genesis (finalizing_chain blocks finalized)
  unfolding finalizing_chain finalizing_root
  moved_there blocks entries finalized root result is last found =
      found
      ∙ ap (λ (es : List Entry). earliest es root None) (backwards blocks entries is)
      ∙ earliest_chain blocks root None
      ∙ or_else_none (moved_on genesis (reverse (chain_to blocks root)))
      ∙ ap (λ (r : List ℕ). moved_on genesis (reverse (chain_to blocks r))) (sym (root_or (find (λ (b : AcceptedBlock). same_checkpoint b.state.finalized_checkpoint finalized) (reverse blocks)) root (last ∙ finalizing_is blocks entries finalized is)))

  none_moved : (blocks : List AcceptedBlock) (entries : List Entry) (finalized : Checkpoint) → IsKeptOf genesis blocks entries → None ≡ finalizing entries finalized → None ≡ moved_on genesis (finalizing_chain blocks finalized)
  unfolding finalizing_chain finalizing_root moved_on
  none_moved blocks entries finalized is last =
      ap (λ (bs : List AcceptedBlock). moved_on genesis (reverse bs)) (sym (no_chain blocks is.rooted))
      ∙ ap (λ (r : List ℕ). moved_on genesis (reverse (chain_to blocks r))) (sym (no_root_or (find (λ (b : AcceptedBlock). same_checkpoint b.state.finalized_checkpoint finalized) (reverse blocks)) (last ∙ finalizing_is blocks entries finalized is)))

-- ---- as code comes by it

module _ (view : PlainHistory) (entries : List Entry) (genesis : PlainState) (blocks : List AcceptedBlock) (finalized : Checkpoint) (seen : record { genesis = genesis; blocks = blocks; finalized = finalized } ≡ view) (is : IsKeptOf genesis blocks entries) where
  pub on_chain_is : (genesis_root root ancestor : List ℕ) → genesis_root ≡ header_root_of view.genesis → reaches genesis_root ancestor (reverse entries) root ≡ is_on_chain view.genesis view.blocks root ancestor
  on_chain_is genesis_root root ancestor same =
      on_chain_of genesis blocks entries genesis_root root ancestor is (same ∙ sym (ap (λ (h : PlainHistory). header_root_of h.genesis) seen))
      ∙ ap (λ (h : PlainHistory). is_on_chain h.genesis h.blocks root ancestor) seen

  pub move_found : (root : List ℕ) (result : Option (List ℕ × ℕ)) → Some root ≡ finalizing entries finalized → result ≡ earliest (reverse entries) root None → result ≡ moved_on view.genesis (finalizing_chain view.blocks view.finalized)
  move_found root result last found = moved_there genesis blocks entries finalized root result is last found ∙ ap (λ (h : PlainHistory). moved_on h.genesis (finalizing_chain h.blocks h.finalized)) seen

  pub no_move : None ≡ finalizing entries finalized → None ≡ moved_on view.genesis (finalizing_chain view.blocks view.finalized)
  no_move last = none_moved genesis blocks entries finalized is last ∙ ap (λ (h : PlainHistory). moved_on h.genesis (finalizing_chain h.blocks h.finalized)) seen

-- the entry that a walk comes to, where there are so many left
module _ (entries : List Entry) (i : ℕ) (d : Entry) (some : 0 < i) (within : i ≤ length entries) where
  abbrev here : Entry
  here = get_or entries (i - 1) d

  left : back i entries ≡ here ∷ back (i - 1) entries
  left = let e : i ≡ i - 1 + 1 = omega arith in ap (λ n. back n entries) e ∙ back_one entries (i - 1) d (omega arith)

  module _ (genesis_root ancestor root : List ℕ) (all : Bool) (reaching : reaches genesis_root ancestor (back i entries) root ≡ all) where
    on : cond (same_root here.root root) (cond (same_root here.root ancestor) true (reaches genesis_root ancestor (back (i - 1) entries) here.parent)) (reaches genesis_root ancestor (back (i - 1) entries) root) ≡ all
    unfolding reaches
    on = sym (ap (λ (es : List Entry). reaches genesis_root ancestor es root) left) ∙ reaching

    pub reach_stops : (own is : Bool) → own ≡ same_root here.root root → own ≡ true → is ≡ same_root here.root ancestor → is ≡ true → true ≡ all
    reach_stops own is own_is so is_is also =
        sym (ap (λ b. cond b (cond (same_root here.root ancestor) true (reaches genesis_root ancestor (back (i - 1) entries) here.parent)) (reaches genesis_root ancestor (back (i - 1) entries) root)) (sym own_is ∙ so)
        ∙ ap (λ b. cond b true (reaches genesis_root ancestor (back (i - 1) entries) here.parent)) (sym is_is ∙ also))
        ∙ on

    pub reach_goes : (own is : Bool) → own ≡ same_root here.root root → own ≡ true → is ≡ same_root here.root ancestor → is ≡ false → reaches genesis_root ancestor (back (i - 1) entries) here.parent ≡ all
    reach_goes own is own_is so is_is other =
        sym (ap (λ b. cond b (cond (same_root here.root ancestor) true (reaches genesis_root ancestor (back (i - 1) entries) here.parent)) (reaches genesis_root ancestor (back (i - 1) entries) root)) (sym own_is ∙ so)
        ∙ ap (λ b. cond b true (reaches genesis_root ancestor (back (i - 1) entries) here.parent)) (sym is_is ∙ other))
        ∙ on

    pub reach_passes : (own : Bool) → own ≡ same_root here.root root → own ≡ false → reaches genesis_root ancestor (back (i - 1) entries) root ≡ all
    reach_passes own own_is not_so =
        sym (ap (λ b. cond b (cond (same_root here.root ancestor) true (reaches genesis_root ancestor (back (i - 1) entries) here.parent)) (reaches genesis_root ancestor (back (i - 1) entries) root)) (sym own_is ∙ not_so))
        ∙ on

  module _ (root : List ℕ) (found all : Option (List ℕ × ℕ)) (moving : earliest (back i entries) root found ≡ all) where
    next : cond (same_root here.root root) (earliest (back (i - 1) entries) here.parent (move_or here here.moved found)) (earliest (back (i - 1) entries) root found) ≡ all
    unfolding earliest
    next = sym (ap (λ (es : List Entry). earliest es root found) left) ∙ moving

    pub earliest_goes : (own : Bool) (now : Option (List ℕ × ℕ)) → own ≡ same_root here.root root → own ≡ true → now ≡ move_or here here.moved found → earliest (back (i - 1) entries) here.parent now ≡ all
    earliest_goes own now own_is so now_is =
        ap (earliest (back (i - 1) entries) here.parent) now_is
        ∙ sym (ap (λ b. cond b (earliest (back (i - 1) entries) here.parent (move_or here here.moved found)) (earliest (back (i - 1) entries) root found)) (sym own_is ∙ so))
        ∙ next

    pub earliest_passes : (own : Bool) → own ≡ same_root here.root root → own ≡ false → earliest (back (i - 1) entries) root found ≡ all
    earliest_passes own own_is not_so =
        sym (ap (λ b. cond b (earliest (back (i - 1) entries) here.parent (move_or here here.moved found)) (earliest (back (i - 1) entries) root found)) (sym own_is ∙ not_so))
        ∙ next

pub reach_ends : (entries : List Entry) (i : ℕ) (genesis_root ancestor root : List ℕ) (all result : Bool) → i ≡ 0 → reaches genesis_root ancestor (back i entries) root ≡ all → result ≡ same_root genesis_root ancestor → result ≡ all
unfolding reaches
reach_ends entries i genesis_root ancestor root all result none reaching is =
    is ∙ sym (ap (λ (es : List Entry). reaches genesis_root ancestor es root) (ap (λ n. back n entries) none ∙ back_none entries)) ∙ reaching

pub earliest_ends : (entries : List Entry) (i : ℕ) (root : List ℕ) (found all : Option (List ℕ × ℕ)) → i ≡ 0 → earliest (back i entries) root found ≡ all → found ≡ all
unfolding earliest
earliest_ends entries i root found all none moving =
    sym (ap (λ (es : List Entry). earliest es root found) (ap (λ n. back n entries) none ∙ back_none entries)) ∙ moving

found_first : (e : Entry) (later : List Entry) (finalized : Checkpoint) → finalizing (e ∷ later) finalized ≡ cond (same_checkpoint e.finalized finalized) (Some e.root) (finalizing later finalized)
unfolding finalizing
found_first e later finalized = elim (same_checkpoint e.finalized finalized) as (λ c. option_map (λ (x : Entry). x.root) (cond c (Some e) (find (λ (x : Entry). same_checkpoint x.finalized finalized) later)) ≡ cond c (Some e.root) (option_map (λ (x : Entry). x.root) (find (λ (x : Entry). same_checkpoint x.finalized finalized) later))) [
  | true ↦ refl
  | false ↦ refl
]

pub finalize_begins : (entries : List Entry) (finalized : Checkpoint) → finalizing (drop 0 entries) finalized ≡ finalizing entries finalized
finalize_begins [] finalized = refl
finalize_begins (e ∷ entries) finalized = refl

module _ (entries : List Entry) (i : ℕ) (d : Entry) (finalized : Checkpoint) (all : Option (List ℕ)) (less : i < length entries) (search_from : finalizing (drop i entries) finalized ≡ all) where
  abbrev there : Entry
  there = get_or entries i d

  opened : cond (same_checkpoint there.finalized finalized) (Some there.root) (finalizing (drop (i + 1) entries) finalized) ≡ all
  opened = sym (ap (λ (es : List Entry). finalizing es finalized) (drop_more entries i d less) ∙ found_first there (drop (i + 1) entries) finalized) ∙ search_from

  pub finalize_here : (is : Bool) → is ≡ same_checkpoint there.finalized finalized → is ≡ true → Some there.root ≡ all
  finalize_here is is_is so = sym (ap (λ b. cond b (Some there.root) (finalizing (drop (i + 1) entries) finalized)) (sym is_is ∙ so)) ∙ opened

  pub finalize_goes : (is : Bool) → is ≡ same_checkpoint there.finalized finalized → is ≡ false → finalizing (drop (i + 1) entries) finalized ≡ all
  finalize_goes is is_is not_so = sym (ap (λ b. cond b (Some there.root) (finalizing (drop (i + 1) entries) finalized)) (sym is_is ∙ not_so)) ∙ opened

pub finalize_ends : (entries : List Entry) (i : ℕ) (finalized : Checkpoint) → length entries ≤ i → finalizing (drop i entries) finalized ≡ None
unfolding finalizing
finalize_ends entries i finalized past = ap (λ (es : List Entry). option_map (λ (e : Entry). e.root) (find (λ (e : Entry). same_checkpoint e.finalized finalized) es)) (drop_all i entries past)

pub ruleset searching = (finalize_begins, finalize_ends)

pub ruleset walks = (back_all)
