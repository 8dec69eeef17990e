-- The blocks that a store keeps of a history: which block of it stands for a root, and what the comparison with them says of a
-- further block.
use Rattle.std.proofs.Common.{◌≡◌, ◌∙◌, ◌<◌, ◌⊎◌, inl, inr, ℕ, Bool, true, false, not, nat_lt, if◌then◌else◌, List, [], ◌∷◌, ◌++◌, Option, Some, None, is_some, refl, sym, ap, arith}
use Rattle.std.specs.List.{Contains}
use Rattle.std.specs.Option.{option_map, option_map_or, option_or}
use Rattle.std.specs.Cmp.Lexicographic.{bytes_decides}
use Rattle.std.proofs.lemmas.Bool.{false≢true, not-false, ltb-true}
use Rattle.std.proofs.lemmas.List.Folds.{find-append}
use Rattle.bc_preset.specs.declared.configuration.ConfigValues.{ConfigValues}
use Rattle.beacon_types.specs.Equality.{same_root}
use Rattle.beacon_types.specs.declared.block.BeaconBlock.{BeaconBlock}
use Rattle.spec_state.specs.declared.plain.PlainState.{PlainState}
use Rattle.spec_state.specs.Genesis.{header_root_of}
use Rattle.spec_blocks.proofs.Done.{on_the_way, chosen}
use Rattle.spec_transition.specs.ProcessSlots.{process_slots}
use Rattle.spec_transition.specs.StateTransition.{state_transition}
use Rattle.spec_fork_choice.specs.Store.{KeptBlock, block_of, is_kept}
use Rattle.spec_fork_choice.specs.SameBlock.{same_block}
use Rattle.spec_fork_choice.specs.Clash.{is_another, place_of}
use Rattle.spec_fork_choice.specs.GetForkchoiceStore.{genesis_block}
use Rattle.spec_fork_choice.proofs.SameBlock.{block_decides}
use Rattle.spec_forensics.specs.Histories.{AcceptedBlock, chain_to, state_behind, IsStepOn, IsHistory}
use Rattle.spec_forensics.specs.Clash.{kept_block, first_accepted, clash_among}
use Rattle.safety_law.specs.Histories.{HaveOneContent, NoneIsGenesis}
use Rattle.safety_law.proofs.Lists.{first_of, later_of, first_or_later, none_of_none}
use Rattle.safety_law.proofs.Chains.{no_chain, behind_block}

-- ---- looking a root up

-- the genesis block as a store keeps it
abbrev pub genesis_kept : PlainState → KeptBlock
genesis_kept genesis = record { root = header_root_of genesis; block = genesis_block genesis; state = genesis }

-- the kept blocks with one more
abbrev with_kept : List KeptBlock → KeptBlock → List KeptBlock
with_kept blocks kept = if is_kept blocks kept.root then blocks else blocks ++ kept ∷ []

one_found : (kept k : KeptBlock) (root : List ℕ) (same : Bool) → same_root kept.root root ≡ same → block_of (kept ∷ []) root ≡ Some k → (kept.root ≡ root) × (kept ≡ k)
unfolding block_of
one_found kept k root true is found = ((bytes_decides kept.root root).0 is, ap (λ (o : Option KeptBlock). option_map_or (λ (e : KeptBlock). e) o kept) (rw is at found))
one_found kept k root false is found = absurd (false≢true (ap is_some (rw is at found)))

itself : (kept : KeptBlock) (same : Bool) → same_root kept.root kept.root ≡ same → block_of (kept ∷ []) kept.root ≡ Some kept
unfolding block_of
itself kept true is = rw is refl
itself kept false is = absurd (false≢true (sym is ∙ (bytes_decides kept.root kept.root).1 refl))

or_found : (o rest : Option KeptBlock) (k : KeptBlock) → option_or o rest ≡ Some k → (o ≡ Some k) ⊎ (rest ≡ Some k)
or_found (Some x) rest k is = inl is
or_found None rest k is = inr is

behind_more : (blocks : List KeptBlock) (kept : KeptBlock) (root : List ℕ) → block_of (blocks ++ kept ∷ []) root ≡ option_or (block_of blocks root) (block_of (kept ∷ []) root)
unfolding block_of
behind_more blocks kept root = find-append (λ (e : KeptBlock). same_root e.root root) blocks (kept ∷ [])

-- what is found among the blocks with one more is one of them, or the one more
found_either : (blocks : List KeptBlock) (kept k : KeptBlock) (root : List ℕ) (here : Bool) → is_kept blocks kept.root ≡ here → block_of (with_kept blocks kept) root ≡ Some k → (block_of blocks root ≡ Some k) ⊎ ((kept.root ≡ root) × (kept ≡ k))
found_either blocks kept k root true is found = inl (rw is at found)
found_either blocks kept k root false is found = elim (or_found (block_of blocks root) (block_of (kept ∷ []) root) k (sym (behind_more blocks kept root) ∙ (let e : block_of (blocks ++ kept ∷ []) root ≡ Some k = rw is at found in e))) [
  | inl before ↦ inl before
  | inr here ↦ inr (one_found kept k root (same_root kept.root root) refl here)
]

-- what was found is still found
still_found : (blocks : List KeptBlock) (kept k : KeptBlock) (root : List ℕ) (here : Bool) → is_kept blocks kept.root ≡ here → block_of blocks root ≡ Some k → block_of (with_kept blocks kept) root ≡ Some k
still_found blocks kept k root true is found = rw is found
still_found blocks kept k root false is found = rw is (behind_more blocks kept root ∙ ap (λ (o : Option KeptBlock). option_or o (block_of (kept ∷ []) root)) found)

-- the one more is found, if its root wasn't kept; and else the kept block of its root
record Found (blocks : List KeptBlock) (kept : KeptBlock) : Type 0 where
  it : KeptBlock
  found : block_of (with_kept blocks kept) kept.root ≡ Some it
  which : (it ≡ kept) ⊎ (block_of blocks kept.root ≡ Some it)

first_some : (blocks : List KeptBlock) (kept : KeptBlock) (o : Option KeptBlock) → block_of blocks kept.root ≡ o → Found blocks kept
unfolding is_kept
first_some blocks kept (Some k) is = record { it = k; found = still_found blocks kept k kept.root true (ap is_some is) is; which = inr is }
first_some blocks kept None is = record {
  it = kept;
  found = let none : is_kept blocks kept.root ≡ false = ap is_some is in rw none (behind_more blocks kept kept.root ∙ (ap (λ (o : Option KeptBlock). option_or o (block_of (kept ∷ []) kept.root)) is ∙ itself kept (same_root kept.root kept.root) refl));
  which = inl refl;
}

-- ---- the blocks of a history

-- a block of the history, as a store keeps it
pub record IsOf (history : List AcceptedBlock) (root : List ℕ) (k : KeptBlock) : Type 0 where
  pub it : AcceptedBlock
  pub listed : Contains history it
  pub root_is : it.root ≡ root
  pub kept_is : kept_block it ≡ k

-- what is found is genesis or a block of the history
pub found_of : (genesis : PlainState) (history : List AcceptedBlock) (root : List ℕ) (k : KeptBlock) → block_of (first_accepted genesis history) root ≡ Some k → ((header_root_of genesis ≡ root) × (genesis_kept genesis ≡ k)) ⊎ IsOf history root k
unfolding first_accepted
found_of genesis [] root k found = inl (one_found (genesis_kept genesis) k root (same_root (header_root_of genesis) root) refl found)
found_of genesis (b ∷ earlier) root k found = elim (found_either (first_accepted genesis earlier) (kept_block b) k root (is_kept (first_accepted genesis earlier) b.root) refl found) [
  | inl before ↦ elim (found_of genesis earlier root k before) [
    | inl first ↦ inl first
    | inr one ↦ inr (record { it = one.it; listed = later_of b earlier one.it one.listed; root_is = one.root_is; kept_is = one.kept_is })
  ]
  | inr here ↦ inr (record { it = b; listed = first_of b earlier; root_is = here.0; kept_is = here.1 })
]

-- genesis is found by its root
pub genesis_found : (genesis : PlainState) (history : List AcceptedBlock) → block_of (first_accepted genesis history) (header_root_of genesis) ≡ Some (genesis_kept genesis)
unfolding first_accepted
genesis_found genesis [] = itself (genesis_kept genesis) (same_root (header_root_of genesis) (header_root_of genesis)) refl
genesis_found genesis (b ∷ earlier) = still_found (first_accepted genesis earlier) (kept_block b) (genesis_kept genesis) (header_root_of genesis) (is_kept (first_accepted genesis earlier) b.root) refl (genesis_found genesis earlier)

-- the root of a block of the history is found, and stands for a block of the history
pub record IsCovered (genesis : PlainState) (history : List AcceptedBlock) (root : List ℕ) : Type 0 where
  pub it : AcceptedBlock
  pub listed : Contains history it
  pub root_is : it.root ≡ root
  pub found : block_of (first_accepted genesis history) root ≡ Some (kept_block it)

pub covered : (genesis : PlainState) (history : List AcceptedBlock) (x : AcceptedBlock) → NoneIsGenesis genesis history → Contains history x → IsCovered genesis history x.root
unfolding first_accepted
covered genesis [] x none listed = absurd (none_of_none x listed)
covered genesis (b ∷ earlier) x none listed =
    let before : List KeptBlock = first_accepted genesis earlier in
    elim (first_or_later b earlier x listed) [
      | inl is ↦
          let f = first_some before (kept_block b) (block_of before b.root) refl in
          let root : b.root ≡ x.root = ap (λ (k : AcceptedBlock). k.root) is in
          elim f.which [
            | inl fresh ↦ record {
              it = b;
              listed = first_of b earlier;
              root_is = root;
              found = ap (block_of (first_accepted genesis (b ∷ earlier))) (sym root) ∙ (f.found ∙ ap Some fresh);
            }
            | inr again ↦ elim (found_of genesis earlier b.root f.it again) [
              | inl first ↦ absurd (none b (first_of b earlier) (sym first.0))
              | inr one ↦ record {
                it = one.it;
                listed = later_of b earlier one.it one.listed;
                root_is = one.root_is ∙ root;
                found = ap (block_of (first_accepted genesis (b ∷ earlier))) (sym root) ∙ (f.found ∙ ap Some (sym one.kept_is));
              }
            ]
          ]
      | inr later ↦
          let c = covered genesis earlier x (λ y h. none y (later_of b earlier y h)) later in
          record {
            it = c.it;
            listed = later_of b earlier c.it c.listed;
            root_is = c.root_is;
            found = still_found before (kept_block b) (kept_block c.it) x.root (is_kept before b.root) refl c.found;
          }
    ]

-- the state of a kept block is that behind the chain to its root
pub kept_behind : (config : ConfigValues) (genesis : PlainState) (history : List AcceptedBlock) (root : List ℕ) (k : KeptBlock) → IsHistory config genesis history → HaveOneContent history → NoneIsGenesis genesis history
    → block_of (first_accepted genesis history) root ≡ Some k → k.state ≡ state_behind genesis (chain_to history root)
kept_behind config genesis history root k past content none found = elim (found_of genesis history root k found) [
  | inl first ↦
      ap (λ (e : KeptBlock). e.state) (sym first.1)
      ∙ ap (state_behind genesis) (sym (no_chain history root (λ b listed is. none b listed (is ∙ sym first.0))))
  | inr one ↦
      ap (λ (e : KeptBlock). e.state) (sym one.kept_is)
      ∙ (sym (behind_block config genesis history one.it past content none one.listed)
      ∙ ap (λ (r : List ℕ). state_behind genesis (chain_to history r)) one.root_is)
]

-- ---- a further block

not_another : (o : Option KeptBlock) (k : KeptBlock) (block : BeaconBlock) → o ≡ Some k → is_another (option_map (λ (e : KeptBlock). e.block) o) block ≡ false → k.block ≡ block
unfolding is_another
not_another o k block is clear =
    let told : not (same_block k.block block) ≡ false = ap (λ (p : Option KeptBlock). option_map_or (λ (other : BeaconBlock). not (same_block other block)) (option_map (λ (e : KeptBlock). e.block) p) false) (sym is) ∙ clear in
    (block_decides k.block block).0 (not-false _ told)

-- where nothing clashes, the kept block of its root is the block
pub kept_same : (kept : List KeptBlock) (root : List ℕ) (block : BeaconBlock) (k : KeptBlock) → clash_among kept root block ≡ None → block_of kept root ≡ Some k → k.block ≡ block
unfolding clash_among
kept_same kept root block k clear found = elim (chosen (is_another (option_map (λ (e : KeptBlock). e.block) (block_of kept root)) block) (Some (place_of kept root)) None None clear) [
  | inl clashes ↦ absurd (false≢true (sym (ap is_some clashes.1)))
  | inr apart ↦ not_another (block_of kept root) k block found apart.0
]

-- so are the blocks of the history that have its root
pub same_content : (genesis : PlainState) (history : List AcceptedBlock) (root : List ℕ) (block : BeaconBlock) → HaveOneContent history → NoneIsGenesis genesis history → clash_among (first_accepted genesis history) root block ≡ None
    → (y : AcceptedBlock) → Contains history y → y.root ≡ root → y.block ≡ block
same_content genesis history root block content none clear y listed is =
    let c = covered genesis history y none listed in
    content y c.it listed c.listed (sym c.root_is)
    ∙ kept_same (first_accepted genesis history) root block (kept_block c.it) clear (ap (block_of (first_accepted genesis history)) (sym is) ∙ c.found)

-- a step's block is behind genesis
pub slot_is_positive : (config : ConfigValues) (genesis : PlainState) (earlier : List AcceptedBlock) (b : AcceptedBlock) → IsStepOn config genesis earlier b → 0 < b.block.slot
unfolding state_transition process_slots
slot_is_positive config genesis earlier b is =
    let s : PlainState = state_behind genesis (chain_to earlier b.block.parent_root) in
    let slots = on_the_way (process_slots s is.signed.message.slot config) _ _ is.step in
    let slot : is.signed.message.slot ≡ b.block.slot = ap (λ (k : BeaconBlock). k.slot) is.message in
    elim (chosen (not (nat_lt s.slot is.signed.message.slot)) _ _ _ slots.first) [
      | inl early ↦ absurd (let no = early.1 in cc)
      | inr later ↦ let less : s.slot < is.signed.message.slot = ltb-true _ _ (not-false _ later.0) in omega arith
    ]

-- where nothing clashes, a step's block isn't genesis
pub not_genesis : (config : ConfigValues) (genesis : PlainState) (earlier history : List AcceptedBlock) (b : AcceptedBlock) → IsStepOn config genesis earlier b → clash_among (first_accepted genesis history) b.root b.block ≡ None → b.root ≡ header_root_of genesis → ⊥
unfolding genesis_block
not_genesis config genesis earlier history b is clear same =
    let block : genesis_block genesis ≡ b.block = kept_same (first_accepted genesis history) b.root b.block (genesis_kept genesis) clear (ap (block_of (first_accepted genesis history)) same ∙ genesis_found genesis history) in
    let slot : 0 ≡ b.block.slot = ap (λ (k : BeaconBlock). k.slot) block in
    let positive = slot_is_positive config genesis earlier b is in
    absurd (omega arith)
