-- Two chains whose finalised blocks lie on no one chain share no block from the slot of the earlier one on.
use Rattle.std.proofs.Common.{◌≡◌, ◌∙◌, ℕ, ◌≤◌, inl, inr, Bool, true, false, leb, if◌then◌else◌, List, [], ◌∷◌, ◌++◌, map, refl, sym, ap, subst, arith}
use Rattle.std.specs.List.{Contains}
use Rattle.std.proofs.lemmas.Bool.{le-leb, lt-leb, cases_lt}
use Rattle.beacon_types.specs.declared.block.BeaconBlock.{BeaconBlock}
use Rattle.spec_state.specs.declared.plain.PlainState.{PlainState}
use Rattle.spec_state.specs.Genesis.{header_root_of}
use Rattle.ffg_law.specs.Links.{IsOneOf}
use Rattle.spec_forensics.specs.Histories.{AcceptedBlock}
use Rattle.spec_forensics.specs.Verdict.{roots_of}
use Rattle.safety_law.specs.Histories.{HaveOneContent, NoneIsGenesis}
use Rattle.safety_law.proofs.Lists.{first_of, of_one}
use Rattle.safety_law.proofs.Chains.{top_of, IsSound, either_chain, shorter}
use Rattle.safety_law.proofs.Goes.{up_to}

-- a root is that of a block of a chain, or that of genesis
abbrev pub IsOn : PlainState → List AcceptedBlock → List ℕ → Type 0
IsOn genesis chain root = IsOneOf root (map (λ b. b.root) chain ++ header_root_of genesis ∷ [])

pub on_chain : (genesis : PlainState) (chain : List AcceptedBlock) (root : List ℕ) → IsOn genesis chain root → Contains (roots_of genesis chain) root
unfolding roots_of
on_chain genesis chain root on = of_one (map (λ (b : AcceptedBlock). b.root) chain ++ header_root_of genesis ∷ []) root on

-- ---- parts of a chain

-- the part up to a slot, of the part up to a later one
up_to_twice : (chain : List AcceptedBlock) (low high : ℕ) → low ≤ high → up_to (up_to chain high) low ≡ up_to chain low
unfolding up_to
up_to_twice [] low high order = refl
up_to_twice (b ∷ chain) low high order = elim (cases_lt high b.block.slot) [
  | inl later ↦ rw (lt-leb b.block.slot high later, lt-leb b.block.slot low (omega arith)) (up_to_twice chain low high order)
  | inr here ↦ rw (le-leb b.block.slot high here) refl
]

pub part_sound : (genesis : PlainState) (blocks chain : List AcceptedBlock) (slot : ℕ) → IsSound genesis blocks chain → IsSound genesis blocks (up_to chain slot)
unfolding up_to
part_sound genesis blocks [] slot sound = sound
part_sound genesis blocks (b ∷ chain) slot sound = either_chain (IsSound genesis blocks) (leb b.block.slot slot) (b ∷ chain) (up_to chain slot) sound (part_sound genesis blocks chain slot (shorter genesis blocks b chain sound))

-- ---- two chains that end with one root

parts_either : (genesis : PlainState) (p q : Bool) (a b c d : List AcceptedBlock) → p ≡ q → top_of genesis a ≡ top_of genesis b → top_of genesis c ≡ top_of genesis d → top_of genesis (if p then a else c) ≡ top_of genesis (if q then b else d)
parts_either genesis true true a b c d is one other = one
parts_either genesis true false a b c d is one other = absurd cc
parts_either genesis false true a b c d is one other = absurd cc
parts_either genesis false false a b c d is one other = other

-- they have the same parts up to each slot
pub same_parts : (genesis : PlainState) (blocks one other : List AcceptedBlock) (slot : ℕ) → HaveOneContent blocks → NoneIsGenesis genesis blocks → IsSound genesis blocks one → IsSound genesis blocks other → top_of genesis one ≡ top_of genesis other
    → top_of genesis (up_to one slot) ≡ top_of genesis (up_to other slot)
unfolding up_to
same_parts genesis blocks [] [] slot content none a b same = refl
same_parts genesis blocks [] (y ∷ ys) slot content none a b same = absurd (none y (b.listed y (first_of y ys)) (sym same))
same_parts genesis blocks (x ∷ xs) [] slot content none a b same = absurd (none x (a.listed x (first_of x xs)) same)
same_parts genesis blocks (x ∷ xs) (y ∷ ys) slot content none a b same =
    let block : x.block ≡ y.block = content x y (a.listed x (first_of x xs)) (b.listed y (first_of y ys)) same in
    let rest = same_parts genesis blocks xs ys slot content none (shorter genesis blocks x xs a) (shorter genesis blocks y ys b)
    (sym a.joined.0 ∙ (ap (λ (k : BeaconBlock). k.parent_root) block ∙ b.joined.0)) in
    parts_either genesis (leb x.block.slot slot) (leb y.block.slot slot) (x ∷ xs) (y ∷ ys) (up_to xs slot) (up_to ys slot) (ap (λ (k : BeaconBlock). leb k.slot slot) block) same rest

-- they have the same roots
pub same_roots : (genesis : PlainState) (blocks one other : List AcceptedBlock) → HaveOneContent blocks → NoneIsGenesis genesis blocks → IsSound genesis blocks one → IsSound genesis blocks other → top_of genesis one ≡ top_of genesis other
    → (root : List ℕ) → IsOn genesis one root → IsOn genesis other root
same_roots genesis blocks [] [] content none a b same root h = h
same_roots genesis blocks [] (y ∷ ys) content none a b same root h = absurd (none y (b.listed y (first_of y ys)) (sym same))
same_roots genesis blocks (x ∷ xs) [] content none a b same root h = absurd (none x (a.listed x (first_of x xs)) same)
same_roots genesis blocks (x ∷ xs) (y ∷ ys) content none a b same root (inl e) = inl (sym same ∙ e)
same_roots genesis blocks (x ∷ xs) (y ∷ ys) content none a b same root (inr h) =
    let block : x.block ≡ y.block = content x y (a.listed x (first_of x xs)) (b.listed y (first_of y ys)) same in
    inr (same_roots genesis blocks xs ys content none (shorter genesis blocks x xs a) (shorter genesis blocks y ys b)
    (sym a.joined.0 ∙ (ap (λ (k : BeaconBlock). k.parent_root) block ∙ b.joined.0)) root h)

top_either : (genesis : PlainState) (choice : Bool) (b : AcceptedBlock) (chain rest : List AcceptedBlock) → IsOn genesis chain (top_of genesis rest) → IsOn genesis (b ∷ chain) (top_of genesis (if choice then b ∷ chain else rest))
top_either genesis true b chain rest h = inl refl
top_either genesis false b chain rest h = inr h

-- the block at a slot is one of the chain
pub top_on : (genesis : PlainState) (chain : List AcceptedBlock) (slot : ℕ) → IsOn genesis chain (top_of genesis (up_to chain slot))
unfolding up_to
top_on genesis [] slot = inl refl
top_on genesis (b ∷ chain) slot = top_either genesis (leb b.block.slot slot) b chain (up_to chain slot) (top_on genesis chain slot)

-- ---- what finalised blocks share

-- a chain with the slot at which it finalised a block
pub record Final (genesis : PlainState) (blocks : List AcceptedBlock) (root : List ℕ) (slot : ℕ) : Type 0 where
  pub chain : List AcceptedBlock
  pub sound : IsSound genesis blocks chain
  pub stands : root ≡ top_of genesis (up_to chain slot)

-- Where both chains have one block at a slot that isn't before the earlier finalised one, that one is on the other's chain
pub shared_is_agreed : (genesis : PlainState) (blocks : List AcceptedBlock) (root other : List ℕ) (slot high at : ℕ) → HaveOneContent blocks → NoneIsGenesis genesis blocks → (a : Final genesis blocks root slot) (b : Final genesis blocks other high)
    → slot ≤ high → slot ≤ at → top_of genesis (up_to a.chain at) ≡ top_of genesis (up_to b.chain at) → IsOn genesis (up_to b.chain high) root
shared_is_agreed genesis blocks root other slot high at content none a b order from shared =
    let one = part_sound genesis blocks a.chain at a.sound in
    let two = part_sound genesis blocks b.chain at b.sound in
    let same = same_parts genesis blocks (up_to a.chain at) (up_to b.chain at) slot content none one two shared in
    let here : root ≡ top_of genesis (up_to (up_to b.chain high) slot) =
    a.stands ∙ (ap (top_of genesis) (sym (up_to_twice a.chain slot at from)) ∙ (same ∙ (ap (top_of genesis) (up_to_twice b.chain slot at from) ∙ ap (top_of genesis) (sym (up_to_twice b.chain slot high order))))) in
    subst (IsOn genesis (up_to b.chain high)) (sym here) (top_on genesis (up_to b.chain high) slot)
