-- The chains of a history: each block of a chain is a step of the state behind the one before it, and two chains that end with one
-- root have one state behind them.
use Rattle.std.proofs.Common.{◌≡◌, ◌∙◌, ◌⊎◌, inl, inr, ℕ, Bool, true, false, if◌then◌else◌, List, [], ◌∷◌, map, refl, sym, ap, subst}
use Rattle.std.specs.List.{Contains}
use Rattle.std.specs.Cmp.Lexicographic.{bytes_decides}
use Rattle.std.proofs.lemmas.Bool.{false≢true}
use Rattle.bc_words.specs.Outcome.{done}
use Rattle.bc_preset.specs.declared.configuration.ConfigValues.{ConfigValues}
use Rattle.beacon_types.specs.Equality.{same_root}
use Rattle.beacon_types.specs.declared.block.BeaconBlock.{BeaconBlock}
use Rattle.beacon_types.specs.declared.signed_block.SignedBeaconBlock.{SignedBeaconBlock}
use Rattle.spec_state.specs.declared.plain.PlainState.{PlainState}
use Rattle.spec_state.specs.Genesis.{header_root_of}
use Rattle.spec_blocks.proofs.Done.{same_value}
use Rattle.spec_transition.specs.ProcessSlots.{Stepped}
use Rattle.spec_transition.specs.StateTransition.{state_transition}
use Rattle.spec_forensics.specs.Histories.{AcceptedBlock, chain_to, state_behind, IsStepOn, IsHistory}
use Rattle.safety_law.specs.Histories.{HaveOneContent, NoneIsGenesis}
use Rattle.safety_law.proofs.Lists.{first_of, later_of, first_or_later, none_of_none, image_of}

-- the root of a chain's latest block
abbrev pub top_of : PlainState → List AcceptedBlock → List ℕ
top_of genesis [] = header_root_of genesis
top_of genesis (b ∷ chain) = b.root

-- each block's parent is the one before it
abbrev pub IsJoined : PlainState → List AcceptedBlock → Type 0
IsJoined genesis [] = Unit {0}
IsJoined genesis (b ∷ chain) = (b.block.parent_root ≡ top_of genesis chain) × IsJoined genesis chain

-- the blocks of a chain are of a list
abbrev pub AreOf : List AcceptedBlock → List AcceptedBlock → Type 0
AreOf blocks chain = (b : AcceptedBlock) → Contains chain b → Contains blocks b

-- a chain of blocks of a list, each joined to the one before it
pub record IsSound (genesis : PlainState) (blocks chain : List AcceptedBlock) : Type 0 where
  pub joined : IsJoined genesis chain
  pub listed : AreOf blocks chain

-- a root is that of genesis or of a block
abbrev pub IsKnown : PlainState → List AcceptedBlock → List ℕ → Type 0
IsKnown genesis blocks root = (root ≡ header_root_of genesis) ⊎ Contains (map (λ b. b.root) blocks) root

-- ---- the chain to a root

top_first : (genesis : PlainState) (b : AcceptedBlock) (blocks : List AcceptedBlock) (root : List ℕ) (same : Bool) → same_root b.root root ≡ same → IsKnown genesis (b ∷ blocks) root
    → (IsKnown genesis blocks root → top_of genesis (chain_to blocks root) ≡ root) → top_of genesis (chain_to (b ∷ blocks) root) ≡ root
unfolding chain_to
top_first genesis b blocks root true is known rest = rw is ((bytes_decides b.root root).0 is)
top_first genesis b blocks root false is known rest = rw is (rest (elim known [
  | inl first ↦ inl first
  | inr listed ↦ elim (first_or_later b.root (map (λ (e : AcceptedBlock). e.root) blocks) root listed) [
    | inl here ↦ absurd (false≢true (sym is ∙ (bytes_decides b.root root).1 here))
    | inr later ↦ inr later
  ]
]))

-- the chain to a known root ends with it
pub top_is : (genesis : PlainState) (blocks : List AcceptedBlock) (root : List ℕ) → IsKnown genesis blocks root → top_of genesis (chain_to blocks root) ≡ root
unfolding chain_to
top_is genesis [] root (inl is) = sym is
top_is genesis [] root (inr listed) = absurd (none_of_none root listed)
top_is genesis (b ∷ blocks) root known = top_first genesis b blocks root (same_root b.root root) refl known (top_is genesis blocks root)

-- one of two chains
pub either_chain : (P : List AcceptedBlock → Type 0) (choice : Bool) (xs ys : List AcceptedBlock) → P xs → P ys → P (if choice then xs else ys)
either_chain P true xs ys one other = one
either_chain P false xs ys one other = other

pub chain_joined : (config : ConfigValues) (genesis : PlainState) (blocks : List AcceptedBlock) (root : List ℕ) → IsHistory config genesis blocks → IsJoined genesis (chain_to blocks root)
unfolding chain_to
chain_joined config genesis [] root history = tt
chain_joined config genesis (b ∷ blocks) root history =
    either_chain (IsJoined genesis) (same_root b.root root) (b ∷ chain_to blocks b.block.parent_root) (chain_to blocks root)
    (sym (top_is genesis blocks b.block.parent_root history.0.parent), chain_joined config genesis blocks b.block.parent_root history.1)
    (chain_joined config genesis blocks root history.1)

pub chain_listed : (blocks : List AcceptedBlock) (root : List ℕ) → AreOf blocks (chain_to blocks root)
unfolding chain_to
chain_listed [] root = λ b listed. listed
chain_listed (e ∷ earlier) root =
    either_chain (AreOf (e ∷ earlier)) (same_root e.root root) (e ∷ chain_to earlier e.block.parent_root) (chain_to earlier root)
    (λ b listed. elim (first_or_later e (chain_to earlier e.block.parent_root) b listed) [
      | inl is ↦ subst (Contains (e ∷ earlier)) is (first_of e earlier)
      | inr later ↦ later_of e earlier b (chain_listed earlier e.block.parent_root b later)
    ])
    (λ b listed. later_of e earlier b (chain_listed earlier root b listed))

pub chain_sound : (config : ConfigValues) (genesis : PlainState) (blocks : List AcceptedBlock) (root : List ℕ) → IsHistory config genesis blocks → IsSound genesis blocks (chain_to blocks root)
chain_sound config genesis blocks root history = record { joined = chain_joined config genesis blocks root history; listed = chain_listed blocks root }

pub shorter : (genesis : PlainState) (blocks : List AcceptedBlock) (b : AcceptedBlock) (chain : List AcceptedBlock) → IsSound genesis blocks (b ∷ chain) → IsSound genesis blocks chain
shorter genesis blocks b chain sound = record { joined = sound.joined.1; listed = λ c listed. sound.listed c (later_of b chain c listed) }

-- the chain to a root that no block has is empty
none_first : (b : AcceptedBlock) (blocks : List AcceptedBlock) (root : List ℕ) (same : Bool) → same_root b.root root ≡ same → (b.root ≡ root → ⊥) → chain_to blocks root ≡ [] → chain_to (b ∷ blocks) root ≡ []
unfolding chain_to
none_first b blocks root true is other rest = absurd (other ((bytes_decides b.root root).0 is))
none_first b blocks root false is other rest = rw is rest

pub no_chain : (blocks : List AcceptedBlock) (root : List ℕ) → ((b : AcceptedBlock) → Contains blocks b → b.root ≡ root → ⊥) → chain_to blocks root ≡ []
unfolding chain_to
no_chain [] root none = refl
no_chain (b ∷ blocks) root none = none_first b blocks root (same_root b.root root) refl (none b (first_of b blocks)) (no_chain blocks root (λ c listed. none c (later_of b blocks c listed)))

-- ---- steps

-- signatures don't count
unsigned : (s : PlainState) (a b : SignedBeaconBlock) (config : ConfigValues) → a.message ≡ b.message → state_transition s a config ≡ state_transition s b config
unfolding state_transition
unsigned s a b config same = ap (λ (m : BeaconBlock). state_transition s (record { message = m; signature = [] }) config) same

-- a block is a step of a state
pub record IsStep (config : ConfigValues) (s : PlainState) (b : AcceptedBlock) : Type 0 where
  pub signed : SignedBeaconBlock
  pub message : signed.message ≡ b.block
  pub step : state_transition s signed config ≡ done (record { state = b.state; entered = b.entered })

pub step_of : (config : ConfigValues) (genesis : PlainState) (earlier : List AcceptedBlock) (b : AcceptedBlock) → IsStepOn config genesis earlier b → IsStep config (state_behind genesis (chain_to earlier b.block.parent_root)) b
step_of config genesis earlier b is = record { signed = is.signed; message = is.message; step = is.step }

-- each block of a chain is a step of the state behind the one before it
abbrev pub IsStepped : ConfigValues → PlainState → List AcceptedBlock → Type 0
IsStepped config genesis [] = Unit {0}
IsStepped config genesis (b ∷ chain) = IsStep config (state_behind genesis chain) b × IsStepped config genesis chain

pub chain_stepped : (config : ConfigValues) (genesis : PlainState) (blocks : List AcceptedBlock) (root : List ℕ) → IsHistory config genesis blocks → IsStepped config genesis (chain_to blocks root)
unfolding chain_to
chain_stepped config genesis [] root history = tt
chain_stepped config genesis (b ∷ earlier) root history =
    either_chain (IsStepped config genesis) (same_root b.root root) (b ∷ chain_to earlier b.block.parent_root) (chain_to earlier root)
    (step_of config genesis earlier b history.0, chain_stepped config genesis earlier b.block.parent_root history.1)
    (chain_stepped config genesis earlier root history.1)

-- one block on one state gives one state
same_step : (config : ConfigValues) (s t : PlainState) (a b : AcceptedBlock) → s ≡ t → a.block ≡ b.block → IsStep config s a → IsStep config t b → a.state ≡ b.state
same_step config s t a b same block one other =
    let first : state_transition t one.signed config ≡ done (record { state = a.state; entered = a.entered }) = subst (λ (x : PlainState). state_transition x one.signed config ≡ done (record { state = a.state; entered = a.entered })) same one.step in
    ap (λ (x : Stepped). x.state) (same_value (record { state = a.state; entered = a.entered }) (record { state = b.state; entered = b.entered }) (sym first ∙ (unsigned t one.signed other.signed config (one.message ∙ (block ∙ sym other.message)) ∙ other.step)))

-- the states behind two chains that end with one root are the same
pub same_behind : (config : ConfigValues) (genesis : PlainState) (blocks one other : List AcceptedBlock) → HaveOneContent blocks → NoneIsGenesis genesis blocks → IsSound genesis blocks one → IsSound genesis blocks other
    → IsStepped config genesis one → IsStepped config genesis other → top_of genesis one ≡ top_of genesis other → state_behind genesis one ≡ state_behind genesis other
same_behind config genesis blocks [] [] content none a b s t same = refl
same_behind config genesis blocks [] (y ∷ ys) content none a b s t same = absurd (none y (b.listed y (first_of y ys)) (sym same))
same_behind config genesis blocks (x ∷ xs) [] content none a b s t same = absurd (none x (a.listed x (first_of x xs)) same)
same_behind config genesis blocks (x ∷ xs) (y ∷ ys) content none a b s t same =
    let block : x.block ≡ y.block = content x y (a.listed x (first_of x xs)) (b.listed y (first_of y ys)) same in
    let rest = same_behind config genesis blocks xs ys content none (shorter genesis blocks x xs a) (shorter genesis blocks y ys b) s.1 t.1
    (sym a.joined.0 ∙ (ap (λ (k : BeaconBlock). k.parent_root) block ∙ b.joined.0)) in
    same_step config (state_behind genesis xs) (state_behind genesis ys) x y rest block s.0 t.0

-- ---- the state behind a block

-- a block of the history stands on what was there before it
record Stood (config : ConfigValues) (genesis : PlainState) (history : List AcceptedBlock) (x : AcceptedBlock) : Type 0 where
  earlier : List AcceptedBlock
  past : IsHistory config genesis earlier
  step : IsStepOn config genesis earlier x
  listed : AreOf history earlier

stood : (config : ConfigValues) (genesis : PlainState) (history : List AcceptedBlock) (x : AcceptedBlock) → IsHistory config genesis history → Contains history x → Stood config genesis history x
stood config genesis [] x past listed = absurd (none_of_none x listed)
stood config genesis (b ∷ earlier) x past listed = elim (first_or_later b earlier x listed) [
  | inl is ↦ record { earlier = earlier; past = past.1; step = subst (IsStepOn config genesis earlier) is past.0; listed = λ y h. later_of b earlier y h }
  | inr later ↦ let r = stood config genesis earlier x past.1 later in record { earlier = r.earlier; past = r.past; step = r.step; listed = λ y h. later_of b earlier y (r.listed y h) }
]

-- the state behind the chain to a block of the history is the block's
pub behind_block : (config : ConfigValues) (genesis : PlainState) (history : List AcceptedBlock) (x : AcceptedBlock) → IsHistory config genesis history → HaveOneContent history → NoneIsGenesis genesis history → Contains history x
    → state_behind genesis (chain_to history x.root) ≡ x.state
behind_block config genesis history x past content none listed =
    let r = stood config genesis history x past listed in
    let parent : List ℕ = x.block.parent_root in
    let before : List AcceptedBlock = chain_to r.earlier parent in
    let known : IsKnown genesis history x.root = inr (image_of (λ (b : AcceptedBlock). b.root) history x listed) in
    let other : IsSound genesis history (x ∷ before) = record {
      joined = (sym (top_is genesis r.earlier parent r.step.parent), chain_joined config genesis r.earlier parent r.past);
      listed = λ b h. elim (first_or_later x before b h) [ inl is ↦ subst (Contains history) is listed | inr more ↦ r.listed b (chain_listed r.earlier parent b more) ];
    } in
    same_behind config genesis history (chain_to history x.root) (x ∷ before) content none (chain_sound config genesis history x.root past) other
    (chain_stepped config genesis history x.root past)
    (step_of config genesis r.earlier x r.step, chain_stepped config genesis r.earlier parent r.past)
    (top_is genesis history x.root known)
