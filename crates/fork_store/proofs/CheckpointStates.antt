-- Kept states of checkpoints: what is found, keeping another one, and what the store's changes leave of them.
use Rattle.std.proofs.Common.{◌≡◌, ◌==◌, ℕ, ◌*◌, ◌^◌, ◌<◌, ◌≤◌, arith, Bool, true, false, cond, leb, filter, Option, Some, None, List, [], ◌∷◌, ◌++◌, Result, Ok, Err, refl, sym, ap, ◌∙◌, subst}
use Rattle.std.specs.Cmp.Lexicographic.{bytes_decides}
use Rattle.std.specs.List.{find, AllByRecursion}
use Rattle.std.specs.Option.{option_map, option_or, IfSome}
use Rattle.std.proofs.lemmas.Bool.{and_parts, eqb-true}
use Rattle.std.proofs.lemmas.List.Folds.{find-append}
use Rattle.std.proofs.Math.Nat.{mul-le-mul_left}
use Rattle.bc_words.specs.Outcome.{Outcome, done, refused, bind, Becomes, GivesBy}
use Rattle.bc_words.specs.declared.stop.Stop.{Stop}
use Rattle.bc_words.specs.declared.stop.NoMemory.{NoMemory}
use Rattle.bc_words.specs.declared.refusal.Refusal.{Refusal}
use Rattle.bc_words.specs.declared.refusal.Refusal.TheVariants.{FcTargetUnknown}
use Rattle.bc_preset.specs.declared.presets.Preset.{Preset}
use Rattle.bc_preset.specs.declared.configuration.ConfigValues.{ConfigValues}
use Rattle.beacon_types.specs.Equality.{same_checkpoint, same_root}
use Rattle.beacon_types.specs.declared.checkpoint.Checkpoint.{Checkpoint}
use Rattle.state_parts.proofs.Within.{all_push}
use Rattle.beacon_types.specs.declared.attestation.Attestation.{Attestation}
use Rattle.committees.specs.Committees.{Committees, committee_at}
use Rattle.spec_state.specs.declared.plain.PlainState.{PlainState}
use Rattle.spec_state.specs.Misc.{compute_epoch_at_slot}
use Rattle.spec_state.specs.inside.EpochCommittees.{epoch_committees}
use Rattle.spec_blocks.proofs.Done.{on_the_way, same_value}
use Rattle.spec_fork_choice.specs.Store.{KeptBlock, Store, block_of}
use Rattle.spec_fork_choice.specs.Slots.{start_slot_of}
use Rattle.spec_fork_choice.specs.StoreTargetCheckpointState.{kept_or, state_at, store_target_checkpoint_state}
use Rattle.fork_store.specs.inside.Kept.{CheckpointState, checkpoint_state_of, with_checkpoint_state}
use Rattle.fork_store.specs.inside.CheckpointStates.{IsStateOf, store_with, AreStatesOf}
use Rattle.fork_store.specs.inside.Votes.{attesters_among, attesters_in, attesters_of}
use Rattle.fork_store.proofs.Votes.{attesters_are}

-- ---- what holds of the one that is found

pub same_is_equal : (a b : Checkpoint) → same_checkpoint a b ≡ true → a ≡ b
same_is_equal a b is =
    let parts = and_parts (a.epoch == b.epoch) (same_root a.root b.root) is in
    let epoch : a.epoch ≡ b.epoch = eqb-true _ _ parts.0 in
    let root : a.root ≡ b.root = (bytes_decides _ _).0 parts.1 in
    λ i. record { epoch = epoch i; root = root i }

abbrev IfFound : (CheckpointState → Type 0) → Checkpoint → Option CheckpointState → Type 0
IfFound P checkpoint (Some kept) = P kept × (kept.checkpoint ≡ checkpoint)
IfFound P checkpoint None = Unit {0}

one_of : (P : CheckpointState → Type 0) (checkpoint : Checkpoint) (test : Bool) (kept : CheckpointState) (later : Option CheckpointState) → (test ≡ true → kept.checkpoint ≡ checkpoint) → P kept → IfFound P checkpoint later → IfFound P checkpoint (cond test (Some kept) later)
one_of P checkpoint true kept later same here there = (here, same refl)
one_of P checkpoint false kept later same here there = there

found_of : (P : CheckpointState → Type 0) (states : List CheckpointState) (checkpoint : Checkpoint) → AllByRecursion P states → IfFound P checkpoint (checkpoint_state_of states checkpoint)
unfolding checkpoint_state_of
found_of P [] checkpoint all = tt
found_of P (kept ∷ states) checkpoint all = one_of P checkpoint (same_checkpoint kept.checkpoint checkpoint) kept (checkpoint_state_of states checkpoint) (same_is_equal kept.checkpoint checkpoint) all.0 (found_of P states checkpoint all.1)

-- ---- the state of a checkpoint is made of configuration and blocks alone

same_target : (store : Store) (checkpoint : Checkpoint) → store_target_checkpoint_state (store_with store.config store.blocks) checkpoint ≡ store_target_checkpoint_state store checkpoint
unfolding store_target_checkpoint_state state_at
same_target store checkpoint = refl

pub of_store : (store : Store) (kept : CheckpointState) → IsStateOf (store_with store.config store.blocks) kept → IsStateOf store kept
of_store store kept is = record {
  same = sym (same_target store kept.checkpoint) ∙ is.same;
  sound = is.sound;
  preset = is.preset;
}

pub of_parts : (store : Store) (kept : CheckpointState) → IsStateOf store kept → IsStateOf (store_with store.config store.blocks) kept
of_parts store kept is = record {
  same = same_target store kept.checkpoint ∙ is.same;
  sound = is.sound;
  preset = is.preset;
}

-- the state that is kept of a checkpoint is its own
found_is : (store : Store) (states : List CheckpointState) (checkpoint : Checkpoint) (kept : CheckpointState) → AreStatesOf store.config store.blocks states → Some kept ≡ checkpoint_state_of states checkpoint → IsStateOf store kept × (kept.checkpoint ≡ checkpoint)
found_is store states checkpoint kept all is =
    let found = subst (IfFound (IsStateOf (store_with store.config store.blocks)) checkpoint) (sym is) (found_of (IsStateOf (store_with store.config store.blocks)) states checkpoint all) in
    (of_store store kept found.0, found.1)

-- whatever it is read from
pub found_own : {X : Type 0} (view : X → CheckpointState) (found : Option X) (store : Store) (states : List CheckpointState) (checkpoint : Checkpoint) → AreStatesOf store.config store.blocks states → option_map view found ≡ checkpoint_state_of states checkpoint → IfSome found (λ x. IsStateOf store (view x))
found_own view (Some x) store states checkpoint all is = (found_is store states checkpoint (view x) all is).0
found_own view None store states checkpoint all is = tt

pub found_at : {X : Type 0} (view : X → CheckpointState) (found : Option X) (store : Store) (states : List CheckpointState) (checkpoint : Checkpoint) → AreStatesOf store.config store.blocks states → option_map view found ≡ checkpoint_state_of states checkpoint → IfSome found (λ x. (view x).checkpoint ≡ checkpoint)
found_at view (Some x) store states checkpoint all is = (found_is store states checkpoint (view x) all is).1
found_at view None store states checkpoint all is = tt

-- ---- another one is kept

chosen_all : {A : Type 0} (P : A → Type 0) (test : Bool) (x : A) (xs : List A) → P x → AllByRecursion P xs → AllByRecursion P (cond test (x ∷ xs) xs)
chosen_all P true x xs here there = (here, there)
chosen_all P false x xs here there = there

all_filter : {A : Type 0} (P : A → Type 0) (test : A → Bool) (xs : List A) → AllByRecursion P xs → AllByRecursion P (filter test xs)
all_filter P test [] all = tt
all_filter P test (x ∷ xs) all = chosen_all P (test x) x (filter test xs) all.0 (all_filter P test xs all.1)

kept_with : (store : Store) (states : List CheckpointState) (epoch : ℕ) (kept : CheckpointState) → AreStatesOf store.config store.blocks states → IsStateOf store kept → AreStatesOf store.config store.blocks (with_checkpoint_state states epoch kept)
unfolding with_checkpoint_state
kept_with store states epoch kept all is =
    let P : CheckpointState → Type 0 = IsStateOf (store_with store.config store.blocks) in
    all_filter P (λ k. leb epoch k.checkpoint.epoch) (states ++ kept ∷ []) (all_push P states kept all (of_parts store kept is))

pub kept_or_not : {U : Type 0} (result : Result U NoMemory) (store : Store) (states new : List CheckpointState) (epoch : ℕ) (kept : CheckpointState) → Becomes result states new (with_checkpoint_state states epoch kept) → AreStatesOf store.config store.blocks states → IsStateOf store kept → AreStatesOf store.config store.blocks new
kept_or_not (Ok x) store states new epoch kept is all own = subst (AreStatesOf store.config store.blocks) (sym is) (kept_with store states epoch kept all own)
kept_or_not (Err stop) store states new epoch kept is all own = subst (AreStatesOf store.config store.blocks) (sym is) all

-- ---- another block is kept

found_first : (blocks later : List KeptBlock) (root : List ℕ) (kept : KeptBlock) → block_of blocks root ≡ Some kept → block_of (blocks ++ later) root ≡ Some kept
unfolding block_of
found_first blocks later root kept is =
    find-append (λ k. same_root k.root root) blocks later
    ∙ ap (λ (o : Option KeptBlock). option_or o (find (λ k. same_root k.root root) later)) is

-- what is kept of a root, where it is kept
not_done : (why : Refusal) (kept : KeptBlock) → refused why ≡ done kept → ⊥
not_done why kept is = cc

is_some_kept : (why : Refusal) (found : Option KeptBlock) (kept : KeptBlock) → kept_or why found ≡ done kept → found ≡ Some kept
unfolding kept_or
is_some_kept why (Some x) kept is = ap Some (same_value x kept is)
is_some_kept why None kept is = absurd (not_done why kept is)

target_stays : (config : ConfigValues) (blocks later : List KeptBlock) (checkpoint : Checkpoint) (state : PlainState) → store_target_checkpoint_state (store_with config blocks) checkpoint ≡ done state → store_target_checkpoint_state (store_with config (blocks ++ later)) checkpoint ≡ done state
unfolding store_target_checkpoint_state state_at kept_or
target_stays config blocks later checkpoint state is =
    let kept = on_the_way (kept_or FcTargetUnknown (block_of blocks checkpoint.root)) _ state is in
    let there : block_of blocks checkpoint.root ≡ Some kept.value = is_some_kept FcTargetUnknown (block_of blocks checkpoint.root) kept.value kept.first in
    ap (λ (o : Option KeptBlock). bind (kept_or FcTargetUnknown o) (λ k. state_at (store_with config blocks) k.state (start_slot_of (store_with config blocks) checkpoint))) (found_first blocks later checkpoint.root kept.value there)
    ∙ kept.then_done

states_stay_behind : (config : ConfigValues) (blocks later : List KeptBlock) (states : List CheckpointState) → AreStatesOf config blocks states → AreStatesOf config (blocks ++ later) states
states_stay_behind config blocks later [] all = tt
states_stay_behind config blocks later (kept ∷ states) all = (
  record {
    same = target_stays config blocks later kept.checkpoint kept.state all.0.same;
    sound = all.0.sound;
    preset = all.0.preset;
  },
  states_stay_behind config blocks later states all.1,
)

-- the kept states stay those of their checkpoints, whether the block was kept or wasn't for want of memory
pub states_stay : {U : Type 0} (result : Result U NoMemory) (config : ConfigValues) (blocks new : List KeptBlock) (kept : KeptBlock) (states : List CheckpointState) → Becomes result blocks new (blocks ++ kept ∷ []) → AreStatesOf config blocks states → AreStatesOf config new states
states_stay (Ok x) config blocks new kept states is all = subst (λ (l : List KeptBlock). AreStatesOf config l states) (sym is) (states_stay_behind config blocks (kept ∷ []) states all)
states_stay (Err stop) config blocks new kept states is all = subst (λ (l : List KeptBlock). AreStatesOf config l states) (sym is) all

-- ---- the epoch of a checkpoint that begins at a slot of 64 bits

pub epoch_is_low : (epoch slots : ℕ) → epoch * slots < 2 ^ 64 → 8 ≤ slots → epoch ≤ 2 ^ 61
epoch_is_low epoch slots fits many = omega (arith, fits, many, mul-le-mul_left {m = 8} {n = slots} epoch many)

-- ---- the attesters by a kept state and its committees

pub attesters_by_kept : {X : Type 0} (view : X → List ℕ) (result : Result X Stop) (store : Store) (kept : CheckpointState) (attestation : Attestation) (committees : Committees)
    → compute_epoch_at_slot store.config.preset attestation.content.slot ≡ attestation.content.target.epoch
    → IsStateOf store kept
    → kept.checkpoint ≡ attestation.content.target
    → committees ≡ epoch_committees kept.state kept.checkpoint.epoch
    → GivesBy view result (attesters_among (committee_at committees attestation.content.slot attestation.content.index) attestation.aggregation_bits)
    → GivesBy view result (attesters_of store attestation)
unfolding attesters_of
attesters_by_kept view result store kept attestation committees epoch own target is given =
    let at_target : store_target_checkpoint_state store attestation.content.target ≡ done kept.state = ap (store_target_checkpoint_state store) (sym target) ∙ own.same in
    let by_state : attesters_of store attestation ≡ attesters_in kept.state attestation = ap (λ (o : Outcome PlainState). bind o (λ s. attesters_in s attestation)) at_target in
    let same_epoch : compute_epoch_at_slot kept.state.preset attestation.content.slot ≡ attestation.content.target.epoch = ap (λ (p : Preset). compute_epoch_at_slot p attestation.content.slot) own.preset ∙ epoch in
    let same_committees : committees ≡ epoch_committees kept.state attestation.content.target.epoch = is ∙ ap (λ (c : Checkpoint). epoch_committees kept.state c.epoch) target in
    subst (GivesBy view result) (sym by_state) (attesters_are view result kept.state attestation committees same_epoch same_committees given)
