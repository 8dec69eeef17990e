-- An accepted event leaves the configuration, and the states that are kept.
use Rattle.std.proofs.Common.{◌≡◌, ◌∙◌, ℕ, Bool, true, false, List, [], ◌∷◌, ◌++◌, length, fold, Option, Some, None, Result, Ok, Err, IfOk, is_some, if◌then◌else◌, nat_lt, not, ◌==◌, refl, sym, ap, subst, inl, inr}
use Rattle.std.specs.Cmp.Lexicographic.{bytes_decides}
use Rattle.bc_words.specs.Outcome.{Outcome, done, refused, limited}
use Rattle.bc_words.specs.Events.{EventOutcome, accepted, event_refused, event_limited, event_clashes, then_event, on_the_way as way_to}
use Rattle.bc_words.specs.declared.refusal.Refusal.TheVariants.{TickBack, FcEmpty, AsData, IndexRange}
use Rattle.bc_words.specs.declared.store_stop.ClashKind.{ClashKind}
use Rattle.bc_words.specs.declared.store_stop.StoreStop.{StoreStop}
use Rattle.bc_preset.specs.declared.configuration.ConfigValues.{ConfigValues}
use Rattle.beacon_types.specs.Equality.{same_root}
use Rattle.beacon_types.specs.Slashable.{is_slashable_attestation_data}
use Rattle.beacon_types.specs.declared.attestation.Attestation.{Attestation}
use Rattle.beacon_types.specs.declared.attester_slashing.AttesterSlashing.{AttesterSlashing}
use Rattle.beacon_types.specs.declared.block.BeaconBlock.{BeaconBlock}
use Rattle.beacon_types.specs.declared.signed_block.SignedBeaconBlock.{SignedBeaconBlock}
use Rattle.beacon_types.specs.Blocks.{signed_block_codec, attestation_codec, attester_slashing_codec}
use Rattle.beacon_types.specs.declared.checkpoint.Checkpoint.{Checkpoint}
use Rattle.spec_state.specs.declared.plain.PlainState.{PlainState}
use Rattle.spec_state.specs.Genesis.{header_root_of}
use Rattle.spec_state.specs.Accessors.{get_attesting_indices}
use Rattle.spec_blocks.specs.Checks.{check}
use Rattle.spec_blocks.specs.IsValidIndexedAttestation.{is_valid_indexed_attestation}
use Rattle.spec_blocks.specs.ProcessAttesterSlashing.{in_both}
use Rattle.spec_blocks.proofs.Done.{on_the_way, chosen, same_value}
use Rattle.spec_transition.specs.ProcessSlots.{Stepped}
use Rattle.spec_fork_choice.specs.Store.{KeptBlock, LatestMessage, Store, block_of, is_equivocating, is_kept}
use Rattle.spec_fork_choice.specs.Slots.{get_current_slot}
use Rattle.spec_fork_choice.specs.ShouldUpdateJustifiedCheckpoint.{should_update_justified_checkpoint}
use Rattle.spec_fork_choice.specs.OnTick.{on_tick, in_new_slot, in_new_epoch}
use Rattle.spec_fork_choice.specs.OnBlock.{BlockIn, block_step, accept_block, on_block, with_accepted, with_block, with_boost, with_justified, with_better_justified, with_best_justified, with_finalized}
use Rattle.spec_fork_choice.specs.OnEvent.{Accepted, without_block, handle_tick, handle_block, handle_attestation, handle_attester_slashing, on_event}
use Rattle.spec_fork_choice.specs.UpdateLatestMessages.{update_latest_message, update_latest_messages}
use Rattle.spec_fork_choice.specs.StoreTargetCheckpointState.{kept_or, store_target_checkpoint_state}
use Rattle.spec_fork_choice.specs.ValidateOnAttestation.{validate_on_attestation}
use Rattle.spec_fork_choice.specs.OnAttestation.{check_target_committee, on_attestation}
use Rattle.spec_fork_choice.specs.OnAttesterSlashing.{with_equivocating, on_attester_slashing}
use Rattle.spec_fork_choice.proofs.Blocks.{tick_blocks, vote_blocks, slashing_blocks, accepted_blocks}
use Rattle.fork_store.specs.Events.{Accepts, AcceptsBy, accepted_of}
use Rattle.fork_store.specs.declared.on_event.Accepted as handlers
use Rattle.fork_store.specs.KeptStates.{KeepsState, KeepsStates}
use Rattle.fork_store.proofs.ChainBlocks.{found_more}

-- ---- the configuration

either_config : (choice : Bool) (x y : Store) (config : ConfigValues) → x.config ≡ config → y.config ≡ config → (if choice then x else y).config ≡ config
either_config true x y config h k = h
either_config false x y config h k = k

new_epoch_config : (store : Store) → (in_new_epoch store).config ≡ store.config
unfolding in_new_epoch
new_epoch_config store = either_config _ _ _ store.config refl refl

new_slot_config : (store : Store) → (in_new_slot store).config ≡ store.config
unfolding in_new_slot
new_slot_config store = either_config _ _ _ store.config (new_epoch_config _) refl

tick_config : (old new : Store) (time : ℕ) → on_tick old time ≡ done new → new.config ≡ old.config
unfolding on_tick
tick_config old new time is =
    let at_time : Store = record old { time = time } in
    elim (chosen (nat_lt time old.time) (refused TickBack) (done (if nat_lt (get_current_slot old) (get_current_slot at_time) then in_new_slot at_time else at_time)) (done new) is) [
      | inl back ↦ let no = back.1 in cc
      | inr on ↦
          ap (λ (s : Store). s.config) (sym (same_value (if nat_lt (get_current_slot old) (get_current_slot at_time) then in_new_slot at_time else at_time) new on.1))
          ∙ either_config (nat_lt (get_current_slot old) (get_current_slot at_time)) (in_new_slot at_time) at_time old.config (new_slot_config at_time) refl
    ]

best_config : (store : Store) (checkpoint : Checkpoint) → (with_best_justified store checkpoint).config ≡ store.config
unfolding with_best_justified
best_config store checkpoint = either_config _ _ _ store.config refl refl

better_config : (store : Store) (checkpoint : Checkpoint) → (with_better_justified store checkpoint).config ≡ store.config
unfolding with_better_justified
better_config store checkpoint =
    let best_store : Store = with_best_justified store checkpoint in
    either_config (should_update_justified_checkpoint best_store checkpoint) (record best_store { justified_checkpoint = checkpoint }) best_store store.config
    (best_config store checkpoint) (best_config store checkpoint)

justified_config : (store : Store) (state : PlainState) → (with_justified store state).config ≡ store.config
unfolding with_justified
justified_config store state = either_config _ _ _ store.config (better_config store _) refl

finalized_config : (store : Store) (state : PlainState) → (with_finalized store state).config ≡ store.config
unfolding with_finalized
finalized_config store state = either_config _ _ _ store.config refl refl

boosted_config : (store : Store) (kept : KeptBlock) → (with_boost store kept).config ≡ store.config
unfolding with_boost
boosted_config store kept = either_config _ _ _ store.config refl refl

block_config : (store : Store) (kept : KeptBlock) → (with_block store kept).config ≡ store.config
unfolding with_block
block_config store kept = either_config _ _ _ store.config refl refl

pub accepted_config : (store : Store) (kept : KeptBlock) → (with_accepted store kept).config ≡ store.config
unfolding with_accepted
accepted_config store kept =
    finalized_config (with_justified (with_boost (with_block store kept) kept) kept.state) kept.state
    ∙ (justified_config (with_boost (with_block store kept) kept) kept.state ∙ (boosted_config (with_block store kept) kept ∙ block_config store kept))

message_config : (old : Store) (latest : LatestMessage) (validator : ℕ) → (update_latest_message old latest validator).config ≡ old.config
unfolding update_latest_message
message_config old latest validator = either_config _ _ _ old.config refl refl

messages_config : (old : Store) (latest : LatestMessage) (validators : List ℕ) → (fold (λ store validator. update_latest_message store latest validator) old validators).config ≡ old.config
messages_config old latest [] = refl
messages_config old latest (validator ∷ validators) = messages_config (update_latest_message old latest validator) latest validators ∙ message_config old latest validator

vote_config : (old new : Store) (attestation : Attestation) (from_block : Bool) → on_attestation old attestation from_block ≡ done new → new.config ≡ old.config
unfolding on_attestation update_latest_messages
vote_config old new attestation from_block is =
    let valid = on_the_way (validate_on_attestation old attestation from_block) _ new is in
    let target = on_the_way (store_target_checkpoint_state old attestation.content.target) _ new valid.then_done in
    let committee = on_the_way (check_target_committee target.value attestation) _ new target.then_done in
    let attesting = get_attesting_indices target.value attestation.content attestation.aggregation_bits in
    let somebody = on_the_way (check (not (length attesting == 0)) FcEmpty) _ new committee.then_done in
    ap (λ (s : Store). s.config) (sym (same_value (update_latest_messages old attesting attestation) new somebody.then_done))
    ∙ messages_config old (record { epoch = attestation.content.target.epoch; root = attestation.content.beacon_block_root }) attesting

equivocating_config : (old : Store) (indices : List ℕ) → (fold with_equivocating old indices).config ≡ old.config
unfolding with_equivocating
equivocating_config old [] = refl
equivocating_config old (index ∷ indices) = equivocating_config (with_equivocating old index) indices ∙ either_config (is_equivocating old index) old _ old.config refl refl

slashing_config : (old new : Store) (slashing : AttesterSlashing) → on_attester_slashing old slashing ≡ done new → new.config ≡ old.config
unfolding on_attester_slashing
slashing_config old new slashing is =
    let slashable = on_the_way (check (is_slashable_attestation_data slashing.attestation_1.content slashing.attestation_2.content) AsData) _ new is in
    let justified = on_the_way (kept_or IndexRange (block_of old.blocks old.justified_checkpoint.root)) _ new slashable.then_done in
    let first = on_the_way (is_valid_indexed_attestation justified.value.state slashing.attestation_1) _ new justified.then_done in
    let second = on_the_way (is_valid_indexed_attestation justified.value.state slashing.attestation_2) _ new first.then_done in
    let both = in_both slashing.attestation_1.attesting_indices slashing.attestation_2.attesting_indices in
    ap (λ (s : Store). s.config) (sym (same_value (fold with_equivocating old both) new second.then_done)) ∙ equivocating_config old both

-- ---- the states

same_states : (old new : Store) → new.config ≡ old.config → new.blocks ≡ old.blocks → KeepsStates old new
same_states old new config blocks = record {
  config = config;
  states = λ root state is. record { kept = is.kept; found = ap (λ (b : List KeptBlock). block_of b root) blocks ∙ is.found; same = is.same };
}

pub no_change : (store : Store) → KeepsStates store store
no_change store = same_states store store refl refl

one_more : (store : Store) (kept : KeptBlock) → KeepsStates store (record store { blocks = store.blocks ++ kept ∷ [] })
one_more store kept = record {
  config = refl;
  states = λ root state is. record { kept = is.kept; found = found_more store.blocks kept root is.kept is.found; same = is.same };
}

either_more : (choice : Bool) (store : Store) (kept : KeptBlock) → KeepsStates store (if choice then store else record store { blocks = store.blocks ++ kept ∷ [] })
either_more true store kept = no_change store
either_more false store kept = one_more store kept

with_block_keeps : (store : Store) (kept : KeptBlock) → KeepsStates store (with_block store kept)
unfolding with_block
with_block_keeps store kept = either_more (is_kept store.blocks kept.root) store kept

pub accepted_keeps : (store : Store) (kept : KeptBlock) → KeepsStates store (with_accepted store kept)
accepted_keeps store kept =
    let more : KeepsStates store (with_block store kept) = with_block_keeps store kept in
    record {
      config = accepted_config store kept;
      states = λ root state is.
          let still = more.states root state is in
          record { kept = still.kept; found = ap (λ (b : List KeptBlock). block_of b root) (accepted_blocks store kept) ∙ still.found; same = still.same };
    }

-- ---- events

abbrev Keeps : {A : Type 0} → Store → EventOutcome (Store × A) → Type 0
Keeps old (accepted new) = KeepsStates old new.0
Keeps old (event_refused why) = Unit {0}
Keeps old (event_limited bound) = Unit {0}
Keeps old (event_clashes kind) = Unit {0}

unless_clash : (old : Store) (block : BeaconBlock) (root : List ℕ) (step : Stepped) (clash : Option ClashKind) → Keeps old (accept_block old block root step clash)
unfolding accept_block
unless_clash old block root step (Some kind) = tt
unless_clash old block root step None = accepted_keeps old _

behind_step : (old : Store) (block : BeaconBlock) (root : List ℕ) (step : Outcome Stepped) (clash : Option ClashKind) → Keeps old (way_to step (λ stepped. accept_block old block root stepped clash))
behind_step old block root (done step) clash = unless_clash old block root step clash
behind_step old block root (refused why) clash = tt
behind_step old block root (limited bound) clash = tt

a_block : (old : Store) (signed_block : SignedBeaconBlock) → Keeps old (on_block old signed_block)
unfolding on_block
a_block old signed_block = behind_step old signed_block.message _ (block_step old signed_block) _

handed_on : (old : Store) (outcome : EventOutcome (Store × BlockIn)) → Keeps old outcome → Keeps old (then_event outcome (λ new. accepted (new.0, Accepted.block new.1)))
handed_on old (accepted new) keeps = keeps
handed_on old (event_refused why) keeps = tt
handed_on old (event_limited bound) keeps = tt
handed_on old (event_clashes kind) keeps = tt

read_block : (old : Store) (read : Option SignedBeaconBlock) → Keeps old (handle_block old read)
unfolding handle_block
read_block old None = tt
read_block old (Some signed_block) = handed_on old (on_block old signed_block) (a_block old signed_block)

no_block : (old : Store) (outcome : Outcome Store) → ((new : Store) → outcome ≡ done new → KeepsStates old new) → Keeps old (without_block outcome)
unfolding without_block
no_block old (done new) same = same new refl
no_block old (refused why) same = tt
no_block old (limited bound) same = tt

read_vote : (old : Store) (from_block : Bool) (read : Option Attestation) → Keeps old (handle_attestation old from_block read)
unfolding handle_attestation
read_vote old from_block None = tt
read_vote old from_block (Some attestation) =
    no_block old (on_attestation old attestation from_block) (λ new is. same_states old new (vote_config old new attestation from_block is) (vote_blocks old new attestation from_block is))

read_slashing : (old : Store) (read : Option AttesterSlashing) → Keeps old (handle_attester_slashing old read)
unfolding handle_attester_slashing
read_slashing old None = tt
read_slashing old (Some slashing) =
    no_block old (on_attester_slashing old slashing) (λ new is. same_states old new (slashing_config old new slashing is) (slashing_blocks old new slashing is))

either_keeps : {A : Type 0} (old : Store) (choice : Bool) (x y : EventOutcome (Store × A)) → Keeps old x → Keeps old y → Keeps old (if choice then x else y)
either_keeps old true x y h k = h
either_keeps old false x y h k = k

read_tick : (old : Store) (payload : List ℕ) → Keeps old (handle_tick old payload)
unfolding handle_tick
read_tick old payload = either_keeps old _ _ (event_refused _) (no_block old (on_tick old _) (λ new is. same_states old new (tick_config old new _ is) (tick_blocks old new _ is))) tt

event : (old : Store) (kind : ℕ) (payload : List ℕ) → Keeps old (on_event old kind payload)
unfolding on_event
event old kind payload =
    let block_read = signed_block_codec.deserialize payload in
    let vote_read = attestation_codec.deserialize payload in
    let slashing_read = attester_slashing_codec.deserialize payload in
    let slashing_or_vote = if kind == 5 then handle_attester_slashing old slashing_read else handle_attestation old (kind == 4) vote_read in
    either_keeps old (kind == 1) (handle_tick old payload) (if kind == 2 then handle_block old block_read else slashing_or_vote)
    (read_tick old payload)
    (either_keeps old (kind == 2) (handle_block old block_read) slashing_or_vote
    (read_block old block_read)
    (either_keeps old (kind == 5) (handle_attester_slashing old slashing_read) (handle_attestation old (kind == 4) vote_read) (read_slashing old slashing_read) (read_vote old (kind == 4) vote_read)))

pub event_keeps_states : (old new : Store) (kind : ℕ) (payload : List ℕ) (given : Accepted) → on_event old kind payload ≡ accepted (new, given) → KeepsStates old new
event_keeps_states old new kind payload given is = rw is at (event old kind payload)

-- ---- a block that wasn't kept

last_of : (b : Bool) (first last : KeptBlock) (rest more : Option KeptBlock) → is_some (if b then Some first else rest) ≡ false → (is_some rest ≡ false → more ≡ Some last) → (if b then Some first else more) ≡ Some last
last_of true first last rest more none later = absurd cc
last_of false first last rest more none later = later none

found_last : (blocks : List KeptBlock) (last : KeptBlock) → is_kept blocks last.root ≡ false → block_of (blocks ++ last ∷ []) last.root ≡ Some last
unfolding block_of is_kept
found_last [] last none = ap (λ (b : Bool). if b then Some last else None) ((bytes_decides last.root last.root).1 refl)
found_last (first ∷ blocks) last none = last_of (same_root first.root last.root) first last (block_of blocks last.root) (block_of (blocks ++ last ∷ []) last.root) none (λ n. found_last blocks last n)

fresh_block : (store : Store) (kept : KeptBlock) → is_kept store.blocks kept.root ≡ false → (with_block store kept).blocks ≡ store.blocks ++ kept ∷ []
unfolding with_block
fresh_block store kept none = ap (λ (b : Bool). (if b then store else record store { blocks = store.blocks ++ kept ∷ [] }).blocks) none

store_in : EventOutcome (Store × BlockIn) → Store → Store
store_in (accepted made) other = made.0
store_in (event_refused why) other = other
store_in (event_limited bound) other = other
store_in (event_clashes kind) other = other

-- it is kept with its state
now_kept : (store new : Store) (block : BeaconBlock) (root : List ℕ) (step : Stepped) (clash : Option ClashKind) (left : BlockIn) → accept_block store block root step clash ≡ accepted (new, left)
    → is_kept store.blocks root ≡ false → KeepsState new root step.state
unfolding accept_block store_in
now_kept store new block root step (Some kind) left is none = absurd cc
now_kept store new block root step None left is none =
    let kept : KeptBlock = record { root = root; block = block; state = step.state } in
    let there : with_accepted store kept ≡ new = ap (λ (o : EventOutcome (Store × BlockIn)). store_in o new) is in
    record {
      kept = kept;
      found = ap (λ (s : Store). block_of s.blocks root) (sym there) ∙ (ap (λ (b : List KeptBlock). block_of b root) (accepted_blocks store kept ∙ fresh_block store kept none) ∙ found_last store.blocks kept none);
      same = refl;
    }

kept_here : (store new : Store) (block : BeaconBlock) (root : List ℕ) (step : Stepped) (clash : Option ClashKind) (result : Result BlockIn StoreStop) → Accepts result store new (accept_block store block root step clash)
    → is_kept store.blocks root ≡ false → IfOk result (λ _. KeepsState new root step.state)
kept_here store new block root step clash (Ok left) is none = now_kept store new block root step clash left is none
kept_here store new block root step clash (Err stop) is none = tt

pub kept_now : (store new : Store) (block : BeaconBlock) (root : List ℕ) (step made : Stepped) (clash : Option ClashKind) (result : Result BlockIn StoreStop) → step ≡ made → root ≡ header_root_of step.state
    → Accepts result store new (accept_block store block root step clash) → is_kept store.blocks (header_root_of made.state) ≡ false → IfOk result (λ _. KeepsState new (header_root_of made.state) made.state)
kept_now store new block root step made clash result same at is =
    let Goal : Stepped → Type 0 = λ s. is_kept store.blocks (header_root_of s.state) ≡ false → IfOk result (λ _. KeepsState new (header_root_of s.state) s.state) in
    subst Goal same (λ none.
    subst (λ (r : List ℕ). IfOk result (λ _. KeepsState new r step.state)) at (kept_here store new block root step clash result is (subst (λ (r : List ℕ). is_kept store.blocks r ≡ false) (sym at) none)))

-- what answers an event
pub answer_keeps : (old new : Store) (kind : ℕ) (payload : List ℕ) (answer : Result handlers.Accepted StoreStop) → AcceptsBy accepted_of answer old new (on_event old kind payload) → KeepsStates old new
answer_keeps old new kind payload (Ok given) is = event_keeps_states old new kind payload (accepted_of given) is
answer_keeps old new kind payload (Err stop) is = subst (KeepsStates old) (sym is.0) (no_change old)
