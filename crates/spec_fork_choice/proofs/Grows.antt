-- An accepted event keeps at most one block more.
use Rattle.std.proofs.Common.{◌≡◌, ◌≤◌, ◌+◌, ℕ, Bool, true, false, List, [], ◌∷◌, ◌++◌, length, Option, Some, None, if◌then◌else◌, ◌==◌, refl, ap, arith, length-append}
use Rattle.bc_words.specs.Outcome.{Outcome, done, refused, limited}
use Rattle.bc_words.specs.Events.{EventOutcome, accepted, event_refused, event_limited, event_clashes, then_event, on_the_way as way_to}
use Rattle.bc_words.specs.declared.store_stop.ClashKind.{ClashKind}
use Rattle.beacon_types.specs.declared.block.BeaconBlock.{BeaconBlock}
use Rattle.beacon_types.specs.declared.attestation.Attestation.{Attestation}
use Rattle.beacon_types.specs.declared.attester_slashing.AttesterSlashing.{AttesterSlashing}
use Rattle.beacon_types.specs.declared.signed_block.SignedBeaconBlock.{SignedBeaconBlock}
use Rattle.beacon_types.specs.Blocks.{signed_block_codec, attestation_codec, attester_slashing_codec}
use Rattle.spec_transition.specs.ProcessSlots.{Stepped}
use Rattle.spec_fork_choice.specs.Store.{KeptBlock, Store, is_kept}
use Rattle.spec_fork_choice.specs.OnTick.{on_tick}
use Rattle.spec_fork_choice.specs.OnBlock.{BlockIn, block_step, accept_block, on_block, with_accepted, with_block}
use Rattle.spec_fork_choice.specs.OnAttestation.{on_attestation}
use Rattle.spec_fork_choice.specs.OnAttesterSlashing.{on_attester_slashing}
use Rattle.spec_fork_choice.specs.OnEvent.{Accepted, without_block, handle_tick, handle_block, handle_attestation, handle_attester_slashing, on_event}
use Rattle.spec_fork_choice.proofs.Blocks.{tick_blocks, vote_blocks, slashing_blocks, accepted_blocks}

-- a store with as many blocks, or at most one more, than there were
abbrev pub KeepsOneMore : Store → Store → Type 0
KeepsOneMore old new = length new.blocks ≤ length old.blocks + 1

same_many : (old new : Store) → new.blocks ≡ old.blocks → KeepsOneMore old new
same_many old new e = omega (arith, ap length e)

-- ---- a block

one_more : (choice : Bool) (store : Store) (kept : KeptBlock) → KeepsOneMore store (if choice then store else record store { blocks = store.blocks ++ kept ∷ [] })
one_more true store kept = omega arith
one_more false store kept = omega (arith, length-append store.blocks (kept ∷ []))

with_one_more : (store : Store) (kept : KeptBlock) → KeepsOneMore store (with_block store kept)
unfolding with_block
with_one_more store kept = one_more (is_kept store.blocks kept.root) store kept

pub accepted_one_more : (store : Store) (kept : KeptBlock) → KeepsOneMore store (with_accepted store kept)
accepted_one_more store kept = omega (arith, ap length (accepted_blocks store kept), with_one_more store kept)

-- ---- events

-- an accepted event keeps at most one block more
abbrev Keeps : {A : Type 0} → Store → EventOutcome (Store × A) → Type 0
Keeps old (accepted new) = KeepsOneMore old new.0
Keeps old (event_refused why) = Unit {0}
Keeps old (event_limited bound) = Unit {0}
Keeps old (event_clashes kind) = Unit {0}

unless_clash : (old : Store) (block : BeaconBlock) (root : List ℕ) (step : Stepped) (clash : Option ClashKind) → Keeps old (accept_block old block root step clash)
unfolding accept_block
unless_clash old block root step (Some kind) = tt
unless_clash old block root step None = accepted_one_more old _

behind_step : (old : Store) (block : BeaconBlock) (root : List ℕ) (step : Outcome Stepped) (clash : Option ClashKind) → Keeps old (way_to step (λ stepped. accept_block old block root stepped clash))
behind_step old block root (done step) clash = unless_clash old block root step clash
behind_step old block root (refused why) clash = tt
behind_step old block root (limited bound) clash = tt

a_block : (old : Store) (signed_block : SignedBeaconBlock) → Keeps old (on_block old signed_block)
unfolding on_block
a_block old signed_block = behind_step old signed_block.message _ (block_step old signed_block) _

handed_on : (old : Store) (outcome : EventOutcome (Store × BlockIn)) → Keeps old outcome → Keeps old (then_event outcome (λ new. accepted (new.0, Accepted.block new.1)))
handed_on old (accepted new) keeps = keeps
handed_on old (event_refused why) keeps = tt
handed_on old (event_limited bound) keeps = tt
handed_on old (event_clashes kind) keeps = tt

read_block : (old : Store) (read : Option SignedBeaconBlock) → Keeps old (handle_block old read)
unfolding handle_block
read_block old None = tt
read_block old (Some signed_block) = handed_on old (on_block old signed_block) (a_block old signed_block)

no_block : (old : Store) (outcome : Outcome Store) → ((new : Store) → outcome ≡ done new → new.blocks ≡ old.blocks) → Keeps old (without_block outcome)
unfolding without_block
no_block old (done new) same = same_many old new (same new refl)
no_block old (refused why) same = tt
no_block old (limited bound) same = tt

read_vote : (old : Store) (from_block : Bool) (read : Option Attestation) → Keeps old (handle_attestation old from_block read)
unfolding handle_attestation
read_vote old from_block None = tt
read_vote old from_block (Some attestation) = no_block old (on_attestation old attestation from_block) (λ new is. vote_blocks old new attestation from_block is)

read_slashing : (old : Store) (read : Option AttesterSlashing) → Keeps old (handle_attester_slashing old read)
unfolding handle_attester_slashing
read_slashing old None = tt
read_slashing old (Some slashing) = no_block old (on_attester_slashing old slashing) (λ new is. slashing_blocks old new slashing is)

either_keeps : {A : Type 0} (old : Store) (choice : Bool) (x y : EventOutcome (Store × A)) → Keeps old x → Keeps old y → Keeps old (if choice then x else y)
either_keeps old true x y h k = h
either_keeps old false x y h k = k

read_tick : (old : Store) (payload : List ℕ) → Keeps old (handle_tick old payload)
unfolding handle_tick
read_tick old payload = either_keeps old _ _ (event_refused _) (no_block old (on_tick old _) (λ new is. tick_blocks old new _ is)) tt

event : (old : Store) (kind : ℕ) (payload : List ℕ) → Keeps old (on_event old kind payload)
unfolding on_event
event old kind payload =
    let block_read = signed_block_codec.deserialize payload in
    let vote_read = attestation_codec.deserialize payload in
    let slashing_read = attester_slashing_codec.deserialize payload in
    let slashing_or_vote = if kind == 5 then handle_attester_slashing old slashing_read else handle_attestation old (kind == 4) vote_read in
    either_keeps old (kind == 1) (handle_tick old payload) (if kind == 2 then handle_block old block_read else slashing_or_vote) (read_tick old payload)
    (either_keeps old (kind == 2) (handle_block old block_read) slashing_or_vote (read_block old block_read)
    (either_keeps old (kind == 5) (handle_attester_slashing old slashing_read) (handle_attestation old (kind == 4) vote_read) (read_slashing old slashing_read) (read_vote old (kind == 4) vote_read)))

pub event_keeps_one_more : (old new : Store) (kind : ℕ) (payload : List ℕ) (given : Accepted) → on_event old kind payload ≡ accepted (new, given) → KeepsOneMore old new
event_keeps_one_more old new kind payload given is = rw is at (event old kind payload)
