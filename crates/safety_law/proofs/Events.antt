-- An accepted event: a tick and an attestation leave blocks, configuration and finalized checkpoint, and else a block was accepted.
use Rattle.std.proofs.Common.{◌≡◌, ◌<◌, ◌^◌, ◌⊎◌, inl, inr, ℕ, Bool, ◌==◌, if◌then◌else◌, List, length, Option, Some, None, refl, sym, ap}
use Rattle.bc_words.specs.Outcome.{Outcome, done, refused, limited}
use Rattle.bc_words.specs.Events.{EventOutcome, accepted, event_refused, event_limited, event_clashes, then_event}
use Rattle.bc_words.specs.declared.refusal.Refusal.TheVariants.{Malformed}
use Rattle.ssz_codec.specs.Lawful.{IsBytes}
use Rattle.hash_tree.specs.Merkle.{bytes_to_uint64}
use Rattle.beacon_types.specs.Blocks.{signed_block_codec, attestation_codec, attester_slashing_codec}
use Rattle.beacon_types.specs.laws.Blocks.{signed_block_lawful}
use Rattle.beacon_types.specs.declared.attestation.Attestation.{Attestation}
use Rattle.beacon_types.specs.declared.attester_slashing.AttesterSlashing.{AttesterSlashing}
use Rattle.beacon_types.specs.declared.signed_block.SignedBeaconBlock.{SignedBeaconBlock}
use Rattle.spec_blocks.proofs.Done.{chosen}
use Rattle.spec_fork_choice.specs.Store.{Store}
use Rattle.spec_fork_choice.specs.OnTick.{on_tick}
use Rattle.spec_fork_choice.specs.OnBlock.{BlockIn, on_block}
use Rattle.spec_fork_choice.specs.OnAttestation.{on_attestation}
use Rattle.spec_fork_choice.specs.OnAttesterSlashing.{on_attester_slashing}
use Rattle.spec_fork_choice.specs.OnEvent.{Accepted, block, other, without_block, handle_tick, handle_block, handle_attestation, handle_attester_slashing, on_event}
use Rattle.spec_fork_choice.proofs.Blocks.{tick_blocks, vote_blocks, slashing_blocks}
use Rattle.safety_law.proofs.Leaves.{Leaves, tick_leaves, vote_leaves, slashing_leaves}

-- an event that is no block
pub record IsOther (store new : Store) (given : Accepted) : Type 0 where
  pub blocks : new.blocks ≡ store.blocks
  pub leaves : Leaves store new
  pub given_is : given ≡ other

-- a block, with the payload that holds it
pub record IsBlock (store new : Store) (payload : List ℕ) (given : Accepted) : Type 0 where
  pub signed : SignedBeaconBlock
  pub read : signed_block_codec.deserialize payload ≡ Some signed
  pub left : BlockIn
  pub given_is : given ≡ block left
  pub taken : on_block store signed ≡ accepted (new, left)

value_or : {A : Type 0} → A → EventOutcome A → A
value_or x (accepted y) = y
value_or x (event_refused why) = x
value_or x (event_limited bound) = x
value_or x (event_clashes kind) = x

same_value : {A : Type 0} (x y : A) → accepted x ≡ accepted y → x ≡ y
unfolding value_or
same_value x y is = ap (value_or x) is

-- ---- ticks and attestations

no_block : (store new : Store) (given : Accepted) (outcome : Outcome Store) → without_block outcome ≡ accepted (new, given) → (outcome ≡ done new) × (given ≡ other)
unfolding without_block
no_block store new given (done s) is =
    let pair : (s, other) ≡ (new, given) = same_value (s, other) (new, given) is in
    (ap (λ (p : Store × Accepted). done p.0) pair, sym (ap (λ (p : Store × Accepted). p.1) pair))
no_block store new given (refused why) is = absurd cc
no_block store new given (limited bound) is = absurd cc

a_tick : (store new : Store) (payload : List ℕ) (given : Accepted) → handle_tick store payload ≡ accepted (new, given) → IsOther store new given
unfolding handle_tick
a_tick store new payload given is = elim (chosen (length payload == 8) (without_block (on_tick store (bytes_to_uint64 payload))) (event_refused Malformed) (accepted (new, given)) is) [
  | inl whole ↦
      let tick = no_block store new given (on_tick store (bytes_to_uint64 payload)) whole.1 in
      record { blocks = tick_blocks store new (bytes_to_uint64 payload) tick.0; leaves = tick_leaves store new (bytes_to_uint64 payload) tick.0; given_is = tick.1 }
  | inr short ↦ absurd (let no = short.1 in cc)
]

a_vote : (store new : Store) (from_block : Bool) (read : Option Attestation) (given : Accepted) → handle_attestation store from_block read ≡ accepted (new, given) → IsOther store new given
unfolding handle_attestation
a_vote store new from_block None given is = absurd cc
a_vote store new from_block (Some attestation) given is =
    let vote = no_block store new given (on_attestation store attestation from_block) is in
    record { blocks = vote_blocks store new attestation from_block vote.0; leaves = vote_leaves store new attestation from_block vote.0; given_is = vote.1 }

a_slashing : (store new : Store) (read : Option AttesterSlashing) (given : Accepted) → handle_attester_slashing store read ≡ accepted (new, given) → IsOther store new given
unfolding handle_attester_slashing
a_slashing store new None given is = absurd cc
a_slashing store new (Some slashing) given is =
    let taken = no_block store new given (on_attester_slashing store slashing) is in
    record { blocks = slashing_blocks store new slashing taken.0; leaves = slashing_leaves store new slashing taken.0; given_is = taken.1 }

-- ---- blocks

record HandedOn (outcome : EventOutcome (Store × BlockIn)) (new : Store) (given : Accepted) : Type 0 where
  left : BlockIn
  given_is : given ≡ block left
  taken : outcome ≡ accepted (new, left)

handed_on : (outcome : EventOutcome (Store × BlockIn)) (new : Store) (given : Accepted) → then_event {B = Store × Accepted} outcome (λ pair. accepted (pair.0, block pair.1)) ≡ accepted (new, given) → HandedOn outcome new given
handed_on (accepted pair) new given is =
    let same : (pair.0, block pair.1) ≡ (new, given) = same_value (pair.0, block pair.1) (new, given) is in
    record {
      left = pair.1;
      given_is = sym (ap (λ (p : Store × Accepted). p.1) same);
      taken = ap (λ (s : Store). accepted (s, pair.1)) (ap (λ (p : Store × Accepted). p.0) same);
    }
handed_on (event_refused why) new given is = absurd cc
handed_on (event_limited bound) new given is = absurd cc
handed_on (event_clashes kind) new given is = absurd cc

a_block : (store new : Store) (payload : List ℕ) (read : Option SignedBeaconBlock) (given : Accepted) → signed_block_codec.deserialize payload ≡ read → handle_block store read ≡ accepted (new, given) → IsBlock store new payload given
unfolding handle_block
a_block store new payload None given read is = absurd cc
a_block store new payload (Some signed) given read is =
    let on = handed_on (on_block store signed) new given is in
    record { signed = signed; read = read; left = on.left; given_is = on.given_is; taken = on.taken }

-- ---- an event

pub event_is : (store new : Store) (kind : ℕ) (payload : List ℕ) (given : Accepted) → on_event store kind payload ≡ accepted (new, given) → IsOther store new given ⊎ IsBlock store new payload given
unfolding on_event
event_is store new kind payload given is =
    let block_read = signed_block_codec.deserialize payload in
    let vote_read = attestation_codec.deserialize payload in
    let slashing_read = attester_slashing_codec.deserialize payload in
    let slashing_or_vote = if kind == 5 then handle_attester_slashing store slashing_read else handle_attestation store (kind == 4) vote_read in
    elim (chosen (kind == 1) (handle_tick store payload) (if kind == 2 then handle_block store block_read else slashing_or_vote) (accepted (new, given)) is) [
      | inl tick ↦ inl (a_tick store new payload given tick.1)
      | inr later ↦ elim (chosen (kind == 2) (handle_block store block_read) slashing_or_vote (accepted (new, given)) later.1) [
        | inl taken ↦ inr (a_block store new payload block_read given refl taken.1)
        | inr last ↦ elim (chosen (kind == 5) (handle_attester_slashing store slashing_read) (handle_attestation store (kind == 4) vote_read) (accepted (new, given)) last.1) [
          | inl slashing ↦ inl (a_slashing store new slashing_read given slashing.1)
          | inr vote ↦ inl (a_vote store new (kind == 4) vote_read given vote.1)
        ]
      ]
    ]

-- the slot of a block that was read fits
pub slot_fits : (payload : List ℕ) (signed : SignedBeaconBlock) → IsBytes payload → signed_block_codec.deserialize payload ≡ Some signed → signed.message.slot < 2 ^ 64
slot_fits payload signed bytes read = (signed_block_lawful.sound payload signed bytes read).0.0.0.1.0.0.0.0.0.1
