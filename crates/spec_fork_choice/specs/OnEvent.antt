-- One event of a record: its payload is read and handled (fork-choice.md, "Handlers"). Events are of five kinds.
use Rattle.std.specs.Prelude.{ℕ, ◌==◌, List, [], Bool, length, Option, Some, None, if◌then◌else◌}
use Rattle.hash_tree.specs.Merkle.{bytes_to_uint64}
use Rattle.bc_words.specs.Events.{EventOutcome, accepted, event_refused, event_clashes, then_event, on_the_way}
use Rattle.bc_words.specs.Outcome.{Outcome}
use Rattle.bc_words.specs.declared.refusal.Refusal.TheVariants.{Malformed}
use Rattle.bc_words.specs.declared.store_stop.ClashKind.{ClashKind}
use Rattle.beacon_types.specs.declared.attestation.Attestation.{Attestation}
use Rattle.beacon_types.specs.declared.attester_slashing.AttesterSlashing.{AttesterSlashing}
use Rattle.beacon_types.specs.declared.block.BeaconBlock.{BeaconBlock}
use Rattle.beacon_types.specs.declared.signed_block.SignedBeaconBlock.{SignedBeaconBlock}
use Rattle.beacon_types.specs.Blocks.{block_codec, signed_block_codec, attestation_codec, attester_slashing_codec}
use Rattle.spec_state.specs.declared.plain.PlainState.{PlainState}
use Rattle.bc_preset.specs.declared.configuration.ConfigValues.{ConfigValues}
use Rattle.spec_fork_choice.specs.Store.{Store}
use Rattle.spec_fork_choice.specs.GetForkchoiceStore.{get_forkchoice_store, genesis_block, genesis_store}
use Rattle.spec_fork_choice.specs.Clash.{clash_of}
use Rattle.spec_fork_choice.specs.OnTick.{on_tick}
use Rattle.spec_fork_choice.specs.OnBlock.{BlockIn, on_block}
use Rattle.spec_fork_choice.specs.OnAttestation.{on_attestation}
use Rattle.spec_fork_choice.specs.OnAttesterSlashing.{on_attester_slashing}

-- What an accepted event gives beside the new store: what a block leaves, and nothing for another event
pub data Accepted : Type 0 where
  block : BlockIn → Accepted
  other : Accepted

-- the new store of an event that is no block
unfoldable pub without_block : Outcome Store → EventOutcome (Store × Accepted)
without_block outcome = on_the_way outcome (λ store. accepted (store, other))

-- a tick: its time in 8 bytes, low byte first
unfoldable pub handle_tick : Store → List ℕ → EventOutcome (Store × Accepted)
handle_tick store payload =
    if length payload == 8 then without_block (on_tick store (bytes_to_uint64 payload)) else event_refused Malformed

-- a signed block, if the payload is the writing of one
unfoldable pub handle_block : Store → Option SignedBeaconBlock → EventOutcome (Store × Accepted)
handle_block store None = event_refused Malformed
handle_block store (Some signed_block) = then_event (on_block store signed_block) (λ new. accepted (new.0, block new.1))

-- an attestation from the wire or from a block, if the payload is the writing of one
unfoldable pub handle_attestation : Store → Bool → Option Attestation → EventOutcome (Store × Accepted)
handle_attestation store is_from_block None = event_refused Malformed
handle_attestation store is_from_block (Some attestation) = without_block (on_attestation store attestation is_from_block)

-- an attester slashing, if the payload is the writing of one
unfoldable pub handle_attester_slashing : Store → Option AttesterSlashing → EventOutcome (Store × Accepted)
handle_attester_slashing store None = event_refused Malformed
handle_attester_slashing store (Some attester_slashing) = without_block (on_attester_slashing store attester_slashing)

-- The handler of an event's kind: 1 a tick, 2 a block, 3 an attestation from the wire, 4 an attestation from a block, 5 an
-- attester slashing. A record has no other kind
unfoldable pub on_event : Store → ℕ → List ℕ → EventOutcome (Store × Accepted)
on_event store kind payload =
    if kind == 1 then handle_tick store payload
    else if kind == 2 then handle_block store (signed_block_codec.deserialize payload)
    else if kind == 5 then handle_attester_slashing store (attester_slashing_codec.deserialize payload)
    else handle_attestation store (kind == 4) (attestation_codec.deserialize payload)

-- how the first kept block clashes, if it does: its root is zero, or else its state root is
unfoldable pub first_clash : BeaconBlock → Option ClashKind
first_clash first = clash_of [] (block_codec.hash_tree_root first) first.state_root first

-- a store that opens, unless its first block clashes
unfoldable pub open_unless : Option ClashKind → Store → EventOutcome Store
open_unless (Some kind) store = event_clashes kind
open_unless None store = accepted store

-- the store at an anchor
unfoldable pub open_at : ConfigValues → PlainState → BeaconBlock → EventOutcome Store
open_at config anchor_state anchor_block = open_unless (first_clash anchor_block) (get_forkchoice_store config anchor_state anchor_block)

-- the same at genesis
unfoldable pub genesis_clash : PlainState → Option ClashKind
genesis_clash genesis = first_clash (genesis_block genesis)

unfoldable pub open_store : ConfigValues → PlainState → EventOutcome Store
open_store config genesis = open_unless (genesis_clash genesis) (genesis_store config genesis)
