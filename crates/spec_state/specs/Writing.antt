-- Which states have a writing (simple-serialize.md, "Serialization": each offset fits in four bytes).
use Rattle.std.specs.Prelude.{◌*◌, List, length, map, replicate}
use Rattle.ssz_codec.specs.declared.layout.Field.TheVariants.{Variable}
use Rattle.ssz_codec.specs.Layout.{fixed_length, OffsetsFit}
use Rattle.ssz_codec.specs.Containers.{layout_of, parts_of}
use Rattle.beacon_types.specs.declared.pending_attestation.PendingAttestation.{PendingAttestation}
use Rattle.beacon_types.specs.Containers.{pending_attestation_codec}
use Rattle.spec_state.specs.declared.plain.PlainState.{PlainState}
use Rattle.spec_state.specs.States.{state_fields}

-- the offsets of a list of pending attestations fit
unfoldable pub ListFits : List PendingAttestation → Type 0
ListFits xs = OffsetsFit (replicate (length xs) Variable) (map pending_attestation_codec.serialize xs) (4 * length xs)

-- all offsets of a state fit
pub record HasWriting (s : PlainState) : Type 0 where
  pub previous : ListFits s.previous_epoch_attestations
  pub current : ListFits s.current_epoch_attestations
  pub whole : OffsetsFit (layout_of (state_fields s.preset)) (parts_of (state_fields s.preset) s) (fixed_length (layout_of (state_fields s.preset)))
