-- Whether somebody attested, and an attestation that comes in time.
use Rattle.std.specs.Prelude.{◌≡◌, Bool, not, length, Result, Ok, Err, ◌==◌}
use Rattle.bc_words.specs.Outcome.{Outcome, done, StopsExactly}
use Rattle.bc_words.specs.declared.stop.Stop.{Stop}
use Rattle.beacon_types.specs.declared.attestation_data.AttestationData.{AttestationData}
use Rattle.beacon_types.specs.declared.attestation.Attestation.{Attestation}
use Rattle.spec_state.specs.declared.plain.PlainState.{PlainState}
use Rattle.spec_state.specs.Misc.{compute_epoch_at_slot}
use Rattle.spec_state.specs.Accessors.{get_current_epoch, get_previous_epoch, get_attesting_indices}

-- whether somebody attested
unfoldable pub is_attested : PlainState → Attestation → Bool
is_attested state attestation = not (length (get_attesting_indices state attestation.content attestation.aggregation_bits) == 0)

-- The answer of a check is the outcome, and behind a check that holds it is this
abbrev pub Attests : Result Bool Stop → Outcome (Unit {0}) → Bool → Type 0
Attests (Ok attested) checked is_so = (checked ≡ done tt) × (attested ≡ is_so)
Attests (Err stop) checked is_so = StopsExactly stop checked

-- the target's epoch is one of the two, and that of the slot
pub record IsTimely (state : PlainState) (content : AttestationData) : Type 0 where
  pub epoch : (content.target.epoch ≡ get_current_epoch state → ⊥) → content.target.epoch ≡ get_previous_epoch state
  pub slot : compute_epoch_at_slot state.preset content.slot ≡ content.target.epoch
