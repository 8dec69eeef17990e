-- An attestation on its way into a list of the state, where it is known already whether somebody attested.
use Rattle.std.specs.Prelude.{Bool}
use Rattle.bc_words.specs.Outcome.{Outcome, done, ◌>>=◌}
use Rattle.bc_words.specs.declared.refusal.Refusal.{Refusal}
use Rattle.bc_words.specs.declared.refusal.Refusal.TheVariants.{AtEmpty}
use Rattle.beacon_types.specs.declared.pending_attestation.PendingAttestation.{PendingAttestation}
use Rattle.spec_state.specs.declared.plain.PlainState.{PlainState}
use Rattle.spec_blocks.specs.Checks.{check, ◌>>◌}
use Rattle.spec_blocks.specs.ProcessAttestation.{with_pending, with_current_pending, with_previous_pending}

-- it waits in the list of the current epoch, and somebody attested
unfoldable pub with_current_attested : PlainState → PendingAttestation → Bool → Outcome PlainState
with_current_attested state pending attested = do
  next ← with_current_pending state pending
  check attested AtEmpty
  done next

-- the same with the list of the previous epoch
unfoldable pub with_previous_attested : PlainState → PendingAttestation → Bool → Outcome PlainState
with_previous_attested state pending attested = do
  next ← with_previous_pending state pending
  check attested AtEmpty
  done next

-- and with that of its target's epoch
unfoldable pub with_attested : PlainState → PendingAttestation → Bool → Outcome PlainState
with_attested state pending attested = do
  next ← with_pending state pending
  check attested AtEmpty
  done next
