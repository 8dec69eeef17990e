-- process_operations (beacon-chain.md, "Operations").
use Rattle.std.specs.Prelude.{ℕ, min, length, ◌==◌}
use Rattle.bc_words.specs.Outcome.{Outcome, ◌>>=◌, checked_sub}
use Rattle.bc_words.specs.declared.refusal.Refusal.TheVariants.{DepositCount}
use Rattle.bc_preset.specs.declared.configuration.ConfigValues.{ConfigValues}
use Rattle.beacon_types.specs.declared.body.BeaconBlockBody.{BeaconBlockBody}
use Rattle.spec_state.specs.declared.plain.PlainState.{PlainState}
use Rattle.spec_blocks.specs.Checks.{check, each_of, ◌>>◌}
use Rattle.spec_blocks.specs.ProcessProposerSlashing.{process_proposer_slashing}
use Rattle.spec_blocks.specs.ProcessAttesterSlashing.{process_attester_slashing}
use Rattle.spec_blocks.specs.ProcessAttestation.{process_attestation}
use Rattle.spec_blocks.specs.ProcessDeposit.{process_deposit}
use Rattle.spec_blocks.specs.ProcessVoluntaryExit.{process_voluntary_exit}

-- the block brings as many deposits as are due, up to the most that it may
unfoldable pub check_deposit_count : PlainState → BeaconBlockBody → Outcome (Unit {0})
check_deposit_count state body = do
  due ← checked_sub state.eth1_data.deposit_count state.eth1_deposit_index
  check (length body.deposits == min state.preset.max_deposits due) DepositCount

-- process_operations(state, body), where proposer is the block's proposer: each operation of each list, in order
unfoldable pub process_operations : PlainState → BeaconBlockBody → ℕ → ConfigValues → Outcome PlainState
process_operations state body proposer config = do
  check_deposit_count state body
  with_proposer_slashings ← each_of (λ s operation. process_proposer_slashing s operation proposer config) state body.proposer_slashings
  with_attester_slashings ← each_of (λ s operation. process_attester_slashing s operation proposer config) with_proposer_slashings body.attester_slashings
  with_attestations ← each_of (λ s operation. process_attestation s operation proposer) with_attester_slashings body.attestations
  with_deposits ← each_of process_deposit with_attestations body.deposits
  each_of (λ s operation. process_voluntary_exit s operation config) with_deposits body.voluntary_exits
