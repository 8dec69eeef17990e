-- One operation of a block, as a step from a state.
use Rattle.std.specs.Prelude.{ℕ}
use Rattle.bc_words.specs.Outcome.{Outcome}
use Rattle.bc_preset.specs.declared.configuration.ConfigValues.{ConfigValues}
use Rattle.beacon_types.specs.declared.signed_exit.SignedVoluntaryExit.{SignedVoluntaryExit}
use Rattle.beacon_types.specs.declared.proposer_slashing.ProposerSlashing.{ProposerSlashing}
use Rattle.beacon_types.specs.declared.attester_slashing.AttesterSlashing.{AttesterSlashing}
use Rattle.beacon_types.specs.declared.attestation.Attestation.{Attestation}
use Rattle.spec_state.specs.declared.plain.PlainState.{PlainState}
use Rattle.spec_blocks.specs.ProcessProposerSlashing.{process_proposer_slashing}
use Rattle.spec_blocks.specs.ProcessAttesterSlashing.{process_attester_slashing}
use Rattle.spec_blocks.specs.ProcessAttestation.{process_attestation}
use Rattle.spec_blocks.specs.ProcessVoluntaryExit.{process_voluntary_exit}

unfoldable pub by_proposer_slashing : ℕ → ConfigValues → PlainState → ProposerSlashing → Outcome PlainState
by_proposer_slashing proposer config state operation = process_proposer_slashing state operation proposer config

unfoldable pub by_attester_slashing : ℕ → ConfigValues → PlainState → AttesterSlashing → Outcome PlainState
by_attester_slashing proposer config state operation = process_attester_slashing state operation proposer config

unfoldable pub by_attestation : ℕ → PlainState → Attestation → Outcome PlainState
by_attestation proposer state operation = process_attestation state operation proposer

unfoldable pub by_exit : ConfigValues → PlainState → SignedVoluntaryExit → Outcome PlainState
by_exit config state operation = process_voluntary_exit state operation config
