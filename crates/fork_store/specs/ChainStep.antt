-- The step of a kept state by a block (beacon-chain.md, "Beacon chain state transition function"), as the keeper of states
-- takes it: of the state transition the state alone.
use Rattle.std.specs.Prelude.{◌≡◌, false}
use Rattle.bc_words.specs.Outcome.{Outcome, done, ◌>>=◌}
use Rattle.bc_preset.specs.declared.configuration.ConfigValues.{ConfigValues}
use Rattle.beacon_types.specs.Equality.{same_root}
use Rattle.beacon_types.specs.declared.signed_block.SignedBeaconBlock.{SignedBeaconBlock}
use Rattle.spec_state.specs.declared.plain.PlainState.{PlainState}
use Rattle.spec_state.specs.States.{state_codec}
use Rattle.spec_state.specs.Genesis.{header_root_of, zero_root}
use Rattle.spec_state.specs.Soundness.{IsSound}
use Rattle.spec_transition.specs.StateTransition.{state_transition}

-- A state may be given to the state transition with a block: it is sound and of the configuration's preset, its latest block is
-- the block's parent, and its root isn't zero
pub record CanStep (config : ConfigValues) (state : PlainState) (block : SignedBeaconBlock) : Type 0 where
  pub sound : IsSound state
  pub preset : state.preset ≡ config.preset
  pub parent : header_root_of state ≡ block.message.parent_root
  pub some : same_root ((state_codec state.preset).hash_tree_root state) zero_root ≡ false

-- the state behind a block
unfoldable pub chain_step : ConfigValues → PlainState → SignedBeaconBlock → Outcome PlainState
chain_step config state block = do
  stepped ← state_transition state block config
  done stepped.state
