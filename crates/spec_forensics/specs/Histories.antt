-- The history of a record: its accepted block events, each with the state behind the block and the states on which epoch
-- processing was entered on the way there. A list of accepted blocks has the latest first.
use Rattle.std.specs.Prelude.{◌≡◌, ℕ, ◌<◌, ◌^◌, ◌⊎◌, false, List, [], ◌∷◌, map, Contains, if◌then◌else◌}
use Rattle.std.specs.Option.{option_map_or}
use Rattle.bc_words.specs.Outcome.{done}
use Rattle.bc_preset.specs.declared.configuration.ConfigValues.{ConfigValues}
use Rattle.beacon_types.specs.Equality.{same_root}
use Rattle.beacon_types.specs.Blocks.{block_codec}
use Rattle.beacon_types.specs.declared.block.BeaconBlock.{BeaconBlock}
use Rattle.beacon_types.specs.declared.signed_block.SignedBeaconBlock.{SignedBeaconBlock}
use Rattle.spec_state.specs.declared.plain.PlainState.{PlainState}
use Rattle.spec_state.specs.Genesis.{zero_root, header_root_of}
use Rattle.spec_state.specs.States.{state_codec}
use Rattle.spec_transition.specs.StateTransition.{state_transition}
use Rattle.spec_fork_choice.specs.Store.{Store, block_of}
use Rattle.spec_fork_choice.specs.OnEvent.{Accepted, block, other}

-- an accepted block event: its number, the block with its root, the state behind the block, and the states entered
pub record AcceptedBlock : Type 0 where
  pub event : ℕ
  pub root : List ℕ
  pub block : BeaconBlock
  pub state : PlainState
  pub entered : List PlainState

-- the history with an accepted event more, behind which the store is this one: a block, as the store keeps it, with the states entered
-- on the way to it
unfoldable pub with_event : ℕ → List AcceptedBlock → Store → Accepted → List AcceptedBlock
with_event event history store other = history
with_event event history store (block given) =
    option_map_or (λ kept. record { event = event; root = given.root; block = kept.block; state = kept.state; entered = given.entered } ∷ history)
    (block_of store.blocks given.root) history

-- the chain that ends with the block of a root, without genesis; an empty one is that of genesis
unfoldable pub chain_to : List AcceptedBlock → List ℕ → List AcceptedBlock
chain_to [] root = []
chain_to (b ∷ earlier) root = if same_root b.root root then b ∷ chain_to earlier b.block.parent_root else chain_to earlier root

-- the state behind a chain
abbrev pub state_behind : PlainState → List AcceptedBlock → PlainState
state_behind genesis [] = genesis
state_behind genesis (b ∷ earlier) = b.state

-- A block is a step of the history before it: its parent is genesis or an earlier block, and the state transition takes the
-- state behind the parent to the block's state, with the states entered. Signatures don't count
pub record IsStepOn (config : ConfigValues) (genesis : PlainState) (earlier : List AcceptedBlock) (b : AcceptedBlock) : Type 0 where
  pub signed : SignedBeaconBlock
  pub message : signed.message ≡ b.block
  pub root : b.root ≡ block_codec.hash_tree_root b.block
  pub parent : (b.block.parent_root ≡ header_root_of genesis) ⊎ Contains (map (λ e. e.root) earlier) b.block.parent_root
  pub step : state_transition (state_behind genesis (chain_to earlier b.block.parent_root)) signed config ≡ done (record { state = b.state; entered = b.entered })
  pub slot : b.block.slot < 2 ^ 64
  pub root_is_set : same_root b.root zero_root ≡ false
  pub state_root_is_set : same_root ((state_codec b.state.preset).hash_tree_root b.state) zero_root ≡ false

-- a history: each block of it is a step of those before
abbrev pub IsHistory : ConfigValues → PlainState → List AcceptedBlock → Type 0
IsHistory config genesis [] = Unit {0}
IsHistory config genesis (b ∷ earlier) = IsStepOn config genesis earlier b × IsHistory config genesis earlier
