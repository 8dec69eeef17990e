-- The end of a slot (beacon-chain.md, "process_slot"): the state's root is kept, a block header without a state root gets
-- it, and then the root of the latest block is kept.
use Rattle.std.specs.Prelude.{ℕ, ◌%◌, slice_set}
use Rattle.spec_state.specs.declared.plain.PlainState.{PlainState}
use Rattle.spec_state.specs.States.{state_codec}
use Rattle.spec_state.specs.Genesis.{block_header_of, header_root_of}

-- where the roots of a slot stand among the latest ones
abbrev pub root_index : PlainState → ℕ
root_index state = state.slot % state.preset.slots_per_historical_root

-- process_slot(state)
unfoldable pub process_slot : PlainState → PlainState
process_slot state = record state {
  state_roots = slice_set state.state_roots (root_index state) ((state_codec state.preset).hash_tree_root state);
  latest_block_header = block_header_of state;
  block_roots = slice_set state.block_roots (root_index state) (header_root_of state);
}
