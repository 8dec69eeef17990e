-- process_historical_roots_update (beacon-chain.md, "Historical roots updates"), and the container of the roots
-- (beacon-chain.md, "HistoricalBatch").
use Rattle.std.specs.Prelude.{ℕ, ◌+◌, ◌/◌, ◌%◌, List, not, ◌==◌, if◌then◌else◌}
use Rattle.bc_words.specs.Outcome.{Outcome, done, ◌>>=◌, checked_push}
use Rattle.ssz_codec.specs.Codec.{Codec}
use Rattle.ssz_codec.specs.Containers.{Fields, fields_of, ◌▹◌∶◌, container_of}
use Rattle.ssz_codec.specs.Basic.{bytes32}
use Rattle.ssz_codec.specs.Lists.{vector_codec}
use Rattle.bc_preset.specs.declared.presets.Preset.{Preset}
use Rattle.spec_state.specs.declared.plain.PlainState.{PlainState}
use Rattle.spec_state.specs.Accessors.{get_current_epoch}

-- HistoricalBatch
pub record HistoricalBatch : Type 0 where
  pub block_roots : List (List ℕ)
  pub state_roots : List (List ℕ)

unfoldable pub historical_batch_fields : Preset → Fields HistoricalBatch HistoricalBatch
historical_batch_fields p =
    fields_of (λ block_roots state_roots. record { block_roots = block_roots; state_roots = state_roots })
    ▹ (λ b. b.block_roots) ∶ vector_codec bytes32 p.slots_per_historical_root
    ▹ (λ b. b.state_roots) ∶ vector_codec bytes32 p.slots_per_historical_root

unfoldable pub historical_batch_codec : Preset → Codec HistoricalBatch
historical_batch_codec p = container_of (historical_batch_fields p)

-- the roots of the latest blocks and states
unfoldable pub historical_batch : PlainState → HistoricalBatch
historical_batch state = record { block_roots = state.block_roots; state_roots = state.state_roots }

-- process_historical_roots_update(state): once the roots have gone round, that of all of them is kept
unfoldable pub process_historical_roots_update : PlainState → Outcome PlainState
process_historical_roots_update state =
    if not ((get_current_epoch state + 1) % (state.preset.slots_per_historical_root / state.preset.slots_per_epoch) == 0) then done state else do
      historical_roots ← checked_push state.preset.historical_roots_limit state.historical_roots ((historical_batch_codec state.preset).hash_tree_root (historical_batch state))
      done (record state { historical_roots = historical_roots })
