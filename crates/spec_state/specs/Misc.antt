-- Epochs and proposers (beacon-chain.md, "Misc"). What the published text takes from its preset stands first, then its
-- arguments in their order. compute_shuffled_index and compute_committee stand in the crates that compute them.
use Rattle.std.specs.Prelude.{ℕ, zero, suc, ◌*◌, ◌/◌, List, [], ◌∷◌}
use Rattle.bc_words.specs.Outcome.{Outcome, ◌>>=◌, checked_add}
use Rattle.bc_preset.specs.declared.presets.Preset.{Preset}
use Rattle.beacon_types.specs.declared.validator.Validator.{Validator}
use Rattle.committees.specs.Proposers.{proposer_below}
use Rattle.spec_state.specs.declared.plain.PlainState.{PlainState}
use Rattle.spec_state.specs.Constants.{max_proposer_candidates}

-- the effective balance of the validator with an index; one that is not in the registry counts 0
unfoldable pub effective_balance : List Validator → ℕ → ℕ
effective_balance [] index = 0
effective_balance (v ∷ validators) zero = v.effective_balance
effective_balance (v ∷ validators) (suc index) = effective_balance validators index

-- compute_proposer_index: refused where no index is given or a balance is too great to be weighed, and the limit where
-- none of the candidates passes
abbrev pub compute_proposer_index : PlainState → List ℕ → List ℕ → Outcome ℕ
compute_proposer_index state indices seed =
    proposer_below state.preset (effective_balance state.validators) indices seed max_proposer_candidates

-- compute_epoch_at_slot
abbrev pub compute_epoch_at_slot : Preset → ℕ → ℕ
compute_epoch_at_slot preset slot = slot / preset.slots_per_epoch

-- compute_start_slot_at_epoch
abbrev pub compute_start_slot_at_epoch : Preset → ℕ → ℕ
compute_start_slot_at_epoch preset epoch = epoch * preset.slots_per_epoch

-- compute_activation_exit_epoch: the epoch of an activation or exit that begins at this one
unfoldable pub compute_activation_exit_epoch : Preset → ℕ → Outcome ℕ
compute_activation_exit_epoch preset epoch = do
  next ← checked_add epoch 1
  checked_add next preset.max_seed_lookahead
