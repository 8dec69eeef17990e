-- A step that was made of a kept state, and the state that a store keeps at genesis.
use Rattle.std.proofs.Common.{◌≡◌, ◌∙◌, ◌==◌, ◌<◌, ◌^◌, Bool, None, Some, [], ◌∷◌, if◌then◌else◌, refl, sym, ap}
use Rattle.std.specs.Cmp.Lexicographic.{bytes_decides}
use Rattle.std.specs.List.{AllByRecursion}
use Rattle.bc_words.specs.Outcome.{done}
use Rattle.bc_preset.specs.Presets.{IsPreset}
use Rattle.bc_preset.specs.declared.configuration.ConfigValues.{ConfigValues}
use Rattle.beacon_types.specs.Blocks.{block_codec}
use Rattle.beacon_types.specs.declared.signed_block.SignedBeaconBlock.{SignedBeaconBlock}
use Rattle.spec_state.specs.declared.plain.PlainState.{PlainState}
use Rattle.spec_state.specs.Genesis.{genesis_fault, header_root_of, is_genesis_header}
use Rattle.spec_state.specs.Soundness.{IsSound}
use Rattle.spec_transition.specs.ProcessSlots.{Stepped}
use Rattle.spec_transition.specs.StateTransition.{IsLatest, state_transition}
use Rattle.spec_transition.proofs.HeaderRoot.{block_is_latest}
use Rattle.spec_fork_choice.specs.GetForkchoiceStore.{genesis_block, genesis_store, get_forkchoice_store}
use Rattle.spec_fork_choice.specs.OnBlock.{block_step}
use Rattle.spec_fork_choice.specs.Store.{KeptBlock, Store, block_of}
use Rattle.fork_store.specs.KeptStates.{IsStepOfKept, KeepsState}
use Rattle.fork_store.specs.Stores.{IsBehind, IsKept, IsStore}
use Rattle.fork_store.specs.Trees.{HasParent}
use Rattle.fork_store.specs.inside.Accepted.{check_block}
use Rattle.fork_store.specs.inside.Chains.{IsChained, IsLinked}
use Rattle.fork_store.specs.inside.Keepers.{IsStateBehind, IsStepOn}
use Rattle.fork_store.proofs.Again.{unsigned}
use Rattle.fork_store.proofs.Chains.{passed}
use Rattle.fork_store.proofs.Presets.{found}
use Rattle.fork_store.proofs.Stepping.{step_done, step_parent, step_linked, stepped_on}
use Rattle.fork_store.proofs.Steps.{genesis_header, genesis_latest, state_root_is}

module _ (store : Store) (block : SignedBeaconBlock) (step : Stepped) (made : IsStepOfKept store block.message step) (good : AllByRecursion IsKept store.blocks) where
  behind : IsStateBehind store.blocks block.message.parent_root made.parent
  behind = record { kept = made.kept.kept; found = made.kept.found; same = made.kept.same; good = found IsKept store.blocks block.message.parent_root made.kept.kept good (sym made.kept.found) }

  steps : state_transition made.parent block store.config ≡ done step
  steps = made.steps block refl

  pub made_done : (checked : Unit {0}) → check_block store block.message ≡ done checked → block_step store block ≡ done step
  made_done checked passes = step_done store block made.parent behind checked passes step steps

  pub made_behind : IsBehind block.message step.state
  made_behind = record {
    sound = made.sound;
    slot = made.slot;
    latest = block_is_latest made.parent block store.config step steps;
    state_root = state_root_is made.parent block store.config step steps;
  }

  pub made_parent : HasParent store.blocks block.message
  made_parent = step_parent store block made.parent step behind steps

  pub made_linked : IsChained store → IsPreset store.config.preset → block.message.slot < 2 ^ 64 → IsLinked store.config store.blocks step.state
  made_linked chained preset low = step_linked store block made.parent step behind steps chained preset low

  pub made_on : IsStore store → IsStepOn store.config store.blocks block step.state
  made_on sound = stepped_on store block made.parent step behind steps sound

-- the step by a block from a kept state
pub step_of_kept : (store : Store) (config : ConfigValues) (parent : PlainState) (block : SignedBeaconBlock) (step : Stepped) → store.config ≡ config → KeepsState store block.message.parent_root parent
    → state_transition parent block config ≡ done step → IsSound step.state → step.state.slot ≡ block.message.slot → IsStepOfKept store block.message step
step_of_kept store config parent block step is kept steps sound slot = record {
  parent = parent;
  kept = kept;
  steps = λ signed same. unsigned store.config parent signed block same ∙ (ap (λ (c : ConfigValues). state_transition parent block c) is ∙ steps);
  sound = sound;
  slot = slot;
}

-- ---- at genesis

found_first : (kept : KeptBlock) → block_of (kept ∷ []) kept.root ≡ Some kept
unfolding block_of
found_first kept = ap (λ (b : Bool). if b then Some kept else None) ((bytes_decides kept.root kept.root).1 refl)

latest : (genesis : PlainState) → genesis_fault genesis ≡ None → header_root_of genesis ≡ block_codec.hash_tree_root (genesis_block genesis)
unfolding genesis_fault IsLatest
latest genesis good =
    let slot = passed (genesis.slot == 0) _ _ good in
    genesis_latest genesis (genesis_header genesis (passed (is_genesis_header genesis.latest_block_header) _ _ slot.1).0)

-- the store keeps the genesis state behind its latest block
pub genesis_is_kept : (config : ConfigValues) (genesis : PlainState) → genesis_fault genesis ≡ None → KeepsState (genesis_store config genesis) (header_root_of genesis) genesis
unfolding genesis_store get_forkchoice_store
genesis_is_kept config genesis good =
    let kept : KeptBlock = record { root = block_codec.hash_tree_root (genesis_block genesis); block = genesis_block genesis; state = genesis } in
    record { kept = kept; found = ap (block_of (kept ∷ [])) (latest genesis good) ∙ found_first kept; same = refl }
