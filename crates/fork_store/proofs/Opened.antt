-- The whole store as it opens.
use Rattle.std.proofs.Common.{◌≡◌, ◌∙◌, ℕ, List, length, Option, None, refl, sym, ap, subst, arith}
use Rattle.std.proofs.lemmas.Bool.{false≢true}
use Rattle.beacon_types.specs.declared.checkpoint.Checkpoint.{Checkpoint}
use Rattle.beacon_types.specs.Blocks.{block_codec}
use Rattle.beacon_types.specs.declared.block.BeaconBlock.{BeaconBlock}
use Rattle.bc_preset.specs.declared.configuration.ConfigValues.{ConfigValues}
use Rattle.block_array.specs.PlainArray.{PlainArray}
use Rattle.spec_state.specs.declared.plain.PlainState.{PlainState}
use Rattle.spec_state.specs.Accessors.{get_current_epoch}
use Rattle.spec_fork_choice.specs.Anchor.{anchor_fault}
use Rattle.spec_fork_choice.specs.Store.{Store}
use Rattle.spec_fork_choice.specs.GetForkchoiceStore.{get_forkchoice_store}
use Rattle.spec_fork_choice.specs.OnEvent.{first_clash}
use Rattle.fork_store.specs.Stores.{IsRootOf}
use Rattle.fork_store.specs.inside.Openings.{array_as_opened}
use Rattle.fork_store.specs.Arrays.{Balances, facts_of, IsArrayOf}
use Rattle.fork_store.specs.inside.Wholes.{balances_for, IsReady, IsWhole}
use Rattle.fork_store.proofs.Following.{is_same}
use Rattle.fork_store.proofs.ArraysOpened.{first_array}
use Rattle.fork_store.proofs.Anchors.{anchor_parts}
use Rattle.fork_store.proofs.Chains.{first_is_chained}

module _ (config : ConfigValues) (state : PlainState) (block : BeaconBlock) (root : List ℕ) (ready : Option Balances) (good : anchor_fault config state block ≡ None) (none : first_clash block ≡ None)
    (roots : length state.block_roots ≡ state.preset.slots_per_historical_root) (preset : state.preset ≡ config.preset) (is : IsRootOf root block) where
  abbrev opens : Store
  opens = get_forkchoice_store config state block

  whole_of : IsWhole opens (array_as_opened opens block.slot root (facts_of state)) ready
  unfolding IsRootOf get_forkchoice_store IsReady
  whole_of =
      let checkpoint : Checkpoint = record { epoch = get_current_epoch state; root = block_codec.hash_tree_root block } in
      record {
        array_of = subst (λ (r : List ℕ). IsArrayOf opens (array_as_opened opens block.slot r (facts_of state))) (sym is)
            (let b : Balances = balances_for opens opens.justified_checkpoint in first_array config state block b.list b.count b.total none refl);
        chained = let parts = anchor_parts config state block good in first_is_chained config state block parts.sound parts.slot roots preset;
        few = omega arith;
        ready_is = λ other. absurd (false≢true (sym other ∙ is_same checkpoint checkpoint refl));
      }

  pub opened : (store : Store) (array : PlainArray) → store ≡ opens → array ≡ array_as_opened store block.slot root (record { justified = state.current_justified_checkpoint; finalized = state.finalized_checkpoint })
      → IsWhole store array ready
  unfolding facts_of
  opened store array stores at =
      subst (λ (s : Store). IsWhole s array ready) (sym stores)
      (subst (λ (x : PlainArray). IsWhole opens x ready) (sym (at ∙ ap (λ (s : Store). array_as_opened s block.slot root (facts_of state)) stores)) whole_of)

pub ruleset opening = (opened)
