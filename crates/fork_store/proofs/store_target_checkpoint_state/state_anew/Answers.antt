use Rattle.std.proofs.Common.{◌≡◌, ◌∙◌, ◌<◌, ◌^◌, List, Some, length, subst, sym}
use Rattle.spec_fork_choice.specs.Store.{KeptBlock}
use Rattle.fork_store.specs.Arrays.{node_number}
use Rattle.fork_store.proofs.Finds.{inside}
use Rattle.fork_store.proofs.Keepers.{behind_sound, behind_preset, behind_number, gives_target}
use Rattle.fork_store.proofs.store_target_checkpoint_state.state_anew.Goals as goal

pub state_at-requires-clause-sound : goal.state_at-requires-clause-sound
state_at-requires-clause-sound c =
    behind_sound _ c.args.target.root c.in_ok-state.state
    (behind_number c.args.store.now.blocks _ _ c.args.target.root c.in-Some.number c.in_ok-state.state c.blocks-2.ensures c.blocks-3.ensures c.in-Some.ensures c.in_ok-state.ensures.state)

pub state_at-requires-clause-preset : goal.state_at-requires-clause-preset
state_at-requires-clause-preset c =
    behind_preset _ c.args.target.root c.in_ok-state.state
    (behind_number c.args.store.now.blocks _ _ c.args.target.root c.in-Some.number c.in_ok-state.state c.blocks-2.ensures c.blocks-3.ensures c.in-Some.ensures c.in_ok-state.ensures.state)
    c.args.store.now.config.preset c.is_sound.ensures.store.presets

pub returns-clause-exact : goal.returns-clause-exact
returns-clause-exact c =
    gives_target c.state_at.result c.args.store.now c.args.target c.in_ok-state.state c.start_slot-slot.result
    (behind_number c.args.store.now.blocks _ _ c.args.target.root c.in-Some.number c.in_ok-state.state c.blocks-2.ensures c.blocks-3.ensures c.in-Some.ensures c.in_ok-state.ensures.state)
    c.start_slot-slot.ensures c.state_at.ensures.exact

pub node_number-requires : goal.node_number-requires
node_number-requires c = subst (λ (b : List KeptBlock). length b < 2 ^ 32) (sym c.blocks-2.ensures) c.requires.keeper.few

pub kept_state-requires-clause-keeper : goal.kept_state-requires-clause-keeper
kept_state-requires-clause-keeper c = c.requires.keeper.blocks ∙ sym c.blocks-3.ensures

pub kept_state-requires-clause-inside : goal.kept_state-requires-clause-inside
kept_state-requires-clause-inside c =
    subst (λ (b : List KeptBlock). c.in-Some.number < length b) (sym c.blocks-3.ensures)
    (inside c.args.store.now.blocks c.args.target.root c.in-Some.number (subst (λ (b : List KeptBlock). Some c.in-Some.number ≡ node_number b c.args.target.root) c.blocks-2.ensures c.in-Some.ensures))
