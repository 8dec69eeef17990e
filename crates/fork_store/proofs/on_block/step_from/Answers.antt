-- The step from the state of the kept parent.
use Rattle.std.proofs.Common.{◌≡◌, ◌∙◌, rules, ap, subst, sym}
use Rattle.bc_words.specs.Outcome.{done}
use Rattle.spec_transition.specs.ProcessSlots.{Stepped}
use Rattle.spec_fork_choice.specs.OnBlock.{block_step}
use Rattle.fork_store.specs.Stores.{IsBehind}
use Rattle.fork_store.specs.inside.Chains.{IsLinked}
use Rattle.fork_store.specs.inside.Keepers.{IsStepOn}
use Rattle.fork_store.proofs.Keepers.{behind_preset, behind_sound}
use Rattle.fork_store.proofs.Steps.{state_root_is}
use Rattle.fork_store.proofs.Stepping.{step_gives, step_done, step_parent, step_linked, stepped_on}
use Rattle.fork_store.proofs.on_block.step_from.Goals as goal

pub visit_step-requires : goal.visit_step-requires
visit_step-requires g c = record { sound = behind_sound c.args.store.now.blocks c.args.block.now.message.parent_root c.args.parent c.requires.parent }

pub returns-in_err-step-clause-step : goal.returns-in_err-step-clause-step
returns-in_err-step-clause-step g c =
    step_gives c.args.store.now c.args.block.now c.args.parent c.requires.parent c.requires.checked.value c.requires.checked.is c.from_residual.result (search rules)

pub returns-clause-step : goal.returns-clause-step
returns-clause-step g c =
    subst (λ (s : Stepped). block_step c.args.store.now c.args.block.now ≡ done s) (sym c.of.ensures)
    (step_done c.args.store.now c.args.block.now c.args.parent c.requires.parent c.requires.checked.value c.requires.checked.is c.in_ok-step.step (rw (← c.config.ensures) c.in_ok-step.ensures.step))

pub returns-clause-behind : goal.returns-clause-behind
returns-clause-behind g c = subst (λ (s : Stepped). IsBehind c.args.block.now.message s.state) (sym c.of.ensures) (record {
  sound = c.in_ok-step.ensures.sound;
  slot = c.in_ok-step.ensures.slot;
  latest = c.in_ok-step.ensures.latest;
  state_root = state_root_is c.args.parent c.args.block.now _ c.in_ok-step.step c.in_ok-step.ensures.step;
})

pub returns-clause-preset : goal.returns-clause-preset
returns-clause-preset g c =
    ap (λ (s : Stepped). s.state.preset) c.of.ensures
    ∙ c.in_ok-step.ensures.preset
    ∙ behind_preset c.args.store.now.blocks c.args.block.now.message.parent_root c.args.parent c.requires.parent c.args.store.now.config.preset c.is_sound.ensures.store.presets

pub returns-clause-parent : goal.returns-clause-parent
returns-clause-parent g c = step_parent c.args.store.now c.args.block.now c.args.parent c.in_ok-step.step c.requires.parent (rw (← c.config.ensures) c.in_ok-step.ensures.step)

pub returns-clause-linked : goal.returns-clause-linked
returns-clause-linked g c =
    subst (λ (s : Stepped). IsLinked c.args.store.now.config c.args.store.now.blocks s.state) (sym c.of.ensures)
    (step_linked c.args.store.now c.args.block.now c.args.parent c.in_ok-step.step c.requires.parent (rw (← c.config.ensures) c.in_ok-step.ensures.step) c.requires.chained c.is_sound.ensures.preset c.requires.low)

pub returns-clause-stepped : goal.returns-clause-stepped
returns-clause-stepped g c =
    subst (λ (s : Stepped). IsStepOn c.args.store.now.config c.args.store.now.blocks c.args.block.now s.state) (sym c.of.ensures)
    (stepped_on c.args.store.now c.args.block.now c.args.parent c.in_ok-step.step c.requires.parent (rw (← c.config.ensures) c.in_ok-step.ensures.step) c.is_sound.ensures.store)
