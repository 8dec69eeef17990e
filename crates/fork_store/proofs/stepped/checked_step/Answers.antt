-- The step is the published one, behind the checks.
use Rattle.std.proofs.Common.{rules}
use Rattle.bc_words.specs.Outcome.{Stops, StopsExactly}
use Rattle.bc_words.specs.declared.stop.Stop.{Stop}
use Rattle.spec_fork_choice.specs.OnBlock.{block_step}
use Rattle.fork_store.specs.inside.Accepted.{check_block}
use Rattle.fork_store.proofs.KeptStates.{made_done, made_behind, made_parent, made_linked, made_on}
use Rattle.fork_store.proofs.Stepping.{check_stops}
use Rattle.fork_store.proofs.stepped.checked_step.Goals as goal

pub returns-clause-step : goal.returns-clause-step
returns-clause-step c = made_done c.args.store.now c.args.block.now c.args.step c.requires.made c.is_sound.ensures.kept c.in_ok-check_block.field-0 c.in_ok-check_block.ensures

pub returns-clause-behind : goal.returns-clause-behind
returns-clause-behind c = made_behind c.args.store.now c.args.block.now c.args.step c.requires.made c.is_sound.ensures.kept

pub returns-clause-preset : goal.returns-clause-preset
returns-clause-preset c = (made_linked c.args.store.now c.args.block.now c.args.step c.requires.made c.is_sound.ensures.kept c.requires.chained c.is_sound.ensures.preset c.requires.low).preset

pub returns-clause-parent : goal.returns-clause-parent
returns-clause-parent c = made_parent c.args.store.now c.args.block.now c.args.step c.requires.made c.is_sound.ensures.kept

pub returns-clause-linked : goal.returns-clause-linked
returns-clause-linked c = made_linked c.args.store.now c.args.block.now c.args.step c.requires.made c.is_sound.ensures.kept c.requires.chained c.is_sound.ensures.preset c.requires.low

pub returns-clause-stepped : goal.returns-clause-stepped
returns-clause-stepped c = made_on c.args.store.now c.args.block.now c.args.step c.requires.made c.is_sound.ensures.kept c.is_sound.ensures.store

pub returns-in_err-check_block-clause-step : goal.returns-in_err-check_block-clause-step
returns-in_err-check_block-clause-step c =
    let stops : (stop : Stop) → StopsExactly stop (check_block c.args.store.now c.args.block.now.message) → Stops stop (block_step c.args.store.now c.args.block.now) = λ stop is.
    check_stops c.args.store.now c.args.block.now stop c.args.parent c.requires.number is in
    search (rules, stops)
