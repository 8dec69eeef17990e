-- The kept parent's state, behind the checks.
use Rattle.std.proofs.Common.{◌≡◌, ◌∙◌, ◌<◌, ℕ, List, Some, length, rules, subst, sym}
use Rattle.bc_words.specs.Outcome.{Stops, StopsExactly}
use Rattle.bc_words.specs.declared.stop.Stop.{Stop}
use Rattle.spec_fork_choice.specs.OnBlock.{block_step}
use Rattle.spec_fork_choice.specs.Store.{KeptBlock}
use Rattle.fork_store.specs.Arrays.{node_number}
use Rattle.fork_store.specs.inside.Accepted.{check_block}
use Rattle.fork_store.specs.inside.Keepers.{IsStateBehind}
use Rattle.fork_store.proofs.Finds.{inside}
use Rattle.fork_store.proofs.Stepping.{check_stops}
use Rattle.fork_store.proofs.on_block.block_step.Goals as goal

pub kept_state-requires-clause-keeper : goal.kept_state-requires-clause-keeper
kept_state-requires-clause-keeper g c = c.requires.keeper.blocks ∙ sym c.blocks-2.ensures

pub kept_state-requires-clause-inside : goal.kept_state-requires-clause-inside
kept_state-requires-clause-inside g c =
    subst (λ (b : List KeptBlock). c.args.parent < length b) (sym c.blocks-2.ensures) (inside c.args.store.now.blocks c.args.block.now.message.parent_root c.args.parent c.requires.number)

pub step_from-requires-clause-parent : goal.step_from-requires-clause-parent
step_from-requires-clause-parent g c =
    subst (λ (b : List KeptBlock). (root : List ℕ) → Some c.args.parent ≡ node_number b root → IsStateBehind b root c.in-Ok.state) c.blocks-2.ensures c.in-Ok.ensures.state
    c.args.block.now.message.parent_root c.requires.number

pub step_from-requires-clause-checked : goal.step_from-requires-clause-checked
step_from-requires-clause-checked g c = record { value = c.in_ok-check_block.field-0; is = c.in_ok-check_block.ensures }

pub returns-in_err-check_block-clause-step : goal.returns-in_err-check_block-clause-step
returns-in_err-check_block-clause-step g c =
    let stops : (stop : Stop) → StopsExactly stop (check_block c.args.store.now c.args.block.now.message) → Stops stop (block_step c.args.store.now c.args.block.now) = λ stop is.
    check_stops c.args.store.now c.args.block.now stop c.args.parent c.requires.number is in
    search (rules, stops)
