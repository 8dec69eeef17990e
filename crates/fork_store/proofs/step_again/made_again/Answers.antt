-- The step is the one by which the block was kept.
use Rattle.std.proofs.Common.{◌≡◌, ℕ, List, Some, subst, sym}
use Rattle.spec_fork_choice.specs.Store.{KeptBlock}
use Rattle.fork_store.specs.Arrays.{node_number}
use Rattle.fork_store.specs.KeptStates.{IsStepOfKept}
use Rattle.fork_store.specs.inside.Keepers.{IsStateBehind}
use Rattle.fork_store.proofs.Again.{made_again}
use Rattle.fork_store.proofs.step_again.made_again.Goals as goal

pub returns-clause-made : goal.returns-clause-made
returns-clause-made c =
    subst (λ step. IsStepOfKept c.args.store.now c.args.block.now.message step) (sym c.again.ensures)
    (made_again c.args.store.now c.args.keeper.now c.requires.keeper c.is_sound.ensures.kept c.is_sound.ensures.store.tree c.steps_were_taken.ensures c.args.number c.args.block.now c.in_ok-state.state c.requires.again
    (subst (λ (b : List KeptBlock). (root : List ℕ) → Some c.args.number ≡ node_number b root → IsStateBehind b root c.in_ok-state.state) c.blocks-2.ensures c.in_ok-state.ensures.state))
