use Rattle.std.proofs.Common.{◌≡◌, ℕ, List, Some, arith}
use Rattle.std.proofs.lemmas.Result.{IfOk-weaker}
use Rattle.state_keeper.specs.Chain.{HasState}
use Rattle.fork_store.specs.Arrays.{node_number}
use Rattle.fork_store.specs.inside.Keepers.{IsStateBehind}
use Rattle.fork_store.proofs.Keepers.{length_held, state_read}
use Rattle.fork_store.proofs.kept_state.kept_state.Goals as goal

pub state_of-requires : goal.state_of-requires
state_of-requires c = let held = length_held c.args.keeper.now.blocks c.args.blocks.now c.requires.keeper in let inside = c.requires.inside in omega (arith, inside, held)

pub returns-clause-state : goal.returns-clause-state
returns-clause-state c =
    IfOk-weaker c.state_of.result (λ state. HasState c.args.keeper.now.blocks c.args.number state) (λ state. (root : List ℕ) → Some c.args.number ≡ node_number c.args.blocks.now root → IsStateBehind c.args.blocks.now root state)
    (λ state has root at. state_read c.args.keeper.now.blocks c.args.blocks.now c.requires.keeper root c.args.number state c.are_kept.ensures at has) c.state_of.ensures.state

pub returns-clause-same : goal.returns-clause-same
returns-clause-same c = c.state_of.ensures.same
