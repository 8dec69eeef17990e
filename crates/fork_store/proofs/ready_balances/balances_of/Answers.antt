use Rattle.std.proofs.Common.{◌≡◌, ◌∙◌}
use Rattle.std.proofs.lemmas.Result.{IfOk-weaker}
use Rattle.spec_fork_choice.specs.StoreTargetCheckpointState.{store_target_checkpoint_state}
use Rattle.fork_store.specs.Arrays.{Balances, balances_in, balances_of}
use Rattle.fork_store.proofs.Weights.{some_balances}
use Rattle.fork_store.proofs.ready_balances.balances_of.Goals as goal

pub returns-in-Ok-clause-balances : goal.returns-in-Ok-clause-balances
returns-in-Ok-clause-balances c =
    IfOk-weaker c.balances_in.result (λ (b : Balances). b ≡ balances_in c.in-Ok.state) (λ (b : Balances). b ≡ balances_of (store_target_checkpoint_state c.args.store.now c.args.checkpoint))
    (λ b is. is ∙ some_balances (store_target_checkpoint_state c.args.store.now c.args.checkpoint) c.in-Ok.state c.in-Ok.ensures.state) c.balances_in.ensures
