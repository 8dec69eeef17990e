use Rattle.std.proofs.Common.{sym, subst}
use Rattle.spec_fork_choice.specs.Store.{Store}
use Rattle.fork_store.specs.inside.Plain.{plain_of}
use Rattle.fork_store.specs.inside.CheckpointStates.{IsStateOf}
use Rattle.fork_store.proofs.CheckpointStates.{kept_or_not}
use Rattle.fork_store.proofs.store_fields.StoreFields.keep_checkpoint_state.Goals as goal

pub invariant_of-self : goal.invariant_of-self
invariant_of-self c = (
  c.self.invariant.0,
  kept_or_not c.keep.result (plain_of c.self.inside) c.self.inside.states c.keep.new.self c.self.inside.finalized.epoch c.args.made c.keep.ensures c.self.invariant.1
      (subst (λ (s : Store). IsStateOf s c.args.made) (sym c.self.view_is) c.requires),
)
