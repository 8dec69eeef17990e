use Rattle.std.proofs.Common.{Bor, subst}
use Rattle.spec_fork_choice.specs.Store.{Store}
use Rattle.fork_store.specs.inside.Kept.{CheckpointState}
use Rattle.fork_store.specs.inside.CheckpointStates.{AreStatesOf}
use Rattle.fork_store.proofs.CheckpointStates.{found_own, found_at}
use Rattle.fork_store.proofs.store_fields.StoreFields.checkpoint_state.Goals as goal

pub returns-clause-own : goal.returns-clause-own
returns-clause-own c =
    found_own {X = Bor CheckpointState} (λ kept. kept.now) c.find.result c.args.self.now c.self.inside.states c.args.checkpoint
    (subst (λ (s : Store). AreStatesOf s.config s.blocks c.self.inside.states) c.self.view_is c.self.invariant.1) c.find.ensures

pub returns-clause-checkpoint : goal.returns-clause-checkpoint
returns-clause-checkpoint c =
    found_at {X = Bor CheckpointState} (λ kept. kept.now) c.find.result c.args.self.now c.self.inside.states c.args.checkpoint
    (subst (λ (s : Store). AreStatesOf s.config s.blocks c.self.inside.states) c.self.view_is c.self.invariant.1) c.find.ensures
