use Rattle.std.proofs.Common.{◌∙◌, ap, subst, sym}
use Rattle.bc_words.specs.Outcome.{done}
use Rattle.beacon_types.specs.declared.checkpoint.Checkpoint.{Checkpoint}
use Rattle.spec_state.specs.declared.plain.PlainState.{PlainState}
use Rattle.spec_fork_choice.specs.Store.{Store}
use Rattle.fork_store.specs.inside.Kept.{CheckpointState}
use Rattle.fork_store.specs.inside.CheckpointStates.{IsStateOf}
use Rattle.fork_store.proofs.store_target_checkpoint_state.checkpoint_state_anew.Goals as goal

-- a state is that of a checkpoint
abbrev IsOwn : Store → Checkpoint → PlainState → Type 0
IsOwn store target state = IsStateOf store (record { checkpoint = target; state = state })

pub returns-clause-exact : goal.returns-clause-exact
returns-clause-exact c =
    c.in_ok-state.ensures.exact
    ∙ ap (λ (s : PlainState). done s) (sym c.lent_committees.ensures.same)
    ∙ ap (λ (k : CheckpointState). done k.state) (sym c.new.ensures)

pub returns-clause-own : goal.returns-clause-own
returns-clause-own c =
    subst (IsStateOf c.args.store.now) (sym c.new.ensures)
    (subst (IsOwn c.args.store.now c.args.target) (sym c.lent_committees.ensures.same)
    (record { same = c.in_ok-state.ensures.exact; sound = c.in_ok-state.ensures.sound; preset = c.in_ok-state.ensures.preset }))

pub returns-clause-checkpoint : goal.returns-clause-checkpoint
returns-clause-checkpoint c = ap (λ (k : CheckpointState). k.checkpoint) c.new.ensures
