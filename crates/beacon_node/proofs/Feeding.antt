-- What the events of a made chain rely on of the store that takes them.
use Rattle.std.proofs.Common.{◌≡◌, ◌∙◌, ℕ, List, Option, Some, None, Result, sym, ap, subst}
use Rattle.bc_words.specs.declared.store_stop.StoreStop.{StoreStop}
use Rattle.spec_state.specs.declared.plain.PlainState.{PlainState}
use Rattle.spec_state.specs.Genesis.{genesis_fault, header_root_of}
use Rattle.spec_fork_choice.specs.Store.{Store}
use Rattle.spec_fork_choice.specs.GetForkchoiceStore.{genesis_store, get_forkchoice_store}
use Rattle.spec_fork_choice.specs.OnEvent.{on_event}
use Rattle.spec_drill.specs.Plan.{Plan}
use Rattle.spec_drill.specs.MakeGenesis.{genesis_of_plan}
use Rattle.spec_drill.specs.Maker.{PlainMaker, new_maker}
use Rattle.chain_maker.specs.Next.{StepIs}
use Rattle.chain_maker.specs.declared.given.SteppedBlock.{SteppedBlock}
use Rattle.fork_store.specs.Events.{AcceptsBy, accepted_of}
use Rattle.fork_store.specs.declared.on_event.Accepted.{Accepted}
use Rattle.fork_store.specs.KeptStates.{KeepsState, KeepsStates}
use Rattle.fork_store.proofs.KeptConfigs.{answer_keeps}
use Rattle.fork_store.proofs.KeptStates.{genesis_is_kept, step_of_kept}
use Rattle.beacon_node.specs.inside.Feeds.{IsLent, Keeps, Lends}

same_config : (store : Store) (old new : PlainMaker) → new.plan ≡ old.plan → store.config ≡ old.plan.config → store.config ≡ new.plan.config
same_config store old new plan is = is ∙ ap (λ (p : Plan). p.config) (sym plan)

-- what is given next
pub lent : (store : Store) (old new : PlainMaker) (stepped : Option SteppedBlock) → StepIs stepped old new → new.plan ≡ old.plan → Keeps store old → Lends store new stepped
lent store old new None is plan keeps = record {
  config = same_config store old new plan keeps.config;
  state = subst (λ (s : PlainState). KeepsState store (header_root_of s) s) (sym is) keeps.state;
}
lent store old new (Some stepped) is plan keeps = record {
  config = same_config store old new plan keeps.config;
  step = step_of_kept store old.plan.config old.state stepped.block stepped.step keeps.config (subst (λ (root : List ℕ). KeepsState store root old.state) (sym is.parent) keeps.state) is.step is.sound is.slot;
  state = is.state;
}

-- the store that took an event without a step
pub still_keeps : (old new : Store) (maker : PlainMaker) (kind : ℕ) (payload : List ℕ) (answer : Result Accepted StoreStop) → AcceptsBy accepted_of answer old new (on_event old kind payload) → Keeps old maker → Keeps new maker
still_keeps old new maker kind payload answer is keeps =
    let stays : KeepsStates old new = answer_keeps old new kind payload answer is in
    record { config = stays.config ∙ keeps.config; state = stays.states (header_root_of maker.state) maker.state keeps.state }

-- and with one
pub keeps_lent : (old new : Store) (maker : PlainMaker) (stepped : SteppedBlock) (kind : ℕ) (payload : List ℕ) (answer : Result Accepted StoreStop) → AcceptsBy accepted_of answer old new (on_event old kind payload)
    → IsLent old maker stepped → KeepsState new (header_root_of stepped.step.state) stepped.step.state → Keeps new maker
keeps_lent old new maker stepped kind payload answer is lent state = record {
  config = (answer_keeps old new kind payload answer is).config ∙ lent.config;
  state = subst (λ (s : PlainState). KeepsState new (header_root_of s) s) (sym lent.state) state;
}

-- the store at genesis, for the new maker of a plan
pub new_keeps : (plan : Plan) (genesis : PlainState) (maker : PlainMaker) → maker ≡ new_maker plan → genesis ≡ genesis_of_plan plan → genesis_fault genesis ≡ None → Keeps (genesis_store plan.config genesis) maker
unfolding genesis_store get_forkchoice_store new_maker
new_keeps plan genesis maker new is good = record {
  config = ap (λ (m : PlainMaker). m.plan.config) (sym new);
  state = subst (λ (s : PlainState). KeepsState (genesis_store plan.config genesis) (header_root_of s) s) (is ∙ ap (λ (m : PlainMaker). m.state) (sym new)) (genesis_is_kept plan.config genesis good);
}
