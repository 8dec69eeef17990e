use Rattle.std.proofs.Common.{◌≡◌, ◌∙◌, ◌<◌, ◌-◌, ◌^◌, [], ◌∷◌, ◌++◌, length, Some, sym, ap, subst}
use Rattle.bc_words.specs.Outcome.{Becomes}
use Rattle.spec_fork_choice.specs.Store.{Store}
use Rattle.fork_store.specs.inside.Accepted.{kept_of}
use Rattle.fork_store.specs.Arrays.{node_number}
use Rattle.fork_store.specs.inside.Keepers.{IsStepOn}
use Rattle.fork_store.specs.inside.Plain.{plain_of}
use Rattle.fork_store.specs.Trees.{Follows}
use Rattle.fork_store.proofs.Keepers.{becomes_store, few_after}
use Rattle.fork_store.proofs.Stays.{keeper_spared}
use Rattle.fork_store.proofs.Trees.{kept_store}
use Rattle.fork_store.proofs.ArraysPlaces.{some_numbered}
use Rattle.fork_store.proofs.CheckpointStates.{states_stay}
use Rattle.fork_store.proofs.store_fields.StoreFields.keep.Goals as goal

pub invariant_of-self : goal.invariant_of-self
invariant_of-self c = (
  kept_store c.push.result (plain_of c.self.inside) c.push.new.self (kept_of c.args.root c.args.block.message c.args.state) c.push.ensures.blocks c.self.invariant.0
      (subst (λ (s : Store). c.args.state.preset ≡ s.config.preset) (sym c.self.view_is) c.requires.preset)
      (subst (λ (s : Store). Follows s.blocks (kept_of c.args.root c.args.block.message c.args.state)) (sym c.self.view_is) c.requires.follows)
      (subst (λ (s : Store). 0 < length s.blocks) (sym c.self.view_is) (some_numbered c.args.self.now.blocks c.args.block.message.parent_root c.args.parent (sym c.requires.parent))),
  states_stay c.push.result c.self.inside.config c.self.inside.blocks c.push.new.self (kept_of c.args.root c.args.block.message c.args.state) c.self.inside.states c.push.ensures.blocks c.self.invariant.1,
)

pub push-requires-clause-keeper : goal.push-requires-clause-keeper
push-requires-clause-keeper c = c.requires.keeper.blocks ∙ sym (ap (λ (s : Store). s.blocks) c.self.view_is)

pub push-requires-clause-few : goal.push-requires-clause-few
push-requires-clause-few c = subst (λ (s : Store). length s.blocks < 2 ^ 32 - 1) (sym c.self.view_is) c.requires.few

pub push-requires-clause-fresh : goal.push-requires-clause-fresh
push-requires-clause-fresh c = (subst (λ (s : Store). Follows s.blocks (kept_of c.args.root c.args.block.message c.args.state)) (sym c.self.view_is) c.requires.follows).fresh

pub push-requires-clause-parent : goal.push-requires-clause-parent
push-requires-clause-parent c = subst (λ (s : Store). Some c.args.parent ≡ node_number s.blocks c.args.block.message.parent_root) (sym c.self.view_is) c.requires.parent

pub push-requires-clause-step : goal.push-requires-clause-step
push-requires-clause-step c =
    subst (λ (s : Store). IsStepOn c.args.keeper.now.stepper s.blocks c.args.block c.args.state) (sym c.self.view_is)
    (subst (λ config. IsStepOn config c.args.self.now.blocks c.args.block c.args.state) (sym c.requires.keeper.stepper) c.requires.step)

pub returns-clause-kept : goal.returns-clause-kept
returns-clause-kept c =
    subst (λ (s : Store). Becomes c.push.result s (record (plain_of c.self.inside) { blocks = c.push.new.self }) (record s { blocks = s.blocks ++ kept_of c.args.root c.args.block.message c.args.state ∷ [] })) c.self.view_is
    (becomes_store c.push.result (plain_of c.self.inside) c.push.new.self _ c.push.ensures.blocks)

pub returns-clause-keeper : goal.returns-clause-keeper
returns-clause-keeper c = record {
  stepper = c.push.ensures.stepper ∙ c.requires.keeper.stepper ∙ sym (ap (λ (s : Store). s.config) c.self.view_is);
  blocks = c.push.ensures.keeper;
  few = few_after c.push.result c.self.inside.blocks c.push.new.self (kept_of c.args.root c.args.block.message c.args.state) c.push.ensures.blocks
      (subst (λ (s : Store). length s.blocks < 2 ^ 32 - 1) (sym c.self.view_is) c.requires.few);
}

pub returns-clause-stays : goal.returns-clause-stays
returns-clause-stays c = keeper_spared c.push.result c.args.keeper.now c.push.new.keeper c.push.ensures.stepper c.push.ensures.stays
