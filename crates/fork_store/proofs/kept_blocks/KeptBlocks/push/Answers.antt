-- The keeper takes one block more, which has its own root.
use Rattle.std.proofs.Common.{◌≡◌, ◌∙◌, ◌++◌, ◌∷◌, [], sym, ap, subst, arith}
use Rattle.std.specs.List.{AllByRecursion}
use Rattle.bc_preset.specs.declared.configuration.ConfigValues.{ConfigValues}
use Rattle.beacon_types.specs.declared.signed_block.SignedBeaconBlock.{SignedBeaconBlock}
use Rattle.state_parts.proofs.Within.{all_push}
use Rattle.spec_fork_choice.specs.Store.{KeptBlock}
use Rattle.state_keeper.specs.Chain.{Kept}
use Rattle.fork_store.specs.inside.Accepted.{kept_of}
use Rattle.fork_store.specs.Keepers.{kept_blocks}
use Rattle.fork_store.specs.inside.Keepers.{IsStepOn}
use Rattle.fork_store.specs.Roots.{roots_of}
use Rattle.fork_store.specs.Stores.{IsKept}
use Rattle.fork_store.proofs.Finds.{root_added, of_ok}
use Rattle.fork_store.proofs.Keepers.{few_held, number_held, may_step, steps_to, kept_added, done_becomes}
use Rattle.fork_store.proofs.kept_blocks.KeptBlocks.push.Goals as goal

pub add-number-requires-clause-few : goal.add-number-requires-clause-few
add-number-requires-clause-few c = few_held c.make_room.new.keeper.blocks c.args.self.now (ap kept_blocks c.in_ok-make_room.ensures.blocks ∙ c.requires.keeper) c.requires.few

pub add-number-requires-clause-parent : goal.add-number-requires-clause-parent
add-number-requires-clause-parent c = number_held c.make_room.new.keeper.blocks c.args.self.now (ap kept_blocks c.in_ok-make_room.ensures.blocks ∙ c.requires.keeper) c.args.block.message.parent_root c.args.parent c.requires.parent

pub add-number-requires-clause-can : goal.add-number-requires-clause-can
add-number-requires-clause-can c =
    may_step c.make_room.new.keeper.blocks c.args.self.now c.make_room.new.keeper.stepper c.args.block c.args.state c.args.parent (ap kept_blocks c.in_ok-make_room.ensures.blocks ∙ c.requires.keeper) c.requires.parent
    (subst (λ (config : ConfigValues). IsStepOn config c.args.self.now c.args.block c.args.state) (sym c.in_ok-make_room.ensures.stepper) c.requires.step)

pub add-number-requires-clause-step : goal.add-number-requires-clause-step
add-number-requires-clause-step c =
    steps_to c.make_room.new.keeper.blocks c.args.self.now c.make_room.new.keeper.stepper c.args.block c.args.state c.args.parent (ap kept_blocks c.in_ok-make_room.ensures.blocks ∙ c.requires.keeper) c.requires.parent
    (subst (λ (config : ConfigValues). IsStepOn config c.args.self.now c.args.block c.args.state) (sym c.in_ok-make_room.ensures.stepper) c.requires.step)

pub invariant_of-self-2 : goal.invariant_of-self-2
invariant_of-self-2 c =
    let kept : KeptBlock = kept_of c.args.root c.args.block.message c.args.state in
    let grown : kept_blocks c.of.result.value.blocks ≡ c.args.self.now ++ kept ∷ [] =
    ap (λ (k : Kept ConfigValues SignedBeaconBlock). kept_blocks k.blocks) c.of.ensures
    ∙ kept_added c.make_room.new.keeper.blocks c.add-number.new.self.blocks c.args.self.now c.args.block c.args.state c.args.root c.args.parent
    (ap kept_blocks c.in_ok-make_room.ensures.blocks ∙ c.requires.keeper) c.requires.kept.root
    (done_becomes c.add-number.result _ _ _ c.add-number.ensures.blocks (c.add-number.ensures.succeeds c.in_ok-make_room.ensures.room)) in (
      root_added c.args.self.now (kept_blocks c.of.result.value.blocks) c.make_room.new.roots.keys c.insert-room.new.self.keys kept (c.in_ok-make_room.ensures.keys ∙ c.self.invariant.0 ∙ ap roots_of c.self.view_is)
          c.requires.fresh
          (of_ok c.insert-room.result _ c.insert-room.ensures.keys (let room = c.in_ok-make_room.ensures.spare in c.insert-room.ensures.succeeds (omega (arith, room))))
          grown,
      subst (AllByRecursion IsKept) (sym grown) (all_push IsKept c.args.self.now kept (subst (AllByRecursion IsKept) c.self.view_is c.self.invariant.1) c.requires.kept),
    )

pub returns-clause-blocks : goal.returns-clause-blocks
returns-clause-blocks c =
    ap (λ (k : Kept ConfigValues SignedBeaconBlock). kept_blocks k.blocks) c.of.ensures
    ∙ kept_added c.make_room.new.keeper.blocks c.add-number.new.self.blocks c.args.self.now c.args.block c.args.state c.args.root c.args.parent
    (ap kept_blocks c.in_ok-make_room.ensures.blocks ∙ c.requires.keeper) c.requires.kept.root
    (done_becomes c.add-number.result _ _ _ c.add-number.ensures.blocks (c.add-number.ensures.succeeds c.in_ok-make_room.ensures.room))
