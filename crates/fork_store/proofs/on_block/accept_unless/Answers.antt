-- The block is taken into the store as it was: what was kept of a checkpoint changes nothing that contracts see.
use Rattle.std.proofs.Common.{◌≡◌, ◌∙◌, ℕ, ◌<◌, ◌-◌, ◌^◌, List, Option, Some, None, length, ap, refl, subst, sym}
use Rattle.bc_words.specs.Events.{accepted, event_clashes}
use Rattle.bc_words.specs.declared.store_stop.ClashKind.{ClashKind}
use Rattle.beacon_types.specs.declared.block.BeaconBlock.{BeaconBlock}
use Rattle.spec_fork_choice.specs.Store.{KeptBlock, Store}
use Rattle.spec_fork_choice.specs.Clash.{clash_of}
use Rattle.spec_fork_choice.specs.OnBlock.{BlockIn, accept_block, with_accepted}
use Rattle.spec_transition.specs.ProcessSlots.{Stepped}
use Rattle.fork_store.specs.inside.Accepted.{kept_of}
use Rattle.fork_store.specs.inside.Chains.{IsLinked}
use Rattle.fork_store.specs.Arrays.{node_number}
use Rattle.fork_store.specs.Keepers.{IsKeeperOf}
use Rattle.fork_store.specs.inside.Keepers.{IsStepOn}
use Rattle.fork_store.specs.Stores.{IsBehind}
use Rattle.fork_store.specs.Trees.{HasParent}
use Rattle.fork_store.specs.inside.Wholes.{IsWhole}
use Rattle.fork_store.proofs.Keepers.{keeper_same}
use Rattle.fork_store.proofs.ArraysOpened.{unclashed_root}
use Rattle.fork_store.proofs.Stays.{keeper_behind, keeper_unchanged, stop_leaves}
use Rattle.fork_store.proofs.on_block.accept_unless.Goals as goal

pub accept-requires-clause-few : goal.accept-requires-clause-few
accept-requires-clause-few c = subst (λ (s : Store). length s.blocks < 2 ^ 32 - 1) (sym c.in_ok-keep_justified-in-None.ensures.same) c.requires.few

pub accept-requires-clause-parent : goal.accept-requires-clause-parent
accept-requires-clause-parent c = subst (λ (s : Store). HasParent s.blocks c.args.block.now.message) (sym c.in_ok-keep_justified-in-None.ensures.same) c.requires.parent

pub accept-requires-clause-linked : goal.accept-requires-clause-linked
accept-requires-clause-linked c =
    subst (λ (s : Store). IsLinked s.config s.blocks c.step.inside.state) (sym c.in_ok-keep_justified-in-None.ensures.same)
    (subst (λ (step : Stepped). IsLinked c.args.store.now.config c.args.store.now.blocks step.state) (sym c.step.view_is) c.requires.linked)

pub accept-requires-clause-stepped : goal.accept-requires-clause-stepped
accept-requires-clause-stepped c =
    subst (λ (s : Store). IsStepOn s.config s.blocks c.args.block.now c.step.inside.state) (sym c.in_ok-keep_justified-in-None.ensures.same)
    (subst (λ (step : Stepped). IsStepOn c.args.store.now.config c.args.store.now.blocks c.args.block.now step.state) (sym c.step.view_is) c.requires.stepped)

accepted_is : (store new : Store) (block : BeaconBlock) (root : List ℕ) (step : Stepped) (clash : Option ClashKind) → clash ≡ None → new ≡ with_accepted store (kept_of root block step.state) → accept_block store block root step clash ≡ accepted (new, record { root = root; state_root = block.state_root; entered = step.entered })
unfolding accept_block
accepted_is store new block root step clash none is =
    let left : BlockIn = record { root = root; state_root = block.state_root; entered = step.entered } in
    ap (accept_block store block root step) none ∙ ap (λ (s : Store). accepted (s, left)) (sym is)

pub keep_justified-requires-clause-sound : goal.keep_justified-requires-clause-sound
keep_justified-requires-clause-sound c = (subst (λ (step : Stepped). IsBehind c.args.block.now.message step.state) (sym c.step.view_is) c.requires.behind).sound

pub keep_justified-requires-clause-preset : goal.keep_justified-requires-clause-preset
keep_justified-requires-clause-preset c = subst (λ (step : Stepped). step.state.preset ≡ c.args.store.now.config.preset) (sym c.step.view_is) c.requires.preset

pub accept-requires-clause-preset : goal.accept-requires-clause-preset
accept-requires-clause-preset c =
    subst (λ (s : Store). c.step.inside.state.preset ≡ s.config.preset) (sym c.in_ok-keep_justified-in-None.ensures.same)
    (subst (λ (step : Stepped). step.state.preset ≡ c.args.store.now.config.preset) (sym c.step.view_is) c.requires.preset)

pub accept-requires-clause-named : goal.accept-requires-clause-named
accept-requires-clause-named c =
    unclashed_root c.args.store.now.blocks c.args.root c.args.block.now.message.state_root c.args.block.now.message
    (sym (subst (λ (b : List KeptBlock). None ≡ clash_of b c.args.root c.args.block.now.message.state_root c.args.block.now.message) c.blocks-2.ensures c.in-None.ensures))

pub returns-in_err-accept-in-None-clause-balances_set_stays : goal.returns-in_err-accept-in-None-clause-balances_set_stays
returns-in_err-accept-in-None-clause-balances_set_stays c = λ is. c.in_err-accept-in-None.ensures.balances_set_stays (is ∙ sym (ap (λ (s : Store). s.justified_checkpoint) c.in_ok-keep_justified-in-None.ensures.same))

pub returns-in_ok-accept-in-None-clause-balances_set_stays : goal.returns-in_ok-accept-in-None-clause-balances_set_stays
returns-in_ok-accept-in-None-clause-balances_set_stays c = λ is. c.in_ok-accept-in-None.ensures.balances_set_stays (is ∙ sym (ap (λ (s : Store). s.justified_checkpoint) c.in_ok-keep_justified-in-None.ensures.same))

pub returns-in_ok-accept-in-None-clause-exact : goal.returns-in_ok-accept-in-None-clause-exact
returns-in_ok-accept-in-None-clause-exact c =
    let step : Stepped = record { state = c.step.inside.state; entered = c.step.inside.entered } in
    subst
    (λ (s : Stepped). accept_block c.args.store.now c.args.block.now.message c.args.root s (clash_of c.args.store.now.blocks c.args.root c.args.block.now.message.state_root c.args.block.now.message)
    ≡ accepted (c.accept.new.store, record { root = c.args.root; state_root = c.args.block.now.message.state_root; entered = c.step.inside.entered }))
    c.step.view_is
    (accepted_is c.args.store.now c.accept.new.store c.args.block.now.message c.args.root step (clash_of c.args.store.now.blocks c.args.root c.args.block.now.message.state_root c.args.block.now.message)
    (sym (subst (λ (b : List KeptBlock). None ≡ clash_of b c.args.root c.args.block.now.message.state_root c.args.block.now.message) c.blocks-2.ensures c.in-None.ensures))
    (c.in_ok-accept-in-None.ensures.exact ∙ ap (λ (s : Store). with_accepted s (kept_of c.args.root c.args.block.now.message c.step.inside.state)) c.in_ok-keep_justified-in-None.ensures.same))

clash_is : (store : Store) (block : BeaconBlock) (root : List ℕ) (step : Stepped) (clash : Option ClashKind) (kind : ClashKind) → clash ≡ Some kind → accept_block store block root step clash ≡ event_clashes kind
unfolding accept_block
clash_is store block root step clash kind is = ap (accept_block store block root step) is

pub returns-in-Some-clause-exact : goal.returns-in-Some-clause-exact
returns-in-Some-clause-exact c = (
  refl,
  clash_is c.args.store.now c.args.block.now.message c.args.root c.args.step _ c.in-Some.kind
      (sym (subst (λ (b : List KeptBlock). Some c.in-Some.kind ≡ clash_of b c.args.root c.args.block.now.message.state_root c.args.block.now.message) c.blocks-2.ensures c.in-Some.ensures)),
)

pub returns-in_err-keep_justified-in-None-clause-array_stays : goal.returns-in_err-keep_justified-in-None-clause-array_stays
returns-in_err-keep_justified-in-None-clause-array_stays c = stop_leaves _ refl

pub returns-in_err-keep_justified-in-None-clause-keeper_stays : goal.returns-in_err-keep_justified-in-None-clause-keeper_stays
returns-in_err-keep_justified-in-None-clause-keeper_stays c =
    stop_leaves _ (keeper_unchanged c.args.keeper.now c.keep_justified.new.keeper c.in_err-keep_justified-in-None.ensures.keeper)

pub returns-in_err-accept-in-None-clause-array_stays : goal.returns-in_err-accept-in-None-clause-array_stays
returns-in_err-accept-in-None-clause-array_stays c = stop_leaves _ c.in_err-accept-in-None.ensures.array_stays

pub returns-in_err-accept-in-None-clause-keeper_stays : goal.returns-in_err-accept-in-None-clause-keeper_stays
returns-in_err-accept-in-None-clause-keeper_stays c =
    stop_leaves _ (keeper_behind c.args.keeper.now c.keep_justified.new.keeper c.accept.new.keeper c.in_ok-keep_justified-in-None.ensures.keeper c.in_err-accept-in-None.ensures.keeper_stays)

pub returns-in-Some-clause-array_stays : goal.returns-in-Some-clause-array_stays
returns-in-Some-clause-array_stays c = refl

pub returns-in-Some-clause-keeper_stays : goal.returns-in-Some-clause-keeper_stays
returns-in-Some-clause-keeper_stays c = refl

pub accept-requires-clause-number : goal.accept-requires-clause-number
accept-requires-clause-number c = subst (λ (s : Store). Some c.args.parent ≡ node_number s.blocks c.args.block.now.message.parent_root) (sym c.in_ok-keep_justified-in-None.ensures.same) c.requires.number

pub accept-requires-clause-parts : goal.accept-requires-clause-parts
accept-requires-clause-parts c = record {
  whole = subst (λ (s : Store). IsWhole s c.args.array.now c.args.ready.now) (sym c.in_ok-keep_justified-in-None.ensures.same) c.requires.parts.whole;
  keeper_of = subst (λ (s : Store). IsKeeperOf s c.keep_justified.new.keeper) (sym c.in_ok-keep_justified-in-None.ensures.same)
      (keeper_same c.args.store.now c.args.keeper.now c.keep_justified.new.keeper c.requires.parts.keeper_of c.in_ok-keep_justified-in-None.ensures.keeper);
}

pub returns-in_err-keep_justified-in-None-clause-parts : goal.returns-in_err-keep_justified-in-None-clause-parts
returns-in_err-keep_justified-in-None-clause-parts c = record {
  whole = subst (λ (s : Store). IsWhole s c.args.array.now c.args.ready.now) (sym c.in_err-keep_justified-in-None.ensures.same) c.requires.parts.whole;
  keeper_of = subst (λ (s : Store). IsKeeperOf s c.keep_justified.new.keeper) (sym c.in_err-keep_justified-in-None.ensures.same)
      (keeper_same c.args.store.now c.args.keeper.now c.keep_justified.new.keeper c.requires.parts.keeper_of c.in_err-keep_justified-in-None.ensures.keeper);
}

pub returns-in_err-accept-in-None-clause-parts : goal.returns-in_err-accept-in-None-clause-parts
returns-in_err-accept-in-None-clause-parts c = c.in_err-accept-in-None.ensures.parts

pub returns-in_ok-accept-in-None-clause-parts : goal.returns-in_ok-accept-in-None-clause-parts
returns-in_ok-accept-in-None-clause-parts c = c.in_ok-accept-in-None.ensures.parts

pub returns-in-Some-clause-parts : goal.returns-in-Some-clause-parts
returns-in-Some-clause-parts c = c.requires.parts

pub returns-in_ok-accept-in-None-clause-entered : goal.returns-in_ok-accept-in-None-clause-entered
returns-in_ok-accept-in-None-clause-entered c = ap (λ (step : Stepped). step.entered) c.step.view_is
