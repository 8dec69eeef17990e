use Rattle.std.proofs.Common.{◌≡◌, ◌∙◌, [], ◌∷◌, ◌++◌, Some, refl, sym, ap, subst}
use Rattle.block_array.specs.PlainArray.{PlainArray}
use Rattle.block_array.specs.declared.facts.Facts.{Facts}
use Rattle.block_array.specs.Calls.{with_node}
use Rattle.spec_fork_choice.specs.Store.{Store}
use Rattle.beacon_types.specs.declared.signed_block.SignedBeaconBlock.{SignedBeaconBlock}
use Rattle.fork_store.specs.inside.Accepted.{kept_of}
use Rattle.fork_store.specs.Arrays.{node_number, IsArrayOf}
use Rattle.fork_store.specs.inside.Keepers.{IsStepOn}
use Rattle.fork_store.specs.Stores.{IsKept}
use Rattle.fork_store.specs.Trees.{Follows}
use Rattle.fork_store.proofs.Trees.{follows}
use Rattle.fork_store.proofs.Adding.{few_nodes, parent_earlier, parent_fits, node_added, spare_array, block_array, array_same}
use Rattle.fork_store.proofs.Stays.{array_spared, array_unchanged, stop_leaves}
use Rattle.state_keeper.proofs.Made.{refused_as_before}
use Rattle.fork_store.proofs.on_block.add_block.Goals as goal

pub returns-in_err-copy-clause-array : goal.returns-in_err-copy-clause-array
returns-in_err-copy-clause-array c = spare_array c.args.store.now c.args.array.now c.reserve.new.self c.requires.array c.in_ok-reserve.ensures

pub returns-in_err-keep-clause-array : goal.returns-in_err-keep-clause-array
returns-in_err-keep-clause-array c =
    array_same c.args.store.now c.keep.new.self c.reserve.new.self
    (spare_array c.args.store.now c.args.array.now c.reserve.new.self c.requires.array c.in_ok-reserve.ensures) c.in_err-keep.ensures.kept

pub push-room-requires-clause-parent : goal.push-room-requires-clause-parent
push-room-requires-clause-parent c =
    parent_fits c.args.store.now c.args.array.now c.reserve.new.self c.args.block.now.message c.args.parent c.requires.array c.in_ok-reserve.ensures
    c.requires.number

pub returns-clause-array : goal.returns-clause-array
returns-clause-array c =
    block_array c.args.store.now c.keep.new.self c.args.array.now c.reserve.new.self c.push-room.new.self c.args.root c.args.block.now.message c.args.state c.args.parent
    c.requires.array c.in_ok-reserve.ensures c.requires.named
    c.requires.number
    (subst (λ (b : SignedBeaconBlock). c.keep.new.self ≡ record c.args.store.now { blocks = c.args.store.now.blocks ++ kept_of c.args.root b.message c.args.state ∷ [] }) c.in_ok-copy.ensures c.in_ok-keep.ensures.kept)
    (subst (λ (f : Facts). c.push-room.new.self ≡ with_node c.reserve.new.self c.args.parent c.args.block.now.message.slot c.args.root f) c.requires.facts
    (node_added c.push-room.result c.args.array.now c.reserve.new.self c.push-room.new.self
    (with_node c.reserve.new.self c.args.parent c.args.block.now.message.slot c.args.root c.args.facts)
    c.in_ok-reserve.ensures c.push-room.ensures.pushed c.push-room.ensures.spare))

pub returns-in_err-copy-clause-balances_set_stays : goal.returns-in_err-copy-clause-balances_set_stays
returns-in_err-copy-clause-balances_set_stays c = ap (λ (a : PlainArray). a.balances_set) c.in_ok-reserve.ensures

pub returns-in_err-keep-clause-balances_set_stays : goal.returns-in_err-keep-clause-balances_set_stays
returns-in_err-keep-clause-balances_set_stays c = ap (λ (a : PlainArray). a.balances_set) c.in_ok-reserve.ensures

pub returns-clause-balances_set_stays : goal.returns-clause-balances_set_stays
returns-clause-balances_set_stays c =
    ap (λ (a : PlainArray). a.balances_set)
    (node_added c.push-room.result c.args.array.now c.reserve.new.self c.push-room.new.self _ c.in_ok-reserve.ensures c.push-room.ensures.pushed c.push-room.ensures.spare)
    ∙ ap (λ (a : PlainArray). a.balances_set) c.in_ok-reserve.ensures

pub keep-requires-clause-kept : goal.keep-requires-clause-kept
keep-requires-clause-kept c = subst (λ (b : SignedBeaconBlock). IsKept (kept_of c.args.root b.message c.args.state)) (sym c.in_ok-copy.ensures) c.requires.kept

pub keep-requires-clause-step : goal.keep-requires-clause-step
keep-requires-clause-step c = subst (λ (b : SignedBeaconBlock). IsStepOn c.args.store.now.config c.args.store.now.blocks b c.args.state) (sym c.in_ok-copy.ensures) c.requires.step

pub keep-requires-clause-parent : goal.keep-requires-clause-parent
keep-requires-clause-parent c =
    subst (λ (b : SignedBeaconBlock). Some c.args.parent ≡ node_number c.args.store.now.blocks b.message.parent_root) (sym c.in_ok-copy.ensures)
    c.requires.number

pub keep-requires-clause-follows : goal.keep-requires-clause-follows
keep-requires-clause-follows c =
    subst (λ (b : SignedBeaconBlock). Follows c.args.store.now.blocks (kept_of c.args.root b.message c.args.state)) (sym c.in_ok-copy.ensures)
    (follows c.args.store.now.blocks c.args.root c.args.block.now.message c.args.state c.requires.fresh c.requires.parent)

pub push-room-requires-clause-few : goal.push-room-requires-clause-few
push-room-requires-clause-few c = few_nodes c.args.store.now c.args.array.now c.reserve.new.self c.requires.array c.in_ok-reserve.ensures c.requires.few

pub push-room-requires-clause-later : goal.push-room-requires-clause-later
push-room-requires-clause-later c =
    parent_earlier c.args.store.now c.args.array.now c.reserve.new.self c.args.block.now.message c.args.parent c.requires.array c.in_ok-reserve.ensures
    c.requires.number
    c.is_sound.ensures.store.tree c.requires.parent

pub returns-in_err-reserve-clause-array : goal.returns-in_err-reserve-clause-array
returns-in_err-reserve-clause-array c = subst (IsArrayOf c.args.store.now) (sym c.in_err-reserve.ensures) c.requires.array

pub returns-in_err-reserve-clause-balances_set_stays : goal.returns-in_err-reserve-clause-balances_set_stays
returns-in_err-reserve-clause-balances_set_stays c = ap (λ (a : PlainArray). a.balances_set) c.in_err-reserve.ensures

pub returns-in_err-keep-clause-stays : goal.returns-in_err-keep-clause-stays
returns-in_err-keep-clause-stays c = ap (λ (s : Store). s.justified_checkpoint) c.in_err-keep.ensures.kept

pub returns-clause-exact : goal.returns-clause-exact
returns-clause-exact c = subst (λ (b : SignedBeaconBlock). c.keep.new.self ≡ record c.args.store.now { blocks = c.args.store.now.blocks ++ kept_of c.args.root b.message c.args.state ∷ [] }) c.in_ok-copy.ensures c.in_ok-keep.ensures.kept

pub returns-clause-stays : goal.returns-clause-stays
returns-clause-stays c = ap (λ (s : Store). s.justified_checkpoint) c.in_ok-keep.ensures.kept

pub returns-in_err-reserve-clause-exact : goal.returns-in_err-reserve-clause-exact
returns-in_err-reserve-clause-exact c = refused_as_before c.from_residual.result _ _ _ c.from_residual.ensures.0 refl

pub returns-in_err-copy-clause-exact : goal.returns-in_err-copy-clause-exact
returns-in_err-copy-clause-exact c = refused_as_before c.from_residual-in_err-copy.result _ _ _ c.from_residual-in_err-copy.ensures.0 refl

pub returns-in_err-keep-clause-exact : goal.returns-in_err-keep-clause-exact
returns-in_err-keep-clause-exact c = refused_as_before c.from_residual-in_err-keep.result _ _ _ c.from_residual-in_err-keep.ensures.0 c.in_err-keep.ensures.kept

pub returns-clause-keeper : goal.returns-clause-keeper
returns-clause-keeper c = c.keep.ensures.keeper

pub returns-in_err-reserve-clause-array_stays : goal.returns-in_err-reserve-clause-array_stays
returns-in_err-reserve-clause-array_stays c = stop_leaves _ (array_unchanged c.args.array.now c.reserve.new.self c.in_err-reserve.ensures)

pub returns-in_err-copy-clause-array_stays : goal.returns-in_err-copy-clause-array_stays
returns-in_err-copy-clause-array_stays c = stop_leaves _ (array_spared c.args.array.now c.reserve.new.self 0 c.in_ok-reserve.ensures)

pub returns-in_err-keep-clause-array_stays : goal.returns-in_err-keep-clause-array_stays
returns-in_err-keep-clause-array_stays c = stop_leaves _ (array_spared c.args.array.now c.reserve.new.self 0 c.in_ok-reserve.ensures)

pub returns-in_err-reserve-clause-keeper_stays : goal.returns-in_err-reserve-clause-keeper_stays
returns-in_err-reserve-clause-keeper_stays c = stop_leaves _ refl

pub returns-in_err-copy-clause-keeper_stays : goal.returns-in_err-copy-clause-keeper_stays
returns-in_err-copy-clause-keeper_stays c = stop_leaves _ refl

pub returns-in_err-keep-clause-keeper_stays : goal.returns-in_err-keep-clause-keeper_stays
returns-in_err-keep-clause-keeper_stays c = stop_leaves _ c.in_err-keep.ensures.stays
