-- The one block of the keeper is that of the store.
use Rattle.std.proofs.Common.{◌≡◌, ◌∙◌, ◌<◌, ◌≤◌, ◌^◌, ℕ, List, [], ◌∷◌, subst, sym}
use Rattle.spec_state.specs.Misc.{compute_start_slot_at_epoch}
use Rattle.spec_fork_choice.specs.Store.{KeptBlock, first_slot}
use Rattle.fork_store.specs.inside.Accepted.{kept_of}
use Rattle.fork_store.specs.Stores.{first_epoch}
use Rattle.fork_store.specs.Trees.{IsTree}
use Rattle.fork_store.proofs.Anchors.{anchor_low, first_begins, first_is_kept, first_is_late}
use Rattle.fork_store.proofs.Keepers.{first_all}
use Rattle.fork_store.proofs.Trees.{tree_of_one}
use Rattle.fork_store.proofs.get_forkchoice_store.forkchoice_fields.Goals as goal

pub of_first-requires-clause-kept : goal.of_first-requires-clause-kept
of_first-requires-clause-kept c =
    first_all c.args.keeper.now.blocks c.args.block.now c.args.root c.args.state.now c.requires.keeper
    (first_is_kept c.args.config.now c.args.state.now c.args.block.now c.args.root c.requires.anchor c.requires.none c.requires.low c.requires.root)

pub as_opened-requires-clause-tree : goal.as_opened-requires-clause-tree
as_opened-requires-clause-tree c =
    let kept : KeptBlock = kept_of c.args.root c.args.block.now c.args.state.now in
    subst IsTree (sym (c.in_ok-blocks.ensures ∙ c.requires.keeper)) (tree_of_one kept)

pub as_opened-requires-clause-low : goal.as_opened-requires-clause-low
as_opened-requires-clause-low c =
    subst (λ (epoch : ℕ). compute_start_slot_at_epoch c.args.config.now.preset epoch < 2 ^ 64) (sym c.current_epoch.ensures.exact)
    (anchor_low c.args.config.now c.args.state.now c.args.block.now c.requires.anchor c.requires.preset c.requires.low)

pub as_opened-requires-clause-begins : goal.as_opened-requires-clause-begins
as_opened-requires-clause-begins c =
    let kept : KeptBlock = kept_of c.args.root c.args.block.now c.args.state.now in
    subst (λ (blocks : List KeptBlock). compute_start_slot_at_epoch c.args.config.now.preset (first_epoch c.args.config.now.preset blocks) ≡ first_slot blocks)
    (sym (c.in_ok-blocks.ensures ∙ c.requires.keeper)) (first_begins c.args.config.now kept c.requires.anchor c.requires.preset)

pub as_opened-requires-clause-late : goal.as_opened-requires-clause-late
as_opened-requires-clause-late c =
    let kept : KeptBlock = kept_of c.args.root c.args.block.now c.args.state.now in
    subst (λ (blocks : List KeptBlock). first_epoch c.args.config.now.preset blocks ≤ c.current_epoch.result)
    (sym (c.in_ok-blocks.ensures ∙ c.requires.keeper))
    (subst (λ (epoch : ℕ). first_epoch c.args.config.now.preset (kept ∷ []) ≤ epoch) (sym c.current_epoch.ensures.exact)
    (first_is_late c.args.config.now kept c.requires.anchor c.requires.preset))
