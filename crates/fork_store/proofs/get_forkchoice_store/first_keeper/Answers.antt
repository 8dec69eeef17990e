use Rattle.std.proofs.Common.{◌∙◌, [], ◌∷◌, ap, subst, sym}
use Rattle.beacon_types.specs.declared.block.BeaconBlock.{BeaconBlock}
use Rattle.spec_state.specs.declared.plain.PlainState.{PlainState}
use Rattle.fork_store.specs.inside.Accepted.{kept_of}
use Rattle.fork_store.specs.Stores.{IsRootOf}
use Rattle.fork_store.proofs.Keepers.{first_kept}
use Rattle.fork_store.proofs.get_forkchoice_store.first_keeper.Goals as goal

pub returns-clause-blocks : goal.returns-clause-blocks
returns-clause-blocks c =
    first_kept c.in_ok-keeper.keeper.blocks c.in_ok-message.message _ c.args.root c.in_ok-state.state (subst (IsRootOf c.args.root) (sym c.in_ok-message.ensures) c.requires) c.in_ok-keeper.ensures.blocks
    ∙ ap (λ (b : BeaconBlock). kept_of c.args.root b c.in_ok-state.state ∷ []) c.in_ok-message.ensures
    ∙ ap (λ (s : PlainState). kept_of c.args.root c.args.block.now s ∷ []) c.in_ok-state.ensures
