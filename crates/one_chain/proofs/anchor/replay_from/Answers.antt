-- The store at the anchor doesn't open, or the record comes next.
use Rattle.std.proofs.Common.{[], ◌∷◌}
use Rattle.one_chain.proofs.Outside.{untouched, ends_here, store_causes}
use Rattle.one_chain.proofs.AnchorReaders.{anchor_goes_on, anchor_over}
use Rattle.one_chain.proofs.anchor.replay_from.Goals as goal

pub returns-in-Err-clause-answers : goal.returns-in-Err-clause-answers
returns-in-Err-clause-answers g c =
    rw c.no_store.ensures (anchor_over c.args.config.now c.args.state c.args.block c.args.record_name.now c.in-Err.stop _ _ c.in-Err.ensures)

pub returns-in-Ok-clause-answers : goal.returns-in-Ok-clause-answers
returns-in-Ok-clause-answers g c =
    anchor_goes_on c.args.config.now c.args.state c.args.block c.in-Ok.store.plain c.args.record_name.now c.replay_record.result _ _ _ _ c.in-Ok.ensures c.replay_record.ensures.answers

pub returns-in-Err-clause-outside : goal.returns-in-Err-clause-outside
returns-in-Err-clause-outside g c = rw c.no_store.ensures (ends_here [] (c.args.record_name.now ∷ []) (untouched _ _) (store_causes c.in-Err.stop))
