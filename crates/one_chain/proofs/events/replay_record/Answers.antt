-- The record could not be opened, or its events come.
use Rattle.std.proofs.Common.{[], ◌∷◌}
use Rattle.one_chain.proofs.Outside.{only_shelf, outside_then, ends_here, unopened_causes}
use Rattle.one_chain.proofs.Steps.{unopened, unopened_files}
use Rattle.one_chain.proofs.Readers.{record_over, unread_record}
use Rattle.one_chain.proofs.events.replay_record.Goals as goal

pub returns-in-Err-clause-answers : goal.returns-in-Err-clause-answers
returns-in-Err-clause-answers g c =
    rw c.unread.ensures (unread_record c.args.name.now c.args.store.now.plain c.in-Err.trouble _ _ _ (unopened c.args.name.now c.in-Err.trouble _ _ c.in-Err.ensures.opens) (unopened_files c.args.name.now c.in-Err.trouble _ _ c.in-Err.ensures.opens))

pub returns-clause-answers : goal.returns-clause-answers
returns-clause-answers g c =
    record_over c.args.name.now c.in-Ok.file _ _ c.replay_events.result _ _ _ _ _ c.in-Ok.ensures.opens (rw c.new-frames.ensures at c.replay_events.ensures.over)

pub returns-in-Err-clause-outside : goal.returns-in-Err-clause-outside
returns-in-Err-clause-outside g c =
    rw c.unread.ensures (ends_here (c.args.name.now ∷ []) [] (only_shelf c.open.ensures.keeps) (unopened_causes c.in-Err.trouble c.in-Err.ensures.causes))

pub returns-clause-outside : goal.returns-clause-outside
returns-clause-outside g c = outside_then (c.args.name.now ∷ []) [] (only_shelf c.open.ensures.keeps) c.replay_events.ensures.outside
