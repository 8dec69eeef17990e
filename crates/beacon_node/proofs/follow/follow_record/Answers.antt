-- The record could not be opened, or its events were followed.
use Rattle.std.proofs.Common.{[], ◌∷◌, inl}
use Rattle.beacon_node.proofs.Following.{outside_behind, unopened_outside}
use Rattle.beacon_node.proofs.Forensics.{record_followed}
use Rattle.one_chain.proofs.Steps.{unopened}
use Rattle.beacon_node.proofs.ByFiles.{unread_breaks}
use Rattle.beacon_node.proofs.follow.follow_record.Goals as goal

pub returns-in-Err-clause-followed : goal.returns-in-Err-clause-followed
returns-in-Err-clause-followed g c = rw c.unread.ensures (inl (unread_breaks c.in-Err.trouble, unopened c.args.name.now c.in-Err.trouble _ _ c.in-Err.ensures.opens))

pub returns-clause-followed : goal.returns-clause-followed
returns-clause-followed g c =
    record_followed c.args.side c.args.name.now c.in-Ok.file c.follow_events.result c.args.store.now.plain _ _ _ _ c.in-Ok.ensures.opens (rw (c.new-frames.ensures, c.requires.new) at c.follow_events.ensures.over)

pub returns-in-Err-clause-outside : goal.returns-in-Err-clause-outside
returns-in-Err-clause-outside g c = rw c.unread.ensures (unopened_outside (c.args.name.now ∷ []) c.in-Err.trouble c.in-Err.ensures.causes c.open.ensures.keeps)

pub returns-clause-outside : goal.returns-clause-outside
returns-clause-outside g c = outside_behind (c.args.name.now ∷ []) [] c.follow_events.result c.open.ensures.keeps c.follow_events.ensures.outside
