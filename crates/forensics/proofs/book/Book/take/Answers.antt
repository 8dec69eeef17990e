use Rattle.forensics.proofs.Histories.{are_kept_with, are_kept_still}
use Rattle.forensics.proofs.book.Book.take.Goals as goal

pub invariant_of-self-in-Ok : goal.invariant_of-self-in-Ok
invariant_of-self-in-Ok c = are_kept_with c.self.inside.votes _ c.args.which _ c.self.inside.first c.self.inside.second _ _ c.requires.which c.self.invariant c.in-Ok.ensures c.in_ok-keep_in.ensures.first c.in_ok-keep_in.ensures.second

pub invariant_of-self-in-Err : goal.invariant_of-self-in-Err
invariant_of-self-in-Err c = are_kept_still c.self.inside.votes _ c.args.which c.len-firsts.result c.len-seconds.result _ c.self.inside.first c.self.inside.second _ _ _ _ c.requires.which c.self.invariant c.in-Err.ensures c.len-firsts.ensures c.len-seconds.ensures
    c.in_ok-keep_in.ensures.first c.in_ok-keep_in.ensures.second c.truncate.ensures c.truncate-in-Err.ensures
