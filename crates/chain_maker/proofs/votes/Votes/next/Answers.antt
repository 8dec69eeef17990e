-- The next attestation is given.
use Rattle.std.proofs.Common.{◌∙◌}
use Rattle.chain_maker.proofs.NextVotes.{next_vote, item_at}
use Rattle.chain_maker.proofs.votes.Votes.next.Goals as goal

pub returns-in_ok-write-in-Some-clause-next : goal.returns-in_ok-write-in-Some-clause-next
returns-in_ok-write-in-Some-clause-next c =
    let at = item_at c.args.self.now.all c.as_slice.result.now c.args.self.now.given c.in-Some.vote.now c.as_slice.ensures.same c.in-Some.ensures.lookup.3.0 c.in-Some.ensures.lookup.1 in
    next_vote c.args.self.now c.in-Some.vote.now c.kind-kind.result c.new-payload.result at c.kind-kind.ensures (c.new-payload.ensures ∙ c.in_ok-write-in-Some.ensures)
