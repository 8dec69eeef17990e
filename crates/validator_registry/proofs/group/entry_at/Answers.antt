-- The member there with its balance.
use Rattle.std.proofs.Common.{arith}
use Rattle.validator_registry.proofs.Members.{validator_at}
use Rattle.validator_registry.proofs.group.entry_at.Goals as goal

pub returns-in-Some : goal.returns-in-Some
returns-in-Some c =
    validator_at c.args.members.now c.args.balances.now c.args.at c.in-Some.member.now (omega (arith, c.requires.few, c.requires.room)) c.in-Some.ensures.lookup.3.0 c.in-Some.ensures.lookup.3.1
