use Rattle.forensics.proofs.Reserved.{reserved_by}
use Rattle.forensics.proofs.spans.reserve.reserve_one.Goals as goal

pub returns-in-Some-clause-room : goal.returns-in-Some-clause-room
returns-in-Some-clause-room c = reserved_by c.reserve.result c.args.spans.now.items c.args.validator c.args.count c.in-Some.own.now c.reserve.new.self c.in-Some.ensures.item.3.0 c.reserve.ensures.same c.reserve.ensures.room
