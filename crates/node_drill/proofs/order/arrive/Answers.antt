-- One event more, as it comes.
use Rattle.node_drill.proofs.Arriving.{tick_comes, once_comes, twice_comes, late_comes}
use Rattle.node_drill.proofs.order.arrive.Goals as goal

pub returns-in_ok-extend_from_slice-in-Tick : goal.returns-in_ok-extend_from_slice-in-Tick
returns-in_ok-extend_from_slice-in-Tick c = λ later.
    let comes = tick_comes c.args.places.now.items c.args.waiting.now.items c.args.place later in
    cc (comes, c.in_ok-extend_from_slice-in-Tick.ensures.items, c.in_ok-push-in-Tick.ensures.items)

pub returns-in_ok-push-in-Once : goal.returns-in_ok-push-in-Once
returns-in_ok-push-in-Once c = λ later.
    let comes = once_comes c.args.places.now.items c.args.waiting.now.items c.args.place later in
    cc (comes, c.in_ok-push-in-Once.ensures.items)

pub returns-in_ok-push-in-Twice-2 : goal.returns-in_ok-push-in-Twice-2
returns-in_ok-push-in-Twice-2 c = λ later.
    let comes = twice_comes c.args.places.now.items c.args.waiting.now.items c.args.place later in
    cc (comes, c.in_ok-push-in-Twice.ensures.items, c.in_ok-push-in-Twice-2.ensures.items)

pub returns-in_ok-push-in-Late : goal.returns-in_ok-push-in-Late
returns-in_ok-push-in-Late c = λ later.
    let comes = late_comes c.args.places.now.items c.args.waiting.now.items c.args.place later in
    cc (comes, c.in_ok-push-in-Late.ensures.items)
