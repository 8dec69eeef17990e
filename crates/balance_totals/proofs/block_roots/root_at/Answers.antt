use Rattle.balance_totals.proofs.LookedUp.{read_there, some_there}
use Rattle.balance_totals.proofs.block_roots.root_at.Goals as goal

pub returns : goal.returns
returns c =
    let h = rw c.in-Some.is at c.block_roots_at.ensures in
    read_there c.args.state.now.block_roots c.args.place c.in-Some.root.now h

pub unreachable-requires : goal.unreachable-requires
unreachable-requires c =
    let h = rw c.in-None.is at c.block_roots_at.ensures in
    some_there c.args.state.now.block_roots c.args.place c.requires h
