use Rattle.forensics.proofs.Offenders.{total_is, total_never_stops}
use Rattle.forensics.proofs.judge.genesis_total.Goals as goal

pub total_active-requires : goal.total_active-requires
total_active-requires c = tt

pub unreachable-requires : goal.unreachable-requires
unreachable-requires c = total_never_stops c.args.genesis.now c.in-Err.field-0 c.requires c.in-Err.ensures

pub unreachable-unreachable : goal.unreachable-unreachable
unreachable-unreachable c = c.unreachable.result

pub returns : goal.returns
returns c = total_is c.args.genesis.now c.in-Ok.total c.requires c.in-Ok.ensures
