-- The configuration ejects the made validators, memory ran out, or the chains are made.
use Rattle.std.proofs.Common.{None, arith}
use Rattle.std.proofs.lemmas.Bool.{le-ltb, lt-ltb}
use Rattle.beacon_node.proofs.Drilled.{begins, drills, ejects, made_begins, makers_still, no_config_files, no_memory}
use Rattle.beacon_node.proofs.Feeding.{new_keeps}
use Rattle.beacon_node.proofs.drill.drill_config.Goals as goal

pub returns-then-ejection_balance-ge-FULL_BALANCE-clause-over : goal.returns-then-ejection_balance-ge-FULL_BALANCE-clause-over
returns-then-ejection_balance-ge-FULL_BALANCE-clause-over g c =
    ejects c.args.number c.args.config.now _ (le-ltb c.args.config.now.ejection_balance 32_000_000_000 (omega (arith, c.ejection_balance.ensures.exact, c.if-ejection_balance-ge-FULL_BALANCE.true)))

pub returns-in-Err-clause-over : goal.returns-in-Err-clause-over
returns-in-Err-clause-over g c = no_memory _ _ (no_config_files c.args.number c.args.config.now)

pub returns-in-Err-genesis-clause-over : goal.returns-in-Err-genesis-clause-over
returns-in-Err-genesis-clause-over g c = no_memory _ _ (no_config_files c.args.number c.args.config.now)

pub drill_from-requires-clause-genesis : goal.drill_from-requires-clause-genesis
drill_from-requires-clause-genesis g c =
    made_begins c.args.number c.args.config.now c.in-Ok-genesis.genesis c.preset-preset.ensures.preset (begins c.args.number c.args.config.now c.in-Ok.makers.own c.in-Ok-genesis.genesis c.in-Ok.ensures.own c.in-Ok-genesis.ensures.state)
    c.in-Ok-genesis.ensures.passes

pub drill_from-requires-clause-makers : goal.drill_from-requires-clause-makers
drill_from-requires-clause-makers g c = makers_still _ c.in-Ok.makers c.in-Ok.ensures

pub drill_from-requires-clause-keeps : goal.drill_from-requires-clause-keeps
drill_from-requires-clause-keeps g c =
    new_keeps (record { config = c.args.config.now; number = c.args.number; which = None }) c.in-Ok-genesis.genesis c.in-Ok.makers.own c.in-Ok.ensures.own
    (begins c.args.number c.args.config.now c.in-Ok.makers.own c.in-Ok-genesis.genesis c.in-Ok.ensures.own c.in-Ok-genesis.ensures.state)
    c.in-Ok-genesis.ensures.passes

pub returns-clause-over : goal.returns-clause-over
returns-clause-over g c =
    drills c.args.number c.args.config.now c.in-Ok.makers c.in-Ok-genesis.genesis c.drill_from.result _ _
    (lt-ltb c.args.config.now.ejection_balance 32_000_000_000 (omega (arith, c.ejection_balance.ensures.exact, c.if-ejection_balance-ge-FULL_BALANCE.false)))
    c.in-Ok.ensures (begins c.args.number c.args.config.now c.in-Ok.makers.own c.in-Ok-genesis.genesis c.in-Ok.ensures.own c.in-Ok-genesis.ensures.state) c.drill_from.ensures.over
