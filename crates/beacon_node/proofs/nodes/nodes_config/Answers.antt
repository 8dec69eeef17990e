-- The configuration ejects the made validators, memory ran out, or the nodes run.
use Rattle.std.proofs.Common.{◌∙◌, sym, arith}
use Rattle.std.proofs.lemmas.Bool.{le-ltb, lt-ltb}
use Rattle.one_chain.specs.declared.status.Status.TheVariants as statuses
use Rattle.beacon_node.proofs.Drilled.{drill_over, made_begins, no_memory, still_new, unwritten_is_no_fault_of_reading, writes_then, wrote_all, wrote_not_all, wrote_out, wrote_well}
use Rattle.beacon_node.proofs.ManyNodes.{ejects, ends_as, inside_outside, no_config_files, nothing_read, run_is}
use Rattle.beacon_node.proofs.nodes.nodes_config.Goals as goal

pub returns-then-ejection_balance-ge-FULL_BALANCE-clause-over : goal.returns-then-ejection_balance-ge-FULL_BALANCE-clause-over
returns-then-ejection_balance-ge-FULL_BALANCE-clause-over g c =
    ejects c.args.words.now.number c.args.words.now.count c.args.config.now _ (le-ltb c.args.config.now.ejection_balance 32_000_000_000 (omega (arith, c.ejection_balance.ensures.exact, c.if-ejection_balance-ge-FULL_BALANCE.true)))

pub returns-in-Err-clause-over : goal.returns-in-Err-clause-over
returns-in-Err-clause-over g c = no_memory _ _ (no_config_files c.args.words.now.number c.args.words.now.count c.args.config.now)

pub all_lines-requires-clause-genesis : goal.all_lines-requires-clause-genesis
all_lines-requires-clause-genesis g c = made_begins c.args.words.now.number c.args.config.now c.in-Ok.split.genesis c.preset-preset.ensures.preset c.in-Ok.ensures.genesis c.in-Ok.ensures.passes

pub all_lines-requires-clause-new : goal.all_lines-requires-clause-new
all_lines-requires-clause-new g c = (still_new _ c.in-Ok.split.first c.in-Ok.ensures.first, still_new _ c.in-Ok.split.second c.in-Ok.ensures.second)

pub returns-in-Err-all_lines-clause-over : goal.returns-in-Err-all_lines-clause-over
returns-in-Err-all_lines-clause-over g c =
    let low = lt-ltb c.args.config.now.ejection_balance 32_000_000_000 (omega (arith, c.ejection_balance.ensures.exact, c.if-ejection_balance-ge-FULL_BALANCE.false)) in
    drill_over c.in-Err-all_lines.status _ _ (ends_as c.in-Err-all_lines.status _ _ (run_is c.args.words.now.number c.args.words.now.count c.args.config.now c.in-Ok.split low c.in-Ok.ensures) c.in-Err-all_lines.ensures.told)

pub returns-in-Ok-write_all-clause-over : goal.returns-in-Ok-write_all-clause-over
returns-in-Ok-write_all-clause-over g c =
    let low = lt-ltb c.args.config.now.ejection_balance 32_000_000_000 (omega (arith, c.ejection_balance.ensures.exact, c.if-ejection_balance-ge-FULL_BALANCE.false)) in
    rw (sym (run_is c.args.words.now.number c.args.words.now.count c.args.config.now c.in-Ok.split low c.in-Ok.ensures) ∙ c.in-Ok-all_lines.ensures.told) (wrote_all _ _ _ (rw c.deref.ensures.value at c.in-Ok-write_all.ensures.writes))

pub returns-clause-over : goal.returns-clause-over
returns-clause-over g c =
    let low = lt-ltb c.args.config.now.ejection_balance 32_000_000_000 (omega (arith, c.ejection_balance.ensures.exact, c.if-ejection_balance-ge-FULL_BALANCE.false)) in
    rw (c.unwritten.ensures, sym (run_is c.args.words.now.number c.args.words.now.count c.args.config.now c.in-Ok.split low c.in-Ok.ensures) ∙ c.in-Ok-all_lines.ensures.told)
    (wrote_not_all c.in-Err-write_all.trouble _ _ _ (rw c.deref.ensures.value at c.in-Err-write_all.ensures.writes))

pub returns-in-Err-all_lines-clause-outside : goal.returns-in-Err-all_lines-clause-outside
returns-in-Err-all_lines-clause-outside g c = inside_outside c.in-Err-all_lines.status _ _ c.in-Err-all_lines.ensures.inside

pub returns-in-Ok-write_all-clause-outside : goal.returns-in-Ok-write_all-clause-outside
returns-in-Ok-write_all-clause-outside g c = writes_then statuses.Done _ (nothing_read _) (wrote_well statuses.Done _ _ (λ is. cc) (λ is. cc) c.write_all.ensures.keeps) (λ is. cc)

pub returns-clause-outside : goal.returns-clause-outside
returns-clause-outside g c =
    rw c.unwritten.ensures (writes_then _ _ (nothing_read _) (wrote_out c.in-Err-write_all.trouble _ _ c.in-Err-write_all.ensures.causes c.write_all.ensures.keeps) (unwritten_is_no_fault_of_reading c.in-Err-write_all.trouble))
