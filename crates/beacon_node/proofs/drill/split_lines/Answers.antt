-- The stores don't open for want of memory, or both chains are followed.
use Rattle.spec_fork_choice.specs.OnEvent.{genesis_clash}
use Rattle.beacon_node.proofs.Drilled.{opening_breaks}
use Rattle.beacon_node.proofs.Forensics.{opening_follows}
use Rattle.beacon_node.proofs.Openings.{opened_again}
use Rattle.beacon_node.proofs.drill.split_lines.Goals as goal

pub histories_lines-requires-clause-opened : goal.histories_lines-requires-clause-opened
histories_lines-requires-clause-opened g c = opened_again c.args.config.now c.args.genesis c.in-Ok.histories c.in-Ok.ensures.opened

pub returns-in-Ok-clause-told : goal.returns-in-Ok-clause-told
returns-in-Ok-clause-told g c =
    let opened = c.in-Ok.ensures.opened in
    rw (opened.genesis_is, opened.first) at c.histories_lines.ensures.told

pub returns-in-Err-clause-told : goal.returns-in-Err-clause-told
returns-in-Err-clause-told g c = opening_breaks c.in-Err.status (genesis_clash c.args.genesis) _ c.requires.none c.in-Err.ensures.over

pub returns-in-Err-clause-outside : goal.returns-in-Err-clause-outside
returns-in-Err-clause-outside g c = opening_follows c.in-Err.status (genesis_clash c.args.genesis) _ c.in-Err.ensures.over
