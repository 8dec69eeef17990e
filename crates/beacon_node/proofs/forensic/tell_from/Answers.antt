-- The stores don't open at genesis, or the records come next.
use Rattle.std.proofs.Common.{[], ◌∷◌}
use Rattle.beacon_node.specs.inside.Files.{records_named}
use Rattle.beacon_node.proofs.Forensics.{opening_outside, opening_over, records_go_on}
use Rattle.beacon_node.proofs.Openings.{opened_again}
use Rattle.beacon_node.proofs.forensic.tell_from.Goals as goal

pub tell_records-requires-clause-opened : goal.tell_records-requires-clause-opened
tell_records-requires-clause-opened g c = opened_again c.args.config.now c.args.genesis c.in-Ok.histories c.in-Ok.ensures.opened

pub returns-in-Ok-clause-answers : goal.returns-in-Ok-clause-answers
returns-in-Ok-clause-answers g c =
    let opened = c.in-Ok.ensures.opened in
    records_go_on c.args.report c.args.config.now c.args.genesis (records_named c.args.files.now) c.in-Ok.histories.first.plain c.tell_records.result _ _ _ _ opened.none opened.first (rw opened.genesis_is at c.tell_records.ensures.answers)

pub returns-in-Err-clause-answers : goal.returns-in-Err-clause-answers
returns-in-Err-clause-answers g c = opening_over c.args.report c.args.config.now c.args.genesis (records_named c.args.files.now) c.in-Err.status _ _ c.in-Err.ensures.over

pub returns-in-Err-clause-command : goal.returns-in-Err-clause-command
returns-in-Err-clause-command g c = c.in-Err.ensures.over.inside.words

pub returns-in-Err-clause-outside : goal.returns-in-Err-clause-outside
returns-in-Err-clause-outside g c = opening_outside (c.args.files.now.first.now ∷ c.args.files.now.second.now ∷ []) c.in-Err.status _ _ _ c.in-Err.ensures.over

pub returns-in-Err-clause-reports : goal.returns-in-Err-clause-reports
returns-in-Err-clause-reports g c = λ is. absurd (c.in-Err.ensures.over.inside.done is)
