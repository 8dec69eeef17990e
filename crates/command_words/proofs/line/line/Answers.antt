-- One command more, or all of them.
use Rattle.std.proofs.Common.{◌∙◌}
use Rattle.command_words.proofs.Adding.{command_more, line_whole}
use Rattle.command_words.proofs.line.line.Goals as goal

pub loop-form-preserved : goal.loop-form-preserved
loop-form-preserved c =
    c.in_ok-command.ensures.shape c.in_ok-subcommand.ensures.local
    ∙ command_more c.commands-form-items.result.now c.loop-form.form-index _ _ _ c.loop-form-test.true c.commands-form-items.ensures c.loop-form.invariant c.in_ok-subcommand.ensures.shape

pub returns : goal.returns
returns c = line_whole c.commands-form-items.result.now c.loop-form.form-index _ c.loop-form-test.false c.commands-form-items.ensures c.loop-form.invariant
