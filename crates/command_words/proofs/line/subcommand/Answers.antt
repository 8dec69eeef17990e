-- One argument more.
use Rattle.std.proofs.Common.{◌∙◌, ap}
use Rattle.clap.specs.Words.{App}
use Rattle.command_words.proofs.Adding.{argument_more, none_global}
use Rattle.command_words.proofs.line.subcommand.Goals as goal

pub loop-of_form-preserved : goal.loop-of_form-preserved
loop-of_form-preserved c = record {
  shape = ap (λ (a : App). a.top) (c.in_ok-command.ensures.shape c.argument.ensures.local)
      ∙ argument_more c.args.form.now c.loop-of_form.of_form-index _ _ _ c.loop-of_form-test.true c.loop-of_form.invariant.shape c.argument.ensures.rule;
  local = c.in_ok-command.ensures.globals ∙ none_global _ _ c.loop-of_form.invariant.local c.argument.ensures.local;
}
