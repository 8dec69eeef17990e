-- The arguments in front were added.
use Rattle.std.proofs.Common.{◌≡◌, false}
use Rattle.clap.specs.Words.{shape_of}
use Rattle.clap.specs.declared.builder.command.Command.TheViews.{out-Command}
use Rattle.command_words.proofs.Adding.{shape_upto}
use Rattle.command_words.proofs.line.subcommand.Given as goal

abbrev pub invariant-loop-of_form : goal.invariant-loop-of_form
invariant-loop-of_form l = record {
  shape : shape_of l.command ≡ shape_upto l.form l.of_form-index;
  local : (out-Command l.command).has_globals ≡ false;
}
