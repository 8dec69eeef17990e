-- The commands in front were added.
use Rattle.std.proofs.Common.{◌≡◌}
use Rattle.clap.specs.Words.{app_of}
use Rattle.command_words.proofs.Adding.{line_upto}
use Rattle.command_words.proofs.line.line.Given as goal

abbrev pub invariant-loop-form : goal.invariant-loop-form
invariant-loop-form l = app_of l.command ≡ line_upto l.form-index
