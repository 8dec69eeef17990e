-- What `parse` reads is the number that the text is.
use Rattle.std.proofs.Common.{◌∙◌}
use Rattle.command_words.proofs.Numbers.{number_reads}
use Rattle.command_words.proofs.command.number_in.Goals as goal

pub returns : goal.returns
returns c = c.ok.ensures.value ∙ number_reads c.args.text.now c.parse.result c.parse.ensures.value.0
