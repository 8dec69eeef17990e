-- The table of the code, as the definitions write it.
use Rattle.std.specs.Prelude.{map}
use Rattle.command_words.specs.Commands.{Argument, Form, file, number, within}
use Rattle.command_words.specs.declared.forms.Argument as code
use Rattle.command_words.specs.declared.forms.Argument.TheVariants as kinds
use Rattle.command_words.specs.declared.forms.Form as table

abbrev pub argument_of : code.Argument → Argument
argument_of (kinds.File label) = file label.now
argument_of (kinds.Number label) = number label.now
argument_of (kinds.Within label least most) = within label.now least most

abbrev pub form_of : table.Form → Form
form_of f = record { name = f.name.now; arguments = map argument_of f.arguments.now }
