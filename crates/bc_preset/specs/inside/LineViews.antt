-- A line of the code as one of the definition.
use Rattle.bc_preset.specs.declared.lines.Line as code
use Rattle.bc_preset.specs.declared.lines.Line.TheVariants.{Skipped, Other, Setting, Faulty}
use Rattle.bc_preset.specs.Lines.{Line, skipped, other, setting, faulty}

abbrev pub as_line : code.Line → Line
as_line Skipped = skipped
as_line Other = other
as_line (Setting key value) = setting key value.now
as_line Faulty = faulty
