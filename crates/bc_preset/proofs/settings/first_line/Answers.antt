use Rattle.std.proofs.Common.{length, sym, ◌∙◌, arith}
use Rattle.std.proofs.lemmas.List.{take_all, drop_all, take_rest}
use Rattle.bc_preset.proofs.FirstLine.{lines_more, lines_last}
use Rattle.bc_preset.proofs.settings.first_line.Goals as goal

pub returns-in-None-clause-lines : goal.returns-in-None-clause-lines
returns-in-None-clause-lines c =
    let bytes = c.args.bytes.now in
    let last = lines_last bytes c.requires (sym c.in-None.is ∙ c.line_feed.ensures.exact) in
    rw (c.split_at.ensures.front, c.split_at.ensures.back, take_all (length bytes) bytes (omega arith), drop_all (length bytes) bytes (omega arith)) last

pub returns-in-Some-clause-lines : goal.returns-in-Some-clause-lines
returns-in-Some-clause-lines c =
    let more = lines_more c.args.bytes.now c.in-Some.end (sym c.in-Some.is ∙ c.line_feed.ensures.exact) in
    rw (c.without_carriage_return.ensures, take_rest) more
