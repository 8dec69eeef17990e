-- Clap's answer, whichever it is: it is that of the command line that was made.
use Rattle.std.proofs.Common.{◌∙◌, ap}
use Rattle.clap.specs.Words.{is_simple, is_simple_and_free}
use Rattle.command_words.proofs.Reading.{line_is_simple, line_is_free, err_reads, named_reads, unnamed, fault_at, kinds_at, sub_at, name_of_sub, passes_at}
use Rattle.command_words.proofs.command.read_command.Goals as goal

pub returns-in-Err-try_get_matches_from : goal.returns-in-Err-try_get_matches_from
returns-in-Err-try_get_matches_from c =
    err_reads _ c.in-Err-try_get_matches_from.error c.stop_of.result c.stop_of.ensures.0 c.stop_of.ensures.1
    (kinds_at _ _ c.in-Err-try_get_matches_from.error c.in-Ok.ensures (c.in-Err-try_get_matches_from.ensures.kinds (ap is_simple_and_free c.in-Ok.ensures ∙ line_is_free)))
    (passes_at _ _ _ c.in-Ok.ensures c.in-Err-try_get_matches_from.ensures.passes)

pub returns-in-Some : goal.returns-in-Some
returns-in-Some c =
    named_reads _ _ _ _ c.named.result c.ok_or.result
    (fault_at _ _ c.in-Ok.ensures (c.in-Ok-try_get_matches_from.ensures.kinds (ap is_simple_and_free c.in-Ok.ensures ∙ line_is_free)))
    (sub_at _ _ _ c.in-Ok.ensures (c.in-Ok-try_get_matches_from.ensures.matches (ap is_simple c.in-Ok.ensures ∙ line_is_simple)).1)
    (name_of_sub c.in-Ok-try_get_matches_from.matches c.in-Some.name.now c.in-Some.ensures.name) c.in-Some.ensures.rows c.named.ensures c.ok_or.ensures.value

pub returns : goal.returns
returns c =
    unnamed _ _
    (fault_at _ _ c.in-Ok.ensures (c.in-Ok-try_get_matches_from.ensures.kinds (ap is_simple_and_free c.in-Ok.ensures ∙ line_is_free)))
    (sub_at _ _ _ c.in-Ok.ensures (c.in-Ok-try_get_matches_from.ensures.matches (ap is_simple c.in-Ok.ensures ∙ line_is_simple)).1)
    c.in-None.ensures.rows
