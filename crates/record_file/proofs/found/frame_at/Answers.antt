-- A frame that is read has room: fewer events than a record may have stand in front of it.
use Rattle.std.proofs.Common.{◌<◌, rules, arith}
use Rattle.std.proofs.lemmas.Grind.{common_steps}
use Rattle.record_file.specs.Record.{frame_of, most_events}
use Rattle.record_file.proofs.found.frame_at.Goals as goal

pub returns-then-not-is_kind_of-clause-read : goal.returns-then-not-is_kind_of-clause-read
unfolding frame_of
returns-then-not-is_kind_of-clause-read c =
    let room : c.args.events < most_events = omega arith in
    search rules

pub returns-clause-read : goal.returns-clause-read
unfolding frame_of
returns-clause-read c =
    let room : c.args.events < most_events = omega arith in
    grind (arith, common_steps)

pub returns-clause-room : goal.returns-clause-room
returns-clause-room c = λ _. omega arith
