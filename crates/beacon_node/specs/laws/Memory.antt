-- What the clauses of `beacon_main` say over files that lie in memory.
use Rattle.std.specs.Prelude.{ℕ, List, [], Some}
use Rattle.bc_outside.specs.Told.{ShelfTold, SinkTold}
use Rattle.bc_outside.specs.Memory.{NamedFile, held_in, told_by, unopened}
use Rattle.beacon_node.specs.Commands.{run_of}
use Rattle.command_arguments.specs.Arguments.{names_of}
use Rattle.command_words.specs.Commands.{command_of}
use Rattle.one_chain.specs.declared.status.Status.{Status}
use Rattle.one_chain.specs.Answers.{Answers, OutsideKeeps, Replayed}
use Rattle.beacon_node.specs.Pace.{taken_run_of}

-- The shelf in memory was just made of these files, may fail at any call and hand out any pieces, and told this after the
-- call. The clauses `answers` and `outside` then say what became of the run of exactly the bytes that the files hold.
abbrev pub RunsInMemory : Type 0
RunsInMemory = (files : List NamedFile) (failing : List ℕ) (greatest : ℕ) (words : List (List ℕ)) (status : Status) (told_then : ShelfTold) (sink sink_then : SinkTold)
    → Replayed (λ contents. run_of contents words) (taken_run_of status words) (names_of (command_of words)) status (told_by (unopened files failing greatest)) told_then sink.taken sink_then.taken
    → OutsideKeeps (names_of (command_of words)) (Some status) (told_by (unopened files failing greatest)) told_then sink sink_then
    → Answers (run_of (held_in files) words) (taken_run_of status words (held_in files) told_then.files) (names_of (command_of words)) status [] told_then.asked sink.taken sink_then.taken
