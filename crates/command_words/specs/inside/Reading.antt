-- How an answer of reading the words meets their definition.
use Rattle.std.specs.Prelude.{◌≡◌, ℕ, List, Some, None, Result, Ok, Err}
use Rattle.command_arguments.specs.Arguments.{Command, ForensicFiles, anchor, drill, duties, forensic, genesis, nodes, replay, slasher}
use Rattle.command_words.specs.Commands.{IsDeclined, command_of}
use Rattle.command_arguments.specs.declared.command.Command as code
use Rattle.command_arguments.specs.declared.command.ForensicFiles as followed
use Rattle.command_arguments.specs.declared.command.Command.TheVariants as commands
use Rattle.command_words.specs.declared.command.WordsStop.{WordsStop}
use Rattle.command_words.specs.declared.command.WordsStop.TheVariants.{NoCommand, NoMemory}

-- the files that a value of the code names
abbrev pub files_value : followed.ForensicFiles → ForensicFiles
files_value f = record { config = f.config.now; genesis = f.genesis.now; first = f.first.now; second = f.second.now }

-- the command that a value of the code is
abbrev pub command_value : code.Command → Command
command_value (commands.Replay f) = replay (record { config = f.config.now; genesis = f.genesis.now; events = f.events.now })
command_value (commands.Drill w) = drill (record { number = w.number; config = w.config.now })
command_value (commands.Genesis f) = genesis (record { config = f.config.now; deposits = f.deposits.now })
command_value (commands.Duties w) = duties (record { config = w.config.now; state = w.state.now; epoch = w.epoch })
command_value (commands.Anchor f) = anchor (record { config = f.config.now; state = f.state.now; block = f.block.now; events = f.events.now })
command_value (commands.Forensic f) = forensic (files_value f)
command_value (commands.Nodes w) = nodes (record { number = w.number; count = w.count; config = w.config.now })
command_value (commands.Slasher f) = slasher (files_value f)

-- The answer is the command that the words are, or that they are none, unless memory ran out.
abbrev pub ReadsCommand : List (List ℕ) → Result code.Command WordsStop → Type 0
ReadsCommand words (Ok command) = command_of words ≡ Some (command_value command)
ReadsCommand words (Err NoCommand) = (command_of words ≡ None) × IsDeclined words
ReadsCommand words (Err NoMemory) = Unit {0}
