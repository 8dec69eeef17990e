-- The words of a command on two records, as the bytes of their names.
use Rattle.command_arguments.specs.declared.command.ForensicFiles as followed
use Rattle.command_arguments.specs.Arguments.{ForensicFiles}

abbrev pub records_named : followed.ForensicFiles → ForensicFiles
records_named f = record { config = f.config.now; genesis = f.genesis.now; first = f.first.now; second = f.second.now }
