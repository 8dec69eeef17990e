-- The words of a command, as the bytes of their names.
use Rattle.command_arguments.specs.declared.command.ReplayFiles as replays
use Rattle.command_arguments.specs.declared.command.GenesisFiles as makers
use Rattle.command_arguments.specs.declared.command.AnchorFiles as anchors
use Rattle.command_arguments.specs.Arguments.{AnchorFiles, GenesisFiles, ReplayFiles}

abbrev pub files_named : replays.ReplayFiles → ReplayFiles
files_named f = record { config = f.config.now; genesis = f.genesis.now; events = f.events.now }

abbrev pub deposits_named : makers.GenesisFiles → GenesisFiles
deposits_named f = record { config = f.config.now; deposits = f.deposits.now }

abbrev pub anchor_named : anchors.AnchorFiles → AnchorFiles
anchor_named f = record { config = f.config.now; state = f.state.now; block = f.block.now; events = f.events.now }
