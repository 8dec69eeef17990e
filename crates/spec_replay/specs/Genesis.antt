-- The run of `genesis`: from the bytes of configuration and deposits to the genesis file that they make.
use Rattle.std.specs.Prelude.{ℕ, List, Option, Some, None, Result, Ok, Err}
use Rattle.bc_preset.specs.Configs.{config_of}
use Rattle.bc_preset.specs.declared.configuration.ConfigValues.{ConfigValues}
use Rattle.bc_preset.specs.declared.faults.ConfigFault.{ConfigFault}
use Rattle.spec_genesis.specs.DepositsFile.{genesis_file_of}
use Rattle.spec_genesis.specs.declared.fault.DepositsFault.{DepositsFault}
use Rattle.spec_replay.specs.Run.{Run, over, missing, after_file, after_lines, done, bad_config, bad_deposits}

-- the genesis file is what is written, and nothing is where the deposits have a fault
unfoldable pub write_genesis : Result (List ℕ) DepositsFault → Run
write_genesis (Err fault) = over (bad_deposits fault)
write_genesis (Ok genesis) = after_lines genesis (over done)

-- the file of deposits, if it is there
unfoldable pub make_genesis : ConfigValues → Option (List ℕ) → Run
make_genesis config None = missing
make_genesis config (Some deposits) = after_file (write_genesis (genesis_file_of config.preset deposits))

-- the configuration, or its first fault
unfoldable pub make_under : Result ConfigValues ConfigFault → Option (List ℕ) → Run
make_under (Err reason) deposits = over (bad_config reason)
make_under (Ok config) deposits = make_genesis config deposits

-- `genesis CONFIG DEPOSITS`: the configuration's file, if it is there, and then the deposits
unfoldable pub genesis_run : Option (List ℕ) → Option (List ℕ) → Run
genesis_run None deposits = missing
genesis_run (Some config) deposits = after_file (make_under (config_of config) deposits)
