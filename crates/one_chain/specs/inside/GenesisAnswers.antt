-- How an answer of reading a genesis meets its definition.
use Rattle.std.specs.Prelude.{◌≡◌, ℕ, List, Option, Result, Ok, Err}
use Rattle.bc_preset.specs.declared.configuration.ConfigValues.{ConfigValues}
use Rattle.spec_fork_choice.specs.GetForkchoiceStore.{genesis_store}
use Rattle.spec_fork_choice.specs.OnEvent.{genesis_clash}
use Rattle.spec_replay.specs.Run.{Run, with_store}
use Rattle.spec_state.specs.declared.plain.PlainState.{PlainState}
use Rattle.spec_state.specs.declared.fault.GenesisFault.{GenesisFault}
use Rattle.spec_state.specs.declared.fault.GenesisFault.TheVariants as parts
use Rattle.ssz_codec.specs.declared.fault.SszFault.{SszFault}
use Rattle.ssz_codec.specs.declared.fault.SszFault.TheVariants as faults
use Rattle.one_chain.specs.declared.genesis.GenesisStop.{GenesisStop}
use Rattle.one_chain.specs.declared.genesis.GenesisStop.TheVariants.{Fault, NoMemory}
use Rattle.bc_words.specs.declared.store_stop.StoreStop.{StoreStop}
use Rattle.bc_words.specs.declared.store_stop.StoreStop.TheVariants as stores
use Rattle.one_chain.specs.declared.status.Status.{Status}
use Rattle.one_chain.specs.declared.status.Status.TheVariants as statuses

-- The answer is the state's, or its first fault, unless memory ran out
abbrev pub GivesGenesis : Result PlainState GenesisStop → Result PlainState GenesisFault → Type 0
GivesGenesis (Ok state) read = read ≡ Ok state
GivesGenesis (Err (Fault part)) read = read ≡ Err part
GivesGenesis (Err NoMemory) read = Unit {0}

-- the status of a genesis state that has a fault
abbrev pub no_genesis : GenesisStop → Status
no_genesis (Fault part) = statuses.Genesis part
no_genesis NoMemory = statuses.NoMemory

-- why bytes that are no state hold no genesis
abbrev pub no_state : SszFault → GenesisStop
no_state faults.NotAWriting = Fault parts.NotAWriting
no_state faults.NoMemory = NoMemory

-- the status of a genesis with which no store opens: its block clashes, or memory ran out
abbrev pub no_store : StoreStop → Status
no_store (stores.Clash kind) = statuses.Clash 0 0 kind 0
no_store _ = statuses.NoMemory

-- the run of a genesis state and of the record, if it is there
abbrev pub run_from : ConfigValues → PlainState → Option (List ℕ) → Run
run_from config genesis events = with_store (genesis_clash genesis) (genesis_store config genesis) events
