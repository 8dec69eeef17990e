-- How the steps of the making meet the published function.
use Rattle.std.specs.Prelude.{◌≡◌, ℕ, List, [], ◌∷◌, ◌++◌, length, Option, Some, None, Result, Ok, Err}
use Rattle.hash_tree.specs.Merkle.{merkle_root, mix_in_length}
use Rattle.bc_words.specs.Outcome.{Outcome}
use Rattle.bc_words.specs.declared.refusal.Refusal.TheVariants.{Overflow}
use Rattle.bc_words.specs.declared.stop.Stop.{Stop}
use Rattle.bc_words.specs.declared.stop.Stop.TheVariants as stops
use Rattle.beacon_types.specs.declared.deposit_data.DepositData.{DepositData}
use Rattle.beacon_types.specs.Containers.{deposit_contract_tree_depth, deposit_data_codec}
use Rattle.spec_state.specs.declared.plain.PlainState.{PlainState}
use Rattle.spec_state.specs.States.{state_codec}
use Rattle.spec_blocks.specs.ProcessDeposit.{process_deposit}
use Rattle.spec_genesis.specs.Branches.{branch_of}
use Rattle.spec_genesis.specs.InitializeBeaconStateFromEth1.{Initialized, made, refused_at, limited_at}
use Rattle.spec_genesis.specs.declared.fault.DepositsFault.{DepositsFault}
use Rattle.spec_genesis.specs.DepositsFile as plain
use Rattle.genesis_maker.specs.declared.deposits_file.DepositsFile as code
use Rattle.genesis_maker.specs.declared.stops.StoppedAt.{StoppedAt}
use Rattle.genesis_maker.specs.declared.stops.MakeStop.{MakeStop}
use Rattle.genesis_maker.specs.declared.stops.MakeStop.TheVariants as makes
use Rattle.genesis_maker.specs.declared.stops.DepositsStop.{DepositsStop}
use Rattle.genesis_maker.specs.declared.stops.DepositsStop.TheVariants as files

-- another deposit root
abbrev pub with_root : PlainState → List ℕ → PlainState
with_root state root = record state { eth1_data = record state.eth1_data { deposit_root = root } }

-- a deposit behind others, where these are known by their leaves
abbrev pub process_on_leaves : PlainState → List (List ℕ) → DepositData → Outcome PlainState
process_on_leaves state leaves deposit =
    let so_far = leaves ++ deposit_data_codec.hash_tree_root deposit ∷ [] in
    process_deposit (with_root state (mix_in_length (merkle_root deposit_contract_tree_depth so_far) (length so_far))) (record { proof = branch_of so_far (length leaves); content = deposit })

-- The deposit with this index stops the making so
abbrev pub StopsAt : ℕ → Stop → Initialized → Type 0
StopsAt index (stops.Refused why) end = end ≡ refused_at index why
StopsAt index (stops.Limit bound) end = end ≡ limited_at index bound
StopsAt index stops.NoMemory end = Unit {0}

-- The deposits led to the state, or one of them stopped the making
abbrev pub EndsWith : {U : Type 0} → Result U StoppedAt → PlainState → Initialized → Type 0
EndsWith (Ok _) state end = end ≡ made state
EndsWith (Err stopped) state end = StopsAt stopped.index stopped.stop end

-- The same of an answer that holds the state
abbrev pub EndsBehind : Result PlainState StoppedAt → Initialized → Type 0
EndsBehind (Ok state) end = end ≡ made state
EndsBehind (Err stopped) end = StopsAt stopped.index stopped.stop end

-- why no genesis is made where a deposit stops the making so
abbrev pub make_stop_of : ℕ → Stop → MakeStop
make_stop_of index (stops.Refused why) = makes.Overflow index
make_stop_of index (stops.Limit bound) = makes.Overflow index
make_stop_of index stops.NoMemory = makes.NoMemory

abbrev pub make_stop : StoppedAt → MakeStop
make_stop stopped = make_stop_of stopped.index stopped.stop

-- One of the deposits stopped the making, whatever its cause, unless memory ran out
abbrev pub StoppedBy : ℕ → Initialized → Type 0
StoppedBy index (made state) = ⊥
StoppedBy index (refused_at at why) = at ≡ index
StoppedBy index (limited_at at bound) = at ≡ index

abbrev pub MakesBy : Result PlainState MakeStop → Initialized → Type 0
MakesBy (Ok state) end = end ≡ made state
MakesBy (Err (makes.Overflow index)) end = StoppedBy index end
MakesBy (Err makes.NoMemory) end = Unit {0}

-- The making stops exactly at the first deposit that overflows, unless memory ran out
abbrev pub OverflowsBy : Result PlainState MakeStop → Option ℕ → Type 0
OverflowsBy (Ok state) overflow = overflow ≡ None
OverflowsBy (Err (makes.Overflow index)) overflow = overflow ≡ Some index
OverflowsBy (Err makes.NoMemory) overflow = Unit {0}

-- The answer of the making is the published function's: a refusal is that of a balance which doesn't fit
abbrev pub GivesGenesis : Result PlainState MakeStop → Initialized → Type 0
GivesGenesis (Ok state) end = end ≡ made state
GivesGenesis (Err (makes.Overflow index)) end = end ≡ refused_at index Overflow
GivesGenesis (Err makes.NoMemory) end = Unit {0}

-- what a file holds, as its definition says it
abbrev pub plain_of : code.DepositsFile → plain.DepositsFile
plain_of file = record { fork_version = file.fork_version; genesis_time = file.genesis_time; eth1_block_hash = file.eth1_block_hash; deposits = file.deposits }

-- The answer of reading is what the bytes hold, or their first fault
abbrev pub ReadsFile : Result code.DepositsFile DepositsFault → Result plain.DepositsFile DepositsFault → Type 0
ReadsFile (Ok file) read = read ≡ Ok (plain_of file)
ReadsFile (Err fault) read = read ≡ Err fault

-- The answer of a file is the state whose writing it makes, or its first fault
abbrev pub GivesFile : Result PlainState DepositsStop → Result (List ℕ) DepositsFault → Type 0
GivesFile (Ok state) file = file ≡ Ok ((state_codec state.preset).serialize state)
GivesFile (Err (files.Fault fault)) file = file ≡ Err fault
GivesFile (Err files.NoMemory) file = Unit {0}
