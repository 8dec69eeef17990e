-- A file of deposits: `BCD1`, the fork version (4 bytes), the genesis time (8 bytes), the eth1 block's hash (32 bytes), and the
-- deposits to its end; and the genesis file that it makes.
use Rattle.std.specs.Prelude.{ℕ, not, List, length, take, drop, codes, Option, Some, None, Result, Ok, Err, nat_lt, if◌then◌else◌}
use Rattle.std.specs.Str.{bytes_eq}
use Rattle.hash_tree.specs.Merkle.{bytes_to_uint64}
use Rattle.bc_preset.specs.declared.presets.Preset.{Preset}
use Rattle.beacon_types.specs.declared.deposit_data.DepositData.{DepositData}
use Rattle.spec_state.specs.Constants.{max_genesis_len}
use Rattle.spec_state.specs.States.{state_codec}
use Rattle.spec_genesis.specs.declared.fault.DepositsFault.{DepositsFault}
use Rattle.spec_genesis.specs.declared.fault.DepositsFault.TheVariants as faults
use Rattle.spec_genesis.specs.Branches.{deposits_codec}
use Rattle.spec_genesis.specs.InitializeBeaconStateFromEth1.{Initialized, made, refused_at, limited_at, initialize_beacon_state_from_eth1}

-- What a file of deposits holds.
pub record DepositsFile : Type 0 where
  pub fork_version : List ℕ
  pub genesis_time : ℕ
  pub eth1_block_hash : List ℕ
  pub deposits : List DepositData

-- the first four bytes
unfoldable pub deposits_magic : List ℕ
deposits_magic = codes "BCD1"

-- how many bytes stand before the deposits: 4, 4, 8 and 32
abbrev pub deposits_head_len : ℕ
deposits_head_len = 48

-- the deposits behind the head, unless the last one isn't whole
unfoldable pub with_deposits : List ℕ → Option (List DepositData) → Result DepositsFile DepositsFault
with_deposits head None = Err faults.Torn
with_deposits head (Some deposits) =
    Ok (record { fork_version = take 4 (drop 4 head); genesis_time = bytes_to_uint64 (take 8 (drop 8 head)); eth1_block_hash = drop 16 head; deposits = deposits })

-- what the bytes hold, or their first fault
unfoldable pub deposits_file_of : List ℕ → Result DepositsFile DepositsFault
deposits_file_of bytes =
    if nat_lt max_genesis_len (length bytes) then Err faults.TooLong
    else (if not (bytes_eq (take 4 bytes) deposits_magic) then Err faults.BadMagic
    else (if nat_lt (length bytes) deposits_head_len then Err faults.Torn
    else with_deposits (take deposits_head_len bytes) (deposits_codec.deserialize (drop deposits_head_len bytes))))

-- the writing of the made state, or the deposit that stops it (nothing but a balance that doesn't fit does)
abbrev pub made_file : Initialized → Result (List ℕ) DepositsFault
made_file (made state) = Ok ((state_codec state.preset).serialize state)
made_file (refused_at index why) = Err (faults.Overflow index)
made_file (limited_at index bound) = Err (faults.Overflow index)

abbrev pub made_of : Preset → Result DepositsFile DepositsFault → Result (List ℕ) DepositsFault
made_of preset (Err fault) = Err fault
made_of preset (Ok file) = made_file (initialize_beacon_state_from_eth1 preset file.fork_version file.eth1_block_hash file.genesis_time file.deposits)

-- the genesis file that a file of deposits makes, or the first fault
unfoldable pub genesis_file_of : Preset → List ℕ → Result (List ℕ) DepositsFault
genesis_file_of preset bytes = made_of preset (deposits_file_of bytes)
