-- A file that is longer than allowed is seen to be so by one byte more.
use Rattle.std.proofs.Common.{◌≡◌, ℕ, ◌<◌, ◌≤◌, List, length, take, Some, None, Option, Result, Ok, Err, [], refl, sym, ap, ◌∙◌, inl, inr, arith}
use Rattle.std.proofs.lemmas.Bool.{cases_lt, lt-ltb}
use Rattle.std.proofs.lemmas.List.{length-take, take_all}
use Rattle.bc_preset.specs.Configs.{config_of}
use Rattle.bc_preset.specs.declared.configuration.ConfigValues.{ConfigValues}
use Rattle.bc_preset.specs.declared.faults.ConfigFault.TheVariants as configs
use Rattle.bc_preset.specs.declared.presets.Preset.{Preset}
use Rattle.spec_state.specs.Genesis.{genesis_of}
use Rattle.spec_state.specs.declared.fault.GenesisFault.TheVariants as genesis
use Rattle.spec_replay.specs.Run.{with_record, with_store, with_state, with_genesis, with_config, with_files}
use Rattle.bc_words.specs.declared.store_stop.ClashKind.{ClashKind}
use Rattle.spec_fork_choice.specs.Store.{Store}
use Rattle.spec_fork_choice.specs.GetForkchoiceStore.{genesis_store}
use Rattle.spec_fork_choice.specs.OnEvent.{genesis_clash}
use Rattle.spec_state.specs.declared.plain.PlainState.{PlainState}
use Rattle.spec_state.specs.declared.fault.GenesisFault.{GenesisFault}
use Rattle.bc_preset.specs.declared.faults.ConfigFault.{ConfigFault}

config_of-long : (bytes : List ℕ) → 65536 < length bytes → config_of bytes ≡ Err configs.TooLong
unfolding config_of
config_of-long bytes long = rw (lt-ltb 65536 (length bytes) long) refl

pub config_of-prefix : (bytes : List ℕ) → config_of (take 65537 bytes) ≡ config_of bytes
config_of-prefix bytes =
    elim (cases_lt 65536 (length bytes)) [
      | inl long ↦ config_of-long (take 65537 bytes) (omega (arith, length-take 65537 bytes)) ∙ sym (config_of-long bytes long)
      | inr short ↦ ap config_of (take_all 65537 bytes (omega arith))
    ]

genesis_of-long : (preset : Preset) (bytes : List ℕ) → 1073741824 < length bytes → genesis_of preset bytes ≡ Err genesis.TooLong
unfolding genesis_of
genesis_of-long preset bytes long = rw (lt-ltb 1073741824 (length bytes) long) refl

pub genesis_of-prefix : (preset : Preset) (bytes : List ℕ) → genesis_of preset (take 1073741825 bytes) ≡ genesis_of preset bytes
genesis_of-prefix preset bytes =
    elim (cases_lt 1073741824 (length bytes)) [
      | inl long ↦ genesis_of-long preset (take 1073741825 bytes) (omega (arith, length-take 1073741825 bytes)) ∙ sym (genesis_of-long preset bytes long)
      | inr short ↦ ap (genesis_of preset) (take_all 1073741825 bytes (omega arith))
    ]

-- a run asks for its first file
pub files-with_genesis : (config : ConfigValues) (genesis events : Option (List ℕ)) → 1 ≤ (with_genesis config genesis events).files
unfolding with_genesis
files-with_genesis config None events = omega arith
files-with_genesis config (Some bytes) events = omega arith

pub files-with_files : (config genesis events : Option (List ℕ)) → 1 ≤ (with_files config genesis events).files
unfolding with_files
files-with_files None genesis events = omega arith
files-with_files (Some bytes) genesis events = omega arith

pub files-with_record : (store : Store) (events : Option (List ℕ)) → 1 ≤ (with_record store events).files
unfolding with_record
files-with_record store None = omega arith
files-with_record store (Some bytes) = omega arith

-- without a record a run writes nothing
pub no_record_lines : (store : Store) (events : Option (List ℕ)) → events ≡ None → (with_record store events).lines ≡ []
unfolding with_record
no_record_lines store events e = rw e refl

pub no_store_lines : (clash : Option ClashKind) (store : Store) → (with_store clash store None).lines ≡ []
unfolding with_store with_record
no_store_lines (Some kind) store = refl
no_store_lines None store = refl

no_state_lines : (config : ConfigValues) (state : Result PlainState GenesisFault) → (with_state config state None).lines ≡ []
unfolding with_state
no_state_lines config (Err part) = refl
no_state_lines config (Ok state) = no_store_lines (genesis_clash state) (genesis_store config state)

pub no_genesis_lines : (config : ConfigValues) (genesis events : Option (List ℕ)) → events ≡ None → (with_genesis config genesis events).lines ≡ []
unfolding with_genesis
no_genesis_lines config None events e = refl
no_genesis_lines config (Some bytes) events e = rw e (no_state_lines config (genesis_of config.preset bytes))

no_config_lines : (config : Result ConfigValues ConfigFault) (genesis : Option (List ℕ)) → (with_config config genesis None).lines ≡ []
unfolding with_config
no_config_lines (Err reason) genesis = refl
no_config_lines (Ok config) genesis = no_genesis_lines config genesis None refl

pub no_files_lines : (config genesis events : Option (List ℕ)) → events ≡ None → (with_files config genesis events).lines ≡ []
unfolding with_files
no_files_lines None genesis events e = refl
no_files_lines (Some bytes) genesis events e = rw e (no_config_lines (config_of bytes) genesis)
