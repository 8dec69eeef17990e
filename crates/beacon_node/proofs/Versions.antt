-- A run knows no more of a record than its events.
use Rattle.std.proofs.Common.{◌≡◌, ℕ, List, [], ◌++◌, Option, Some, None, Result, Ok, Err, refl, ap}
use Rattle.bc_preset.specs.Configs.{config_of}
use Rattle.bc_preset.specs.declared.configuration.ConfigValues.{ConfigValues}
use Rattle.bc_preset.specs.declared.faults.ConfigFault.{ConfigFault}
use Rattle.bc_words.specs.declared.store_stop.ClashKind.{ClashKind}
use Rattle.beacon_types.specs.declared.block.BeaconBlock.{BeaconBlock}
use Rattle.record_file.specs.Record.{Events, events_of, magic}
use Rattle.record_file.specs.declared.version.Version.TheVariants.{One, Two}
use Rattle.record_file.proofs.Alike.{reads_alike}
use Rattle.spec_state.specs.Genesis.{genesis_of}
use Rattle.spec_state.specs.declared.fault.GenesisFault.{GenesisFault}
use Rattle.spec_state.specs.declared.plain.PlainState.{PlainState}
use Rattle.spec_fork_choice.specs.Anchor.{anchor_block_of, anchor_state_of}
use Rattle.spec_fork_choice.specs.GetForkchoiceStore.{genesis_store, get_forkchoice_store}
use Rattle.spec_fork_choice.specs.OnEvent.{first_clash, genesis_clash}
use Rattle.spec_fork_choice.specs.Store.{Store}
use Rattle.spec_fork_choice.specs.declared.fault.AnchorFault.{AnchorFault}
use Rattle.spec_forensics.specs.Clash.{first_accepted}
use Rattle.spec_replay.specs.Run.{End, after_file, with_config, with_events, with_files, with_genesis, with_record, with_state, with_store}
use Rattle.spec_replay.specs.Anchor as anchor
use Rattle.spec_replay.specs.Forensic as forensic
use Rattle.spec_replay.specs.Forensic.{Followed}
use Rattle.spec_replay.specs.declared.report.Report.{Report}
use Rattle.beacon_node.specs.laws.Versions.{RunAlike, VersionsRunAlike}

module _ (one two : List ℕ) (same : events_of two ≡ events_of one) where
  -- ---- replay

  record_alike : (store : Store) → with_record store (Some two) ≡ with_record store (Some one)
  unfolding with_record
  record_alike store = ap (λ (events : Events). after_file (with_events 1 store events)) same

  store_alike : (clash : Option ClashKind) (store : Store) → with_store clash store (Some two) ≡ with_store clash store (Some one)
  unfolding with_store
  store_alike (Some kind) store = refl
  store_alike None store = record_alike store

  state_alike : (config : ConfigValues) (state : Result PlainState GenesisFault) → with_state config state (Some two) ≡ with_state config state (Some one)
  unfolding with_state
  state_alike config (Err part) = refl
  state_alike config (Ok state) = store_alike (genesis_clash state) (genesis_store config state)

  genesis_alike : (config : ConfigValues) (genesis : Option (List ℕ)) → with_genesis config genesis (Some two) ≡ with_genesis config genesis (Some one)
  unfolding with_genesis
  genesis_alike config None = refl
  genesis_alike config (Some bytes) = ap after_file (state_alike config (genesis_of config.preset bytes))

  config_alike : (config : Result ConfigValues ConfigFault) (genesis : Option (List ℕ)) → with_config config genesis (Some two) ≡ with_config config genesis (Some one)
  unfolding with_config
  config_alike (Err reason) genesis = refl
  config_alike (Ok config) genesis = genesis_alike config genesis

  files_alike : (config genesis : Option (List ℕ)) → with_files config genesis (Some two) ≡ with_files config genesis (Some one)
  unfolding with_files
  files_alike None genesis = refl
  files_alike (Some bytes) genesis = ap after_file (config_alike (config_of bytes) genesis)

  -- ---- anchor

  block_alike : (config : ConfigValues) (state : PlainState) (block : Result BeaconBlock AnchorFault) → anchor.with_block config state block (Some two) ≡ anchor.with_block config state block (Some one)
  unfolding anchor.with_block
  block_alike config state (Err fault) = refl
  block_alike config state (Ok block) = store_alike (first_clash block) (get_forkchoice_store config state block)

  block_file_alike : (config : ConfigValues) (state : PlainState) (block : Option (List ℕ)) → anchor.with_block_file config state block (Some two) ≡ anchor.with_block_file config state block (Some one)
  unfolding anchor.with_block_file
  block_file_alike config state None = refl
  block_file_alike config state (Some bytes) = ap after_file (block_alike config state (anchor_block_of config state bytes))

  anchored_alike : (config : ConfigValues) (state : Result PlainState AnchorFault) (block : Option (List ℕ)) → anchor.with_state config state block (Some two) ≡ anchor.with_state config state block (Some one)
  unfolding anchor.with_state
  anchored_alike config (Err fault) block = refl
  anchored_alike config (Ok state) block = block_file_alike config state block

  state_file_alike : (config : ConfigValues) (state block : Option (List ℕ)) → anchor.with_state_file config state block (Some two) ≡ anchor.with_state_file config state block (Some one)
  unfolding anchor.with_state_file
  state_file_alike config None block = refl
  state_file_alike config (Some bytes) block = ap after_file (anchored_alike config (anchor_state_of config.preset bytes) block)

  configured_alike : (config : Result ConfigValues ConfigFault) (state block : Option (List ℕ)) → anchor.with_config config state block (Some two) ≡ anchor.with_config config state block (Some one)
  unfolding anchor.with_config
  configured_alike (Err reason) state block = refl
  configured_alike (Ok config) state block = state_file_alike config state block

  anchor_alike : (config state block : Option (List ℕ)) → anchor.anchor_run config state block (Some two) ≡ anchor.anchor_run config state block (Some one)
  unfolding anchor.anchor_run
  anchor_alike None state block = refl
  anchor_alike (Some bytes) state block = ap after_file (configured_alike (config_of bytes) state block)

  -- ---- the second of two records

  second_alike : (report : Report) (genesis : PlainState) (store : Store) (first : Followed) → forensic.with_second report genesis store first (Some two) ≡ forensic.with_second report genesis store first (Some one)
  unfolding forensic.with_second
  second_alike report genesis store first = ap (λ (events : Events). after_file (forensic.judge report genesis first (forensic.follow 1 (first_accepted genesis first.history) store events))) same

  behind_alike : (report : Report) (genesis : PlainState) (store : Store) (followed : Result Followed End) → forensic.behind_first report genesis store followed (Some two) ≡ forensic.behind_first report genesis store followed (Some one)
  unfolding forensic.behind_first
  behind_alike report genesis store (Err end) = refl
  behind_alike report genesis store (Ok first) = second_alike report genesis store first

  -- ---- either of two records

  first_alike : (report : Report) (genesis : PlainState) (store : Store) (second : Option (List ℕ)) → forensic.with_first report genesis store (Some two) second ≡ forensic.with_first report genesis store (Some one) second
  unfolding forensic.with_first
  first_alike report genesis store second = ap (λ (events : Events). after_file (forensic.behind_first report genesis store (forensic.follow 0 [] store events) second)) same

  in_second : (report : Report) (genesis : PlainState) (store : Store) (first : Option (List ℕ)) → forensic.with_first report genesis store first (Some two) ≡ forensic.with_first report genesis store first (Some one)
  unfolding forensic.with_first
  in_second report genesis store None = refl
  in_second report genesis store (Some bytes) = ap after_file (behind_alike report genesis store (forensic.follow 0 [] store (events_of bytes)))

-- ---- the files beside two records

-- two pairs of records that are followed alike on every genesis
abbrev FollowAlike : Report → Option (List ℕ) → Option (List ℕ) → Option (List ℕ) → Option (List ℕ) → Type 0
FollowAlike report first second first' second' = (genesis : PlainState) (store : Store) → forensic.with_first report genesis store first second ≡ forensic.with_first report genesis store first' second'

module _ (report : Report) (first second first' second' : Option (List ℕ)) (alike : FollowAlike report first second first' second') where
  opened_alike : (clash : Option ClashKind) (genesis : PlainState) (store : Store) → forensic.with_store report clash genesis store first second ≡ forensic.with_store report clash genesis store first' second'
  unfolding forensic.with_store
  opened_alike (Some kind) genesis store = refl
  opened_alike None genesis store = alike genesis store

  read_alike : (config : ConfigValues) (genesis : Result PlainState GenesisFault) → forensic.with_state report config genesis first second ≡ forensic.with_state report config genesis first' second'
  unfolding forensic.with_state
  read_alike config (Err part) = refl
  read_alike config (Ok genesis) = opened_alike (genesis_clash genesis) genesis (genesis_store config genesis)

  held_alike : (config : ConfigValues) (genesis : Option (List ℕ)) → forensic.with_genesis report config genesis first second ≡ forensic.with_genesis report config genesis first' second'
  unfolding forensic.with_genesis
  held_alike config None = refl
  held_alike config (Some bytes) = ap after_file (read_alike config (genesis_of config.preset bytes))

  under_alike : (config : Result ConfigValues ConfigFault) (genesis : Option (List ℕ)) → forensic.with_config report config genesis first second ≡ forensic.with_config report config genesis first' second'
  unfolding forensic.with_config
  under_alike (Err reason) genesis = refl
  under_alike (Ok config) genesis = held_alike config genesis

  records_alike : (config genesis : Option (List ℕ)) → forensic.records_run report config genesis first second ≡ forensic.records_run report config genesis first' second'
  unfolding forensic.records_run
  records_alike None genesis = refl
  records_alike (Some bytes) genesis = ap after_file (under_alike (config_of bytes) genesis)

pub runs_alike : (one two : List ℕ) → events_of two ≡ events_of one → RunAlike one two
runs_alike one two same = record {
  replay = files_alike one two same;
  anchor = anchor_alike one two same;
  first = λ report config genesis second. records_alike report (Some two) second (Some one) second (λ state store. first_alike one two same report state store second) config genesis;
  second = λ report config genesis first. records_alike report first (Some two) first (Some one) (λ state store. in_second one two same report state store first) config genesis;
}

pub versions_run_alike : VersionsRunAlike
versions_run_alike frames other = runs_alike (magic One ++ frames) (magic Two ++ frames) (reads_alike frames other)
