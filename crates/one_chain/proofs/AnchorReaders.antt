-- The state's file, the block's file and the record on the store at an anchor, as steps of a run.
use Rattle.std.proofs.Common.{◌≡◌, ◌<◌, ◌≤◌, ℕ, false, List, [], ◌∷◌, length, take, Option, Some, None, Result, Ok, Err, refl, sym, ap, ◌∙◌, inl, inr, arith}
use Rattle.std.proofs.lemmas.Bool.{cases_lt, lt-ltb}
use Rattle.std.proofs.lemmas.List.{length-take, take_all}
use Rattle.bc_outside.specs.Told.{ShelfTold}
use Rattle.bc_outside.specs.declared.trouble.Trouble.{Trouble}
use Rattle.bc_outside.proofs.Keeping.{agreed_front}
use Rattle.bc_preset.specs.Configs.{config_of}
use Rattle.bc_preset.specs.declared.configuration.ConfigValues.{ConfigValues}
use Rattle.bc_preset.specs.declared.faults.ConfigFault.{ConfigFault}
use Rattle.bc_preset.specs.declared.presets.Preset.{Preset}
use Rattle.bc_words.specs.Events.{accepted, StoreStops}
use Rattle.bc_words.specs.declared.store_stop.StoreStop.{StoreStop}
use Rattle.beacon_types.specs.declared.block.BeaconBlock.{BeaconBlock}
use Rattle.command_arguments.specs.Arguments.{AnchorFiles}
use Rattle.fork_store.specs.declared.anchor.AnchorStop.{AnchorStop}
use Rattle.fork_store.specs.declared.anchor.AnchorStop.TheVariants as stops
use Rattle.spec_fork_choice.specs.Anchor.{anchor_block_of, anchor_state_of}
use Rattle.spec_fork_choice.specs.declared.fault.AnchorFault.{AnchorFault}
use Rattle.spec_fork_choice.specs.declared.fault.AnchorFault.TheVariants as faults
use Rattle.spec_fork_choice.specs.GetForkchoiceStore.{get_forkchoice_store}
use Rattle.spec_fork_choice.specs.OnEvent.{first_clash, open_at}
use Rattle.spec_fork_choice.specs.Store.{Store}
use Rattle.spec_state.specs.declared.plain.PlainState.{PlainState}
use Rattle.spec_replay.specs.Anchor.{anchor_run, run_at, with_block, with_block_file, with_config, with_state, with_state_file}
use Rattle.spec_replay.specs.Run.{with_record}
use Rattle.one_chain.specs.declared.status.Status.{Status}
use Rattle.one_chain.specs.declared.status.Status.TheVariants as statuses
use Rattle.one_chain.specs.Answers.{Replayed, taken_of}
use Rattle.one_chain.specs.inside.AnchorAnswers.{GivesAnchor, no_anchor}
use Rattle.one_chain.specs.inside.GenesisAnswers.{no_store}
use Rattle.one_chain.specs.inside.Reading.{ReadOf, Unread}
use Rattle.one_chain.specs.inside.Statuses.{unread}
use Rattle.one_chain.proofs.Prefixes.{config_of-prefix, no_store_lines}
use Rattle.one_chain.proofs.Reaching.{reaches_none, is_prefix, reaches_all}
use Rattle.one_chain.proofs.Readers.{opened_without, store_goes_on, store_over}
use Rattle.one_chain.proofs.Steps.{held_prefix, taken_none, over_after, unread_after, goes_on, opened_more}

-- ---- a file that is longer than allowed is seen to be so by one byte more

state_of-long : (preset : Preset) (bytes : List ℕ) → 1073741824 < length bytes → anchor_state_of preset bytes ≡ Err faults.StateTooLong
unfolding anchor_state_of
state_of-long preset bytes long = rw (lt-ltb 1073741824 (length bytes) long) refl

state_of-prefix : (preset : Preset) (bytes : List ℕ) → anchor_state_of preset (take 1073741825 bytes) ≡ anchor_state_of preset bytes
state_of-prefix preset bytes =
    elim (cases_lt 1073741824 (length bytes)) [
      | inl long ↦ state_of-long preset (take 1073741825 bytes) (omega (arith, length-take 1073741825 bytes)) ∙ sym (state_of-long preset bytes long)
      | inr short ↦ ap (anchor_state_of preset) (take_all 1073741825 bytes (omega arith))
    ]

block_of-long : (config : ConfigValues) (state : PlainState) (bytes : List ℕ) → 4194304 < length bytes → anchor_block_of config state bytes ≡ Err faults.BlockTooLong
unfolding anchor_block_of
block_of-long config state bytes long = rw (lt-ltb 4194304 (length bytes) long) refl

block_of-prefix : (config : ConfigValues) (state : PlainState) (bytes : List ℕ) → anchor_block_of config state (take 4194305 bytes) ≡ anchor_block_of config state bytes
block_of-prefix config state bytes =
    elim (cases_lt 4194304 (length bytes)) [
      | inl long ↦ block_of-long config state (take 4194305 bytes) (omega (arith, length-take 4194305 bytes)) ∙ sym (block_of-long config state bytes long)
      | inr short ↦ ap (anchor_block_of config state) (take_all 4194305 bytes (omega arith))
    ]

-- ---- a run asks for its first file, and writes nothing without a record

files-with_block_file : (config : ConfigValues) (state : PlainState) (block events : Option (List ℕ)) → 1 ≤ (with_block_file config state block events).files
unfolding with_block_file
files-with_block_file config state None events = omega arith
files-with_block_file config state (Some bytes) events = omega arith

files-with_state_file : (config : ConfigValues) (state block events : Option (List ℕ)) → 1 ≤ (with_state_file config state block events).files
unfolding with_state_file
files-with_state_file config None block events = omega arith
files-with_state_file config (Some bytes) block events = omega arith

files-anchor_run : (config state block events : Option (List ℕ)) → 1 ≤ (anchor_run config state block events).files
unfolding anchor_run
files-anchor_run None state block events = omega arith
files-anchor_run (Some bytes) state block events = omega arith

no_block_lines : (config : ConfigValues) (state : PlainState) (block : Result BeaconBlock AnchorFault) → (with_block config state block None).lines ≡ []
unfolding with_block
no_block_lines config state (Err fault) = refl
no_block_lines config state (Ok block) = no_store_lines (first_clash block) (get_forkchoice_store config state block)

no_block_file_lines : (config : ConfigValues) (state : PlainState) (block events : Option (List ℕ)) → events ≡ None → (with_block_file config state block events).lines ≡ []
unfolding with_block_file
no_block_file_lines config state None events e = refl
no_block_file_lines config state (Some bytes) events e = rw e (no_block_lines config state (anchor_block_of config state bytes))

no_state_lines : (config : ConfigValues) (state : Result PlainState AnchorFault) (block : Option (List ℕ)) → (with_state config state block None).lines ≡ []
unfolding with_state
no_state_lines config (Err fault) block = refl
no_state_lines config (Ok state) block = no_block_file_lines config state block None refl

no_state_file_lines : (config : ConfigValues) (state block events : Option (List ℕ)) → events ≡ None → (with_state_file config state block events).lines ≡ []
unfolding with_state_file
no_state_file_lines config None block events e = refl
no_state_file_lines config (Some bytes) block events e = rw e (no_state_lines config (anchor_state_of config.preset bytes) block)

no_config_lines : (config : Result ConfigValues ConfigFault) (state block : Option (List ℕ)) → (with_config config state block None).lines ≡ []
unfolding with_config
no_config_lines (Err reason) state block = refl
no_config_lines (Ok config) state block = no_state_file_lines config state block None refl

no_lines_of : (config state block events : Option (List ℕ)) → events ≡ None → (anchor_run config state block events).lines ≡ []
unfolding anchor_run
no_lines_of None state block events e = refl
no_lines_of (Some bytes) state block events e = rw e (no_config_lines (config_of bytes) state block)

-- ---- the store

-- a store that opened keeps one block
pub one_block : (config : ConfigValues) (state : PlainState) (block : BeaconBlock) (store : Store) → open_at config state block ≡ accepted store → length store.blocks ≤ 1
unfolding open_at get_forkchoice_store
one_block config state block store is =
    let opened = opened_without (first_clash block) (get_forkchoice_store config state block) store is in
    rw opened.1 (omega arith)

abbrev pub OfAnchor : ConfigValues → PlainState → BeaconBlock → List ℕ → Status → ShelfTold → ShelfTold → List ℕ → List ℕ → Type 0
OfAnchor config state block name status s t w x = Replayed (λ contents. run_at config state block (contents name)) (λ contents opened. run_at config state block (taken_of 0 opened)) (name ∷ []) status s t w x

pub anchor_goes_on : (config : ConfigValues) (state : PlainState) (block : BeaconBlock) (store : Store) (name : List ℕ) (status : Status) (s t : ShelfTold) (w x : List ℕ) → open_at config state block ≡ accepted store
    → Replayed (λ contents. with_record store (contents name)) (λ contents opened. with_record store (taken_of 0 opened)) (name ∷ []) status s t w x → OfAnchor config state block name status s t w x
unfolding open_at
anchor_goes_on config state block store name status s t w x is rest = store_goes_on (first_clash block) (get_forkchoice_store config state block) name store status s t w x is rest

pub anchor_over : (config : ConfigValues) (state : PlainState) (block : BeaconBlock) (name : List ℕ) (stop : StoreStop) (s : ShelfTold) (w : List ℕ) → StoreStops stop (open_at config state block) → OfAnchor config state block name (no_store stop) s s w w
unfolding open_at
anchor_over config state block name stop s w is = store_over (first_clash block) (get_forkchoice_store config state block) name stop s w is

-- ---- the block's file

abbrev pub OfBlock : ConfigValues → PlainState → List ℕ → List ℕ → Status → ShelfTold → ShelfTold → List ℕ → List ℕ → Type 0
OfBlock config state name record_name status s t w x =
    Replayed (λ contents. with_block_file config state (contents name) (contents record_name)) (λ contents opened. with_block_file config state (contents name) (taken_of 1 opened)) (name ∷ record_name ∷ []) status s t w x

pub unread_block : (config : ConfigValues) (state : PlainState) (name record_name : List ℕ) (trouble : Trouble) (s t : ShelfTold) (w : List ℕ) → Unread name s t → OfBlock config state name record_name (unread trouble) s t w w
unread_block config state name record_name trouble s t w h = record {
  opened = h.opened;
  files = h.files;
  answers = λ c a. unread_after _ _ name (record_name ∷ []) trouble s.asked t.asked w h.asked (files-with_block_file config state (c name) (c record_name)) (no_block_file_lines config state (c name) (taken_of 1 h.opened) (taken_none 1 h.opened h.few));
}

module _ (config : ConfigValues) (state : PlainState) (name record_name : List ℕ) (bytes : List ℕ) (s t : ShelfTold) (read : ReadOf name 4194305 bytes s t) where
  same_block : (whole : List ℕ) → bytes ≡ take 4194305 whole → anchor_block_of config state bytes ≡ anchor_block_of config state whole
  same_block whole e = ap (anchor_block_of config state) e ∙ block_of-prefix config state whole

  pub block_stops : (w : List ℕ) (stop : AnchorStop) → GivesAnchor (Err stop) (anchor_block_of config state bytes) → OfBlock config state name record_name (no_anchor stop) s t w w
  unfolding with_block_file with_block
  block_stops w (stops.Fault fault) gives = record {
    opened = read.handed ∷ [];
    files = read.files;
    answers = λ c a.
        let whole = held_prefix read c a in
        let is : anchor_block_of config state whole.0 ≡ Err fault = sym (same_block whole.0 whole.2) ∙ gives in
        rw (whole.1, is) (over_after _ _ name (record_name ∷ []) (statuses.Anchor fault) s.asked t.asked w read.asked (λ _. refl) (reaches_none false) (reaches_none false) (reaches_all false 1));
  }
  block_stops w stops.NoMemory gives = record {
    opened = read.handed ∷ [];
    files = read.files;
    answers = λ c a.
        let whole = held_prefix read c a in
        rw whole.1 (over_after _ _ name (record_name ∷ []) statuses.NoMemory s.asked t.asked w read.asked (λ never. cc) (is_prefix 0 _ (omega arith)) (is_prefix 0 _ (omega arith)) (is_prefix 1 _ (omega arith)));
  }

  pub block_goes_on : (u : ShelfTold) (w x : List ℕ) (block : BeaconBlock) (status : Status) → GivesAnchor (Ok block) (anchor_block_of config state bytes)
      → OfAnchor config state block record_name status t u w x → OfBlock config state name record_name status s u w x
  unfolding with_block_file with_block taken_of
  block_goes_on u w x block status is_block rest = record {
    opened = read.handed ∷ rest.opened;
    files = opened_more s.files read.handed rest.opened read.files rest.files;
    answers = λ c a.
        let whole = held_prefix read c (agreed_front c t.files rest.opened (rw rest.files at a)) in
        let good : anchor_block_of config state whole.0 ≡ Ok block = sym (same_block whole.0 whole.2) ∙ is_block in
        rw (whole.1, good) (goes_on (run_at config state block (c record_name)) (run_at config state block (taken_of 0 rest.opened)) name (record_name ∷ []) status s.asked t.asked u.asked w x read.asked (rest.answers c a));
  }

-- ---- the state's file

abbrev pub OfState : ConfigValues → List ℕ → List ℕ → List ℕ → Status → ShelfTold → ShelfTold → List ℕ → List ℕ → Type 0
OfState config name block_name record_name status s t w x =
    Replayed (λ contents. with_state_file config (contents name) (contents block_name) (contents record_name)) (λ contents opened. with_state_file config (contents name) (contents block_name) (taken_of 2 opened))
    (name ∷ block_name ∷ record_name ∷ []) status s t w x

pub unread_state : (config : ConfigValues) (name block_name record_name : List ℕ) (trouble : Trouble) (s t : ShelfTold) (w : List ℕ) → Unread name s t → OfState config name block_name record_name (unread trouble) s t w w
unread_state config name block_name record_name trouble s t w h = record {
  opened = h.opened;
  files = h.files;
  answers = λ c a. unread_after _ _ name (block_name ∷ record_name ∷ []) trouble s.asked t.asked w h.asked (files-with_state_file config (c name) (c block_name) (c record_name))
      (no_state_file_lines config (c name) (c block_name) (taken_of 2 h.opened) (taken_none 2 h.opened (omega (arith, h.few))));
}

module _ (config : ConfigValues) (name block_name record_name : List ℕ) (bytes : List ℕ) (s t : ShelfTold) (read : ReadOf name 1073741825 bytes s t) where
  same_state : (whole : List ℕ) → bytes ≡ take 1073741825 whole → anchor_state_of config.preset bytes ≡ anchor_state_of config.preset whole
  same_state whole e = ap (anchor_state_of config.preset) e ∙ state_of-prefix config.preset whole

  pub state_stops : (w : List ℕ) (stop : AnchorStop) → GivesAnchor (Err stop) (anchor_state_of config.preset bytes) → OfState config name block_name record_name (no_anchor stop) s t w w
  unfolding with_state_file with_state
  state_stops w (stops.Fault fault) gives = record {
    opened = read.handed ∷ [];
    files = read.files;
    answers = λ c a.
        let whole = held_prefix read c a in
        let is : anchor_state_of config.preset whole.0 ≡ Err fault = sym (same_state whole.0 whole.2) ∙ gives in
        rw (whole.1, is) (over_after _ _ name (block_name ∷ record_name ∷ []) (statuses.Anchor fault) s.asked t.asked w read.asked (λ _. refl) (reaches_none false) (reaches_none false) (reaches_all false 1));
  }
  state_stops w stops.NoMemory gives = record {
    opened = read.handed ∷ [];
    files = read.files;
    answers = λ c a.
        let whole = held_prefix read c a in
        rw whole.1 (over_after _ _ name (block_name ∷ record_name ∷ []) statuses.NoMemory s.asked t.asked w read.asked (λ never. cc) (is_prefix 0 _ (omega arith)) (is_prefix 0 _ (omega arith)) (is_prefix 1 _ (omega arith)));
  }

  pub state_goes_on : (u : ShelfTold) (w x : List ℕ) (state : PlainState) (status : Status) → GivesAnchor (Ok state) (anchor_state_of config.preset bytes)
      → OfBlock config state block_name record_name status t u w x → OfState config name block_name record_name status s u w x
  unfolding with_state_file with_state taken_of
  state_goes_on u w x state status is_state rest = record {
    opened = read.handed ∷ rest.opened;
    files = opened_more s.files read.handed rest.opened read.files rest.files;
    answers = λ c a.
        let whole = held_prefix read c (agreed_front c t.files rest.opened (rw rest.files at a)) in
        let good : anchor_state_of config.preset whole.0 ≡ Ok state = sym (same_state whole.0 whole.2) ∙ is_state in
        rw (whole.1, good) (goes_on (with_block_file config state (c block_name) (c record_name)) (with_block_file config state (c block_name) (taken_of 1 rest.opened)) name (block_name ∷ record_name ∷ []) status s.asked t.asked u.asked w x read.asked (rest.answers c a));
  }

-- ---- the configuration's file

abbrev pub OfFiles : AnchorFiles → Status → ShelfTold → ShelfTold → List ℕ → List ℕ → Type 0
OfFiles files status s t w x =
    Replayed (λ contents. anchor_run (contents files.config) (contents files.state) (contents files.block) (contents files.events))
    (λ contents opened. anchor_run (contents files.config) (contents files.state) (contents files.block) (taken_of 3 opened)) (files.config ∷ files.state ∷ files.block ∷ files.events ∷ []) status s t w x

pub unread_files : (files : AnchorFiles) (trouble : Trouble) (s t : ShelfTold) (w : List ℕ) → Unread files.config s t → OfFiles files (unread trouble) s t w w
unread_files files trouble s t w h = record {
  opened = h.opened;
  files = h.files;
  answers = λ c a. unread_after _ _ files.config (files.state ∷ files.block ∷ files.events ∷ []) trouble s.asked t.asked w h.asked (files-anchor_run (c files.config) (c files.state) (c files.block) (c files.events))
      (no_lines_of (c files.config) (c files.state) (c files.block) (taken_of 3 h.opened) (taken_none 3 h.opened (omega (arith, h.few))));
}

module _ (files : AnchorFiles) (bytes : List ℕ) (s t : ShelfTold) (read : ReadOf files.config 65537 bytes s t) where
  pub config_stops : (w : List ℕ) (reason : ConfigFault) → Err reason ≡ config_of bytes → OfFiles files (statuses.Config reason) s t w w
  unfolding anchor_run with_config
  config_stops w reason is = record {
    opened = read.handed ∷ [];
    files = read.files;
    answers = λ c a.
        let whole = held_prefix read c a in
        let bad : config_of whole.0 ≡ Err reason = sym (ap config_of whole.2 ∙ config_of-prefix whole.0) ∙ sym is in
        rw (whole.1, bad) (over_after _ _ files.config (files.state ∷ files.block ∷ files.events ∷ []) (statuses.Config reason) s.asked t.asked w read.asked (λ _. refl) (reaches_none false) (reaches_none false) (reaches_all false 1));
  }

  pub config_goes_on : (u : ShelfTold) (w x : List ℕ) (config : ConfigValues) (status : Status) → Ok config ≡ config_of bytes
      → OfState config files.state files.block files.events status t u w x → OfFiles files status s u w x
  unfolding anchor_run with_config taken_of
  config_goes_on u w x config status is rest = record {
    opened = read.handed ∷ rest.opened;
    files = opened_more s.files read.handed rest.opened read.files rest.files;
    answers = λ c a.
        let whole = held_prefix read c (agreed_front c t.files rest.opened (rw rest.files at a)) in
        let good : config_of whole.0 ≡ Ok config = sym (ap config_of whole.2 ∙ config_of-prefix whole.0) ∙ sym is in
        rw (whole.1, good) (goes_on (with_state_file config (c files.state) (c files.block) (c files.events)) (with_state_file config (c files.state) (c files.block) (taken_of 2 rest.opened)) files.config (files.state ∷ files.block ∷ files.events ∷ []) status s.asked t.asked u.asked w x read.asked (rest.answers c a));
  }
