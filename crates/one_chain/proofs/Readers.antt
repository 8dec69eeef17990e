-- The configuration's file, the genesis file and the record as steps of a run.
use Rattle.std.proofs.Common.{◌≡◌, ◌≤◌, ℕ, true, false, List, [], ◌∷◌, ◌++◌, length, take, Option, Some, None, Ok, Err, refl, sym, ap, ◌∙◌, arith, append-nil}
use Rattle.bc_outside.specs.Told.{ShelfTold}
use Rattle.bc_outside.specs.Calls.{Opened}
use Rattle.bc_outside.specs.declared.trouble.Trouble.{Trouble}
use Rattle.bc_outside.proofs.Keeping.{agreed_front, agreed_back}
use Rattle.bc_preset.specs.Configs.{config_of}
use Rattle.bc_preset.specs.declared.configuration.ConfigValues.{ConfigValues}
use Rattle.bc_preset.specs.declared.faults.ConfigFault.{ConfigFault}
use Rattle.record_file.specs.Record.{events_of}
use Rattle.record_file.specs.Frames.{unread_file, events_at}
use Rattle.record_file.specs.Sources.{record_source}
use Rattle.bc_words.specs.Events.{accepted, event_clashes}
use Rattle.bc_words.specs.declared.store_stop.ClashKind.{ClashKind}
use Rattle.bc_words.specs.declared.store_stop.StoreStop.{StoreStop}
use Rattle.bc_words.specs.declared.store_stop.StoreStop.TheVariants as stores
use Rattle.spec_state.specs.Genesis.{genesis_of}
use Rattle.spec_state.specs.declared.plain.PlainState.{PlainState}
use Rattle.spec_fork_choice.specs.Store.{Store}
use Rattle.spec_fork_choice.specs.GetForkchoiceStore.{genesis_store, get_forkchoice_store}
use Rattle.spec_fork_choice.specs.OnEvent.{genesis_clash, open_unless, open_store}
use Rattle.bc_words.specs.Events.{StoreStops}
use Rattle.spec_replay.specs.Run.{with_files, with_config, with_genesis, with_state, with_store, with_record, with_events}
use Rattle.spec_replay.specs.Drill.{Tally}
use Rattle.command_arguments.specs.Arguments.{ReplayFiles}
use Rattle.one_chain.specs.declared.status.Status.{Status}
use Rattle.one_chain.specs.declared.status.Status.TheVariants as statuses
use Rattle.one_chain.specs.declared.genesis.GenesisStop.{GenesisStop}
use Rattle.one_chain.specs.declared.genesis.GenesisStop.TheVariants as stops
use Rattle.one_chain.specs.Answers.{Replayed, breaks_off, taken_of}
use Rattle.one_chain.specs.inside.Statuses.{unread}
use Rattle.one_chain.specs.inside.GenesisAnswers.{GivesGenesis, no_genesis, no_store, run_from}
use Rattle.one_chain.specs.inside.Reading.{ReadOf, Unread}
use Rattle.one_chain.specs.inside.Progress.{EventsOver}
use Rattle.one_chain.proofs.Reaching.{reaches_none, is_prefix, reaches_all, no_lines}
use Rattle.one_chain.proofs.OneByOne.{with_events-files}
use Rattle.one_chain.proofs.Steps.{asks_none, last_taken, held_as, held_prefix, taken_none, over_after, unread_after, goes_on, opened_more}
use Rattle.one_chain.proofs.Prefixes.{config_of-prefix, genesis_of-prefix, files-with_record, files-with_genesis, files-with_files, no_record_lines, no_genesis_lines, no_files_lines}

-- The record was opened, and the rest are its events.
pub record_over : (name : List ℕ) (file : ℕ) (tally tally_then : Tally) (status : Status) (s t u : ShelfTold) (w x : List ℕ) → Opened name file s t → EventsOver status tally (record_source (unread_file file)) t u w x tally_then
    → Replayed (λ contents. with_record tally.store (contents name)) (λ contents opened. with_record tally.store (taken_of 0 opened)) (name ∷ []) status s u w x
unfolding with_record events_at taken_of
record_over name file tally tally_then status s t u w x o h =
    let store : Store = tally.store in
    let files = last_taken name file h.bytes h.met s t u o h.taken in
    record {
      opened = record { name = name; bytes = h.bytes; ended = h.met; grew = false } ∷ [];
      files = files;
      answers = λ c a.
          let held = held_as (c name) name h.bytes h.met (agreed_back c s.files _ (rw files at a)).0 in
          let e = h.ended held.0 held.2 in
          rw held.1 (goes_on (with_events 1 store (events_of (h.bytes ++ held.0))) (with_events 1 store (events_of h.bytes)) name [] status s.asked t.asked u.asked w x o.asked (record {
            ends = e.ends;
            lines = e.lines;
            pace = h.pace;
            asks = record { count = 0; reaches = rw (with_events-files 1 store (events_of (h.bytes ++ held.0))) (reaches_all (breaks_off status) 0); names_are = h.taken.asked ∙ sym (append-nil t.asked) };
          }));
    }

-- A file could not be read, and it was the first of the run.
pub unread_record : (name : List ℕ) (store : Store) (trouble : Trouble) (s t : ShelfTold) (w : List ℕ) → Unread name s t → t.files ≡ s.files → Replayed (λ contents. with_record store (contents name)) (λ contents opened. with_record store (taken_of 0 opened)) (name ∷ []) (unread trouble) s t w w
unread_record name store trouble s t w h e = record {
  opened = [];
  files = e ∙ sym (append-nil s.files);
  answers = λ c a. unread_after _ _ name [] trouble s.asked t.asked w h.asked (files-with_record store (c name)) (no_record_lines store (taken_of 0 []) (taken_none 0 [] (omega arith)));
}

pub unread_genesis : (config : ConfigValues) (name record_name : List ℕ) (trouble : Trouble) (s t : ShelfTold) (w : List ℕ) → Unread name s t
    → Replayed (λ contents. with_genesis config (contents name) (contents record_name)) (λ contents opened. with_genesis config (contents name) (taken_of 1 opened)) (name ∷ record_name ∷ []) (unread trouble) s t w w
unread_genesis config name record_name trouble s t w h = record {
  opened = h.opened;
  files = h.files;
  answers = λ c a. unread_after _ _ name (record_name ∷ []) trouble s.asked t.asked w h.asked (files-with_genesis config (c name) (c record_name)) (no_genesis_lines config (c name) (taken_of 1 h.opened) (taken_none 1 h.opened h.few));
}

pub unread_files : (files : ReplayFiles) (trouble : Trouble) (s t : ShelfTold) (w : List ℕ) → Unread files.config s t
    → Replayed (λ contents. with_files (contents files.config) (contents files.genesis) (contents files.events)) (λ contents opened. with_files (contents files.config) (contents files.genesis) (taken_of 2 opened)) (files.config ∷ files.genesis ∷ files.events ∷ []) (unread trouble) s t w w
unread_files files trouble s t w h = record {
  opened = h.opened;
  files = h.files;
  answers = λ c a. unread_after _ _ files.config (files.genesis ∷ files.events ∷ []) trouble s.asked t.asked w h.asked (files-with_files (c files.config) (c files.genesis) (c files.events)) (no_files_lines (c files.config) (c files.genesis) (taken_of 2 h.opened) (taken_none 2 h.opened (omega (arith, h.few))));
}

module _ (config : ConfigValues) (name record_name : List ℕ) (bytes : List ℕ) (s t : ShelfTold) (read : ReadOf name 1073741825 bytes s t) where
  -- what the bytes that were read are as a genesis state is what the whole file is
  same_genesis : (whole : List ℕ) → bytes ≡ take 1073741825 whole → genesis_of config.preset bytes ≡ genesis_of config.preset whole
  same_genesis whole e = ap (genesis_of config.preset) e ∙ genesis_of-prefix config.preset whole

  pub genesis_stops : (w : List ℕ) (stop : GenesisStop) → GivesGenesis (Err stop) (genesis_of config.preset bytes)
      → Replayed (λ contents. with_genesis config (contents name) (contents record_name)) (λ contents opened. with_genesis config (contents name) (taken_of 1 opened)) (name ∷ record_name ∷ []) (no_genesis stop) s t w w
  unfolding with_genesis with_state
  genesis_stops w (stops.Fault part) gives = record {
    opened = read.handed ∷ [];
    files = read.files;
    answers = λ c a.
        let whole = held_prefix read c a in
        let is : genesis_of config.preset whole.0 ≡ Err part = sym (same_genesis whole.0 whole.2) ∙ gives in
        rw (whole.1, is) (over_after _ _ name (record_name ∷ []) (statuses.Genesis part) s.asked t.asked w read.asked (λ _. refl) (reaches_none false) (reaches_none false) (reaches_all false 1));
  }
  genesis_stops w stops.NoMemory gives = record {
    opened = read.handed ∷ [];
    files = read.files;
    answers = λ c a.
        let whole = held_prefix read c a in
        rw whole.1 (over_after _ _ name (record_name ∷ []) statuses.NoMemory s.asked t.asked w read.asked (λ never. cc) (is_prefix 0 _ (omega arith)) (is_prefix 0 _ (omega arith)) (is_prefix 1 _ (omega arith)));
  }

  pub genesis_goes_on : (u : ShelfTold) (w x : List ℕ) (genesis : PlainState) (status : Status) → GivesGenesis (Ok genesis) (genesis_of config.preset bytes)
      → Replayed (λ contents. run_from config genesis (contents record_name)) (λ contents opened. run_from config genesis (taken_of 0 opened)) (record_name ∷ []) status t u w x
      → Replayed (λ contents. with_genesis config (contents name) (contents record_name)) (λ contents opened. with_genesis config (contents name) (taken_of 1 opened)) (name ∷ record_name ∷ []) status s u w x
  unfolding with_genesis with_state taken_of
  genesis_goes_on u w x genesis status is_state rest = record {
    opened = read.handed ∷ rest.opened;
    files = opened_more s.files read.handed rest.opened read.files rest.files;
    answers = λ c a.
        let whole = held_prefix read c (agreed_front c t.files rest.opened (rw rest.files at a)) in
        let good : genesis_of config.preset whole.0 ≡ Ok genesis = sym (same_genesis whole.0 whole.2) ∙ is_state in
        rw (whole.1, good) (goes_on (run_from config genesis (c record_name)) (run_from config genesis (taken_of 0 rest.opened)) name (record_name ∷ []) status s.asked t.asked u.asked w x read.asked (rest.answers c a));
  }

-- how the opening of a store is one of a clash or of none
pub clash_of_opening : (clash : Option ClashKind) (store : Store) (kind : ClashKind) → open_unless clash store ≡ event_clashes kind → clash ≡ Some kind
unfolding open_unless
clash_of_opening (Some other) store kind e = cc
clash_of_opening None store kind e = cc

pub opened_without : (clash : Option ClashKind) (store opened : Store) → open_unless clash store ≡ accepted opened → (clash ≡ None) × (opened ≡ store)
unfolding open_unless
opened_without (Some other) store opened e = cc
opened_without None store opened e = (refl, cc)

-- a store that opened keeps one block
pub one_block : (config : ConfigValues) (genesis : PlainState) (store : Store) → open_store config genesis ≡ accepted store → length store.blocks ≤ 1
unfolding open_store genesis_store get_forkchoice_store
one_block config genesis store is =
    let opened = opened_without (genesis_clash genesis) (genesis_store config genesis) store is in
    rw opened.1 (omega arith)

-- a run on a store that opens unless its first block clashes
module _ (clash : Option ClashKind) (fresh : Store) (name : List ℕ) where
  abbrev pub OfStore : Status → ShelfTold → ShelfTold → List ℕ → List ℕ → Type 0
  OfStore status s t w x = Replayed (λ contents. with_store clash fresh (contents name)) (λ contents opened. with_store clash fresh (taken_of 0 opened)) (name ∷ []) status s t w x

  -- the store opened, and the record comes next
  pub store_goes_on : (store : Store) (status : Status) (s t : ShelfTold) (w x : List ℕ) → open_unless clash fresh ≡ accepted store
      → Replayed (λ contents. with_record store (contents name)) (λ contents opened. with_record store (taken_of 0 opened)) (name ∷ []) status s t w x → OfStore status s t w x
  unfolding with_store
  store_goes_on store status s t w x is rest =
      let opened = opened_without clash fresh store is in
      rw (opened.0, ← opened.1) rest

  -- no store opened
  no_store_over : (s : ShelfTold) (w : List ℕ) → OfStore statuses.NoMemory s s w w
  no_store_over s w = record {
    opened = [];
    files = sym (append-nil s.files);
    answers = λ c a. record {
      ends = λ never. cc;
      lines = no_lines true _ w (is_prefix 0 _ (omega arith));
      pace = no_lines true _ w (is_prefix 0 _ (omega arith));
      asks = asks_none true _ (name ∷ []) s.asked s.asked (is_prefix 0 _ (omega arith)) refl;
    };
  }

  pub store_over : (stop : StoreStop) (s : ShelfTold) (w : List ℕ) → StoreStops stop (open_unless clash fresh) → OfStore (no_store stop) s s w w
  unfolding with_store
  store_over (stores.Clash kind) s w is = record {
    opened = [];
    files = sym (append-nil s.files);
    answers = λ c a.
        rw (clash_of_opening clash fresh kind is) (record {
          ends = λ _. refl;
          lines = no_lines false [] w (reaches_none false);
          pace = no_lines false [] w (reaches_none false);
          asks = asks_none false 0 (name ∷ []) s.asked s.asked (reaches_none false) refl;
        });
  }
  store_over (stores.Refused why) s w is = no_store_over s w
  store_over (stores.Limit bound) s w is = no_store_over s w
  store_over stores.NoMemory s w is = no_store_over s w

-- The store at genesis opened, or didn't.
pub opened_goes_on : (config : ConfigValues) (genesis : PlainState) (store : Store) (name : List ℕ) (status : Status) (s t : ShelfTold) (w x : List ℕ) → open_store config genesis ≡ accepted store
    → Replayed (λ contents. with_record store (contents name)) (λ contents opened. with_record store (taken_of 0 opened)) (name ∷ []) status s t w x
    → Replayed (λ contents. run_from config genesis (contents name)) (λ contents opened. run_from config genesis (taken_of 0 opened)) (name ∷ []) status s t w x
unfolding open_store
opened_goes_on config genesis store name status s t w x is rest = store_goes_on (genesis_clash genesis) (genesis_store config genesis) name store status s t w x is rest

pub opening_over : (config : ConfigValues) (genesis : PlainState) (name : List ℕ) (stop : StoreStop) (s : ShelfTold) (w : List ℕ) → StoreStops stop (open_store config genesis)
    → Replayed (λ contents. run_from config genesis (contents name)) (λ contents opened. run_from config genesis (taken_of 0 opened)) (name ∷ []) (no_store stop) s s w w
unfolding open_store
opening_over config genesis name stop s w is = store_over (genesis_clash genesis) (genesis_store config genesis) name stop s w is

module _ (files : ReplayFiles) (bytes : List ℕ) (s t : ShelfTold) (read : ReadOf files.config 65537 bytes s t) where
  pub config_stops : (w : List ℕ) (reason : ConfigFault) → Err reason ≡ config_of bytes
      → Replayed (λ contents. with_files (contents files.config) (contents files.genesis) (contents files.events)) (λ contents opened. with_files (contents files.config) (contents files.genesis) (taken_of 2 opened)) (files.config ∷ files.genesis ∷ files.events ∷ []) (statuses.Config reason) s t w w
  unfolding with_files with_config
  config_stops w reason is = record {
    opened = read.handed ∷ [];
    files = read.files;
    answers = λ c a.
        let whole = held_prefix read c a in
        let bad : config_of whole.0 ≡ Err reason = sym (ap config_of whole.2 ∙ config_of-prefix whole.0) ∙ sym is in
        rw (whole.1, bad) (over_after _ _ files.config (files.genesis ∷ files.events ∷ []) (statuses.Config reason) s.asked t.asked w read.asked (λ _. refl) (reaches_none false) (reaches_none false) (reaches_all false 1));
  }

  pub config_goes_on : (u : ShelfTold) (w x : List ℕ) (config : ConfigValues) (status : Status) → Ok config ≡ config_of bytes
      → Replayed (λ contents. with_genesis config (contents files.genesis) (contents files.events)) (λ contents opened. with_genesis config (contents files.genesis) (taken_of 1 opened)) (files.genesis ∷ files.events ∷ []) status t u w x
      → Replayed (λ contents. with_files (contents files.config) (contents files.genesis) (contents files.events)) (λ contents opened. with_files (contents files.config) (contents files.genesis) (taken_of 2 opened)) (files.config ∷ files.genesis ∷ files.events ∷ []) status s u w x
  unfolding with_files with_config taken_of
  config_goes_on u w x config status is rest = record {
    opened = read.handed ∷ rest.opened;
    files = opened_more s.files read.handed rest.opened read.files rest.files;
    answers = λ c a.
        let whole = held_prefix read c (agreed_front c t.files rest.opened (rw rest.files at a)) in
        let good : config_of whole.0 ≡ Ok config = sym (ap config_of whole.2 ∙ config_of-prefix whole.0) ∙ sym is in
        rw (whole.1, good) (goes_on (with_genesis config (c files.genesis) (c files.events)) (with_genesis config (c files.genesis) (taken_of 1 rest.opened)) files.config (files.genesis ∷ files.events ∷ []) status s.asked t.asked u.asked w x read.asked (rest.answers c a));
  }
