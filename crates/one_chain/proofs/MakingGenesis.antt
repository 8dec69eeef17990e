-- The configuration's file and the deposits as steps of the run of `genesis`.
use Rattle.std.proofs.Common.{◌≡◌, ◌⊎◌, ◌<◌, ◌≤◌, ℕ, true, false, List, [], ◌∷◌, ◌++◌, length, take, Option, Some, None, Result, Ok, Err, refl, sym, ap, subst, ◌∙◌, arith, append-nil, inl, inr}
use Rattle.std.proofs.lemmas.Bool.{cases_lt, lt-ltb}
use Rattle.std.proofs.lemmas.List.{length-take, take_all}
use Rattle.bc_outside.specs.Told.{ShelfTold, SinkTold}
use Rattle.bc_outside.specs.Calls.{HasCause, ShelfKeeps, SinkKeeps}
use Rattle.bc_outside.specs.declared.trouble.Trouble.{Trouble}
use Rattle.bc_outside.specs.declared.trouble.Trouble.TheVariants as troubles
use Rattle.bc_outside.proofs.Keeping.{agreed_front, sink_keeps_none}
use Rattle.bc_preset.specs.Configs.{config_of}
use Rattle.bc_preset.specs.declared.configuration.ConfigValues.{ConfigValues}
use Rattle.bc_preset.specs.declared.faults.ConfigFault.{ConfigFault}
use Rattle.bc_preset.specs.declared.presets.Preset.{Preset}
use Rattle.spec_genesis.specs.declared.fault.DepositsFault.{DepositsFault}
use Rattle.spec_genesis.specs.declared.fault.DepositsFault.TheVariants as faults
use Rattle.spec_genesis.specs.DepositsFile.{deposits_file_of, genesis_file_of}
use Rattle.spec_genesis.specs.MadeGenesis.{HoldsGenesis, MakesGenesis}
use Rattle.spec_genesis.proofs.File.{makes_genesis}
use Rattle.genesis_maker.specs.declared.stops.DepositsStop.{DepositsStop}
use Rattle.genesis_maker.specs.declared.stops.DepositsStop.TheVariants as stops
use Rattle.genesis_maker.specs.inside.Making.{GivesFile}
use Rattle.spec_replay.specs.Run.{Run, after_file, done}
use Rattle.spec_replay.specs.Genesis.{genesis_run, make_genesis, make_under, write_genesis}
use Rattle.command_arguments.specs.Arguments.{GenesisFiles}
use Rattle.one_chain.specs.declared.status.Status.{Status}
use Rattle.one_chain.specs.declared.status.Status.TheVariants as statuses
use Rattle.one_chain.specs.Answers.{Answers, OutsideKeeps, Replayed, WritesLines, breaks_off, may_lack_lines, whole_of}
use Rattle.one_chain.specs.inside.Statuses.{unread, unwritten}
use Rattle.one_chain.specs.inside.Reading.{ReadOf, Unread}
use Rattle.one_chain.specs.inside.Making.{EndsWhole, OnlyWrites, no_made_genesis}
use Rattle.one_chain.specs.laws.MadeGenesis.{MakesWhatIsReplayed}
use Rattle.one_chain.proofs.Reaching.{reaches_none, reaches_all, is_prefix, no_lines, lines_behind, lines_prefix}
use Rattle.one_chain.proofs.Steps.{held_prefix, over_after, unread_after, goes_on, opened_more}
use Rattle.one_chain.proofs.Prefixes.{config_of-prefix}

-- A file of deposits that is longer than allowed is seen to be so by one byte more.
genesis_file_of-long : (preset : Preset) (bytes : List ℕ) → 1073741824 < length bytes → genesis_file_of preset bytes ≡ Err faults.TooLong
unfolding genesis_file_of deposits_file_of
genesis_file_of-long preset bytes long = rw (lt-ltb 1073741824 (length bytes) long) refl

genesis_file_of-prefix : (preset : Preset) (bytes : List ℕ) → genesis_file_of preset (take 1073741825 bytes) ≡ genesis_file_of preset bytes
genesis_file_of-prefix preset bytes =
    elim (cases_lt 1073741824 (length bytes)) [
      | inl long ↦ genesis_file_of-long preset (take 1073741825 bytes) (omega (arith, length-take 1073741825 bytes)) ∙ sym (genesis_file_of-long preset bytes long)
      | inr short ↦ ap (genesis_file_of preset) (take_all 1073741825 bytes (omega arith))
    ]

-- a run asks for its first file
files-make_genesis : (config : ConfigValues) (deposits : Option (List ℕ)) → 1 ≤ (make_genesis config deposits).files
unfolding make_genesis
files-make_genesis config None = omega arith
files-make_genesis config (Some bytes) = omega arith

files-genesis_run : (config deposits : Option (List ℕ)) → 1 ≤ (genesis_run config deposits).files
unfolding genesis_run
files-genesis_run None deposits = omega arith
files-genesis_run (Some bytes) deposits = omega arith

-- a file in front changes nothing of what is written
whole_behind : (status : Status) (run : Run) → (whole_of status (after_file run)).lines ≡ (whole_of status run).lines
whole_behind statuses.Done run = refl
whole_behind statuses.Words run = refl
whole_behind (statuses.Config fault) run = refl
whole_behind (statuses.Genesis part) run = refl
whole_behind (statuses.Record which event fault) run = refl
whole_behind (statuses.Limit which event limit) run = refl
whole_behind (statuses.Clash which event kind kept_which) run = refl
whole_behind (statuses.Deposits fault) run = refl
whole_behind (statuses.Duties fault) run = refl
whole_behind (statuses.Anchor fault) run = refl
whole_behind statuses.ReadFault run = refl
whole_behind statuses.WriteFault run = refl
whole_behind statuses.NoMemory run = refl

-- The first file could not be read.
unread_whole : (run : Run) (name : List ℕ) (names : List (List ℕ)) (trouble : Trouble) (asked asked_then : List (List ℕ)) (written : List ℕ) → (asked_then ≡ asked) ⊎ (asked_then ≡ asked ++ name ∷ []) → 1 ≤ run.files
    → Answers run (whole_of (unread trouble) run) (name ∷ names) (unread trouble) asked asked_then written written
unread_whole run name names troubles.Failed asked asked_then written e files = unread_after run (whole_of statuses.ReadFault run) name names troubles.Failed asked asked_then written e files refl
unread_whole run name names troubles.NoMemory asked asked_then written e files =
    let a = unread_after run (whole_of statuses.ReadFault run) name names troubles.NoMemory asked asked_then written e files refl in
    record { ends = a.ends; lines = a.lines; pace = a.lines; asks = a.asks }

-- The run goes on behind its first file.
goes_on_whole : (run : Run) (name : List ℕ) (names : List (List ℕ)) (status : Status) (asked mid asked_then : List (List ℕ)) (written written_then : List ℕ) → mid ≡ asked ++ name ∷ []
    → Answers run (whole_of status run) names status mid asked_then written written_then → Answers (after_file run) (whole_of status (after_file run)) (name ∷ names) status asked asked_then written written_then
goes_on_whole run name names status asked mid asked_then written written_then e a =
    let b = goes_on run (whole_of status run) name names status asked mid asked_then written written_then e a in
    record { ends = b.ends; lines = b.lines; pace = subst (λ ls. WritesLines (may_lack_lines status) ls written written_then) (sym (whole_behind status run)) a.pace; asks = b.asks }

-- The end of the run, whose files are all read.
ends_whole : (run : Run) (status : Status) (asked : List (List ℕ)) (written written_then : List ℕ) → EndsWhole status run written written_then → Answers run (whole_of status run) [] status asked asked written written_then
ends_whole run status asked written written_then h = record {
  ends = h.ends;
  lines = h.lines;
  pace = h.pace;
  asks = record { count = 0; reaches = rw h.files (reaches_all (breaks_off status) 0); names_are = sym (append-nil asked) };
}

-- The genesis file was written, or a part of it.
pub file_written : (file written : List ℕ) {then : List ℕ} → then ≡ written ++ file → EndsWhole statuses.Done (write_genesis (Ok file)) written then
unfolding write_genesis
file_written file written e =
    let all = lines_behind false file [] e (no_lines false [] _ (reaches_none false)) in
    record { ends = λ _. refl; lines = all; pace = all; files = refl }

pub file_unwritten : (file written : List ℕ) (trouble : Trouble) {then : List ℕ} → (n : ℕ) × (n ≤ length file) × (then ≡ written ++ take n file) → EndsWhole (unwritten trouble) (write_genesis (Ok file)) written then
unfolding write_genesis
file_unwritten file written troubles.Failed h =
    let part = lines_prefix file [] h.0 h.1 h.2 in
    record { ends = λ never. cc; lines = part; pace = part; files = refl }
file_unwritten file written troubles.NoMemory h =
    let part = lines_prefix file [] h.0 h.1 h.2 in
    record { ends = λ never. cc; lines = part; pace = part; files = refl }

-- Memory ran out before anything was written.
pub cut_off : (file : Result (List ℕ) DepositsFault) (written : List ℕ) → EndsWhole statuses.NoMemory (write_genesis file) written written
unfolding write_genesis
cut_off (Ok file) written =
    let none : WritesLines true (file ++ []) written written = no_lines true (file ++ []) written (is_prefix 0 (length (file ++ [])) (omega arith)) in
    record { ends = λ never. cc; lines = none; pace = none; files = refl }
cut_off (Err fault) written =
    let none : WritesLines true [] written written = no_lines true [] written (is_prefix 0 0 (omega arith)) in
    record { ends = λ never. cc; lines = none; pace = none; files = refl }

-- The deposits make no genesis.
pub deposits_stop : (preset : Preset) (bytes : List ℕ) (stop : DepositsStop) (written : List ℕ) → GivesFile (Err stop) (genesis_file_of preset bytes) → EndsWhole (no_made_genesis stop) (write_genesis (genesis_file_of preset bytes)) written written
unfolding write_genesis
deposits_stop preset bytes (stops.Fault fault) written is =
    let none = no_lines false [] written (reaches_none false) in
    rw is (record { ends = λ _. refl; lines = none; pace = none; files = refl })
deposits_stop preset bytes stops.NoMemory written is = cut_off (genesis_file_of preset bytes) written

module _ (config : ConfigValues) (name : List ℕ) where
  -- The file of deposits could not be read.
  pub unread_deposits : (trouble : Trouble) (s t : ShelfTold) (w : List ℕ) → Unread name s t
      → Replayed (λ contents. make_genesis config (contents name)) (λ contents opened. whole_of (unread trouble) (make_genesis config (contents name))) (name ∷ []) (unread trouble) s t w w
  unread_deposits trouble s t w h = record {
    opened = h.opened;
    files = h.files;
    answers = λ c a. unread_whole _ name [] trouble s.asked t.asked w h.asked (files-make_genesis config (c name));
  }

  -- It was read, and the run came to its end.
  pub deposits_end : (bytes : List ℕ) (status : Status) (s t : ShelfTold) (w x : List ℕ) → ReadOf name 1073741825 bytes s t → EndsWhole status (write_genesis (genesis_file_of config.preset bytes)) w x
      → Replayed (λ contents. make_genesis config (contents name)) (λ contents opened. whole_of status (make_genesis config (contents name))) (name ∷ []) status s t w x
  unfolding make_genesis
  deposits_end bytes status s t w x read h = record {
    opened = read.handed ∷ [];
    files = read.files;
    answers = λ c a.
        let whole = held_prefix read c a in
        let same : genesis_file_of config.preset bytes ≡ genesis_file_of config.preset whole.0 = ap (genesis_file_of config.preset) whole.2 ∙ genesis_file_of-prefix config.preset whole.0 in
        rw whole.1 (goes_on_whole (write_genesis (genesis_file_of config.preset whole.0)) name [] status s.asked t.asked t.asked w x read.asked (ends_whole _ status t.asked w x (rw same at h)));
  }

module _ (files : GenesisFiles) where
  -- The configuration's file could not be read.
  pub unread_config : (trouble : Trouble) (s t : ShelfTold) (w : List ℕ) → Unread files.config s t
      → Replayed (λ contents. genesis_run (contents files.config) (contents files.deposits)) (λ contents opened. whole_of (unread trouble) (genesis_run (contents files.config) (contents files.deposits))) (files.config ∷ files.deposits ∷ []) (unread trouble) s t w w
  unread_config trouble s t w h = record {
    opened = h.opened;
    files = h.files;
    answers = λ c a. unread_whole _ files.config (files.deposits ∷ []) trouble s.asked t.asked w h.asked (files-genesis_run (c files.config) (c files.deposits));
  }

  -- The configuration has a fault.
  pub config_stops : (bytes : List ℕ) (s t : ShelfTold) (w : List ℕ) (reason : ConfigFault) → ReadOf files.config 65537 bytes s t → Err reason ≡ config_of bytes
      → Replayed (λ contents. genesis_run (contents files.config) (contents files.deposits)) (λ contents opened. whole_of (statuses.Config reason) (genesis_run (contents files.config) (contents files.deposits))) (files.config ∷ files.deposits ∷ [])
      (statuses.Config reason) s t w w
  unfolding genesis_run make_under
  config_stops bytes s t w reason read is = record {
    opened = read.handed ∷ [];
    files = read.files;
    answers = λ c a.
        let whole = held_prefix read c a in
        let bad : config_of whole.0 ≡ Err reason = sym (ap config_of whole.2 ∙ config_of-prefix whole.0) ∙ sym is in
        rw (whole.1, bad) (over_after _ _ files.config (files.deposits ∷ []) (statuses.Config reason) s.asked t.asked w read.asked (λ _. refl) (reaches_none false) (reaches_none false) (reaches_all false 1));
  }

  -- The deposits come next.
  pub config_goes_on : (bytes : List ℕ) (s t u : ShelfTold) (w x : List ℕ) (config : ConfigValues) (status : Status) → ReadOf files.config 65537 bytes s t → Ok config ≡ config_of bytes
      → Replayed (λ contents. make_genesis config (contents files.deposits)) (λ contents opened. whole_of status (make_genesis config (contents files.deposits))) (files.deposits ∷ []) status t u w x
      → Replayed (λ contents. genesis_run (contents files.config) (contents files.deposits)) (λ contents opened. whole_of status (genesis_run (contents files.config) (contents files.deposits))) (files.config ∷ files.deposits ∷ []) status s u w x
  unfolding genesis_run make_under
  config_goes_on bytes s t u w x config status read is rest = record {
    opened = read.handed ∷ rest.opened;
    files = opened_more s.files read.handed rest.opened read.files rest.files;
    answers = λ c a.
        let whole = held_prefix read c (agreed_front c t.files rest.opened (rw rest.files at a)) in
        let good : config_of whole.0 ≡ Ok config = sym (ap config_of whole.2 ∙ config_of-prefix whole.0) ∙ sym is in
        rw (whole.1, good) (goes_on_whole (make_genesis config (c files.deposits)) files.config (files.deposits ∷ []) status s.asked t.asked u.asked w x read.asked (rest.answers c a));
  }

-- What was read and then written is all that was done to the outside.
pub read_and_written : {names : List (List ℕ)} {status : Status} {s t : ShelfTold} {p q : SinkTold} → ShelfKeeps names s t → OnlyWrites status p q → OutsideKeeps names (Some status) s t p q
read_and_written keeps h = record { causes = record { read = λ is. absurd (h.read is); write = h.write }; shelf = keeps; sink = h.sink }

pub none_made : (stop : DepositsStop) (p : SinkTold) → OnlyWrites (no_made_genesis stop) p p
none_made (stops.Fault fault) p = record { read = λ is. cc; write = λ is. cc; sink = sink_keeps_none p }
none_made stops.NoMemory p = record { read = λ is. cc; write = λ is. cc; sink = sink_keeps_none p }

pub all_written : {p q : SinkTold} → SinkKeeps p q → OnlyWrites statuses.Done p q
all_written keeps = record { read = λ is. cc; write = λ is. cc; sink = keeps }

-- a sink that failed
pub unwritten_only : (trouble : Trouble) {p q : SinkTold} → HasCause {T = Unit {0}} (Err trouble) p.faults q.faults → SinkKeeps p q → OnlyWrites (unwritten trouble) p q
unwritten_only troubles.Failed h keeps = record { read = λ is. cc; write = λ is. h.1; sink = keeps }
unwritten_only troubles.NoMemory h keeps = record { read = λ is. cc; write = λ is. cc; sink = keeps }

-- What is written is a genesis file.
written_is_genesis : (preset : Preset) (file : Result (List ℕ) DepositsFault) → MakesGenesis preset file → (write_genesis file).end ≡ Some done → HoldsGenesis preset (write_genesis file).lines
unfolding write_genesis
written_is_genesis preset (Ok file) makes is = rw (append-nil file) makes
written_is_genesis preset (Err fault) makes is = cc

pub is_replayed : MakesWhatIsReplayed
unfolding make_genesis
is_replayed config deposits preset fits is = written_is_genesis config.preset (genesis_file_of config.preset deposits) (makes_genesis config.preset deposits preset fits) is
