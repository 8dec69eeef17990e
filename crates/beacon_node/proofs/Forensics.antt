-- The run of two records: the files of configuration and genesis, both records, and what is told of them.
use Rattle.std.proofs.Common.{◌≡◌, ◌∙◌, ℕ, ◌≤◌, Bool, false, List, [], ◌∷◌, ◌++◌, Option, Some, None, Result, Ok, Err, refl, sym, ap, subst, inl, inr, arith}
use Rattle.bc_outside.specs.Told.{ShelfTold, SinkTold, FileAgrees}
use Rattle.bc_outside.specs.Calls.{Opened, Takes}
use Rattle.bc_outside.specs.declared.trouble.Trouble.{Trouble}
use Rattle.bc_outside.proofs.Keeping.{keeps_none}
use Rattle.bc_preset.specs.Configs.{config_of}
use Rattle.bc_preset.specs.declared.configuration.ConfigValues.{ConfigValues}
use Rattle.bc_preset.specs.declared.faults.ConfigFault.{ConfigFault}
use Rattle.bc_words.specs.declared.store_stop.ClashKind.{ClashKind}
use Rattle.record_file.specs.Record.{events_of}
use Rattle.record_file.specs.Frames.{CanFollow, unread_file, events_at}
use Rattle.record_file.specs.Sources.{record_source}
use Rattle.spec_state.specs.Genesis.{genesis_of}
use Rattle.spec_state.specs.declared.plain.PlainState.{PlainState}
use Rattle.spec_fork_choice.specs.Store.{Store}
use Rattle.spec_fork_choice.specs.GetForkchoiceStore.{genesis_store}
use Rattle.spec_fork_choice.specs.OnEvent.{genesis_clash}
use Rattle.spec_forensics.specs.Clash.{first_accepted}
use Rattle.spec_replay.specs.Run.{Run, bad_config, bad_genesis, clash}
use Rattle.spec_replay.specs.Forensic.{Followed, behind_first, follow, records_run, judge, with_config, with_first, with_genesis, with_second, with_state, with_store}
use Rattle.spec_replay.specs.declared.report.Report.{Report}
use Rattle.command_arguments.specs.Arguments.{ForensicFiles}
use Rattle.beacon_node.specs.declared.follow.Side.{Side}
use Rattle.beacon_node.specs.declared.follow.Side.TheVariants.{First}
use Rattle.one_chain.specs.declared.genesis.GenesisStop.{GenesisStop}
use Rattle.one_chain.specs.declared.genesis.GenesisStop.TheVariants as stops
use Rattle.one_chain.specs.declared.status.Status.{Status}
use Rattle.one_chain.specs.declared.status.Status.TheVariants as statuses
use Rattle.one_chain.specs.Answers.{OutsideKeeps, end_of}
use Rattle.one_chain.specs.inside.AtEnd.{Concludes}
use Rattle.beacon_node.specs.inside.ByFiles.{EndsOver}
use Rattle.beacon_node.specs.inside.Following.{EndsBy, FollowedToEnd, FollowsOutside, HandedSo, RecordFollowed, others_of, which_of}
use Rattle.one_chain.specs.inside.GenesisAnswers.{GivesGenesis, no_genesis}
use Rattle.beacon_node.specs.inside.Histories.{OpeningEnds, run_of_records}
use Rattle.one_chain.specs.inside.Reading.{ReadOf, Unread}
use Rattle.one_chain.specs.inside.Statuses.{unread}
use Rattle.one_chain.proofs.Prefixes.{config_of-prefix, genesis_of-prefix}
use Rattle.one_chain.proofs.Outside.{ends_here, no_fault, only_shelf, untouched}
use Rattle.one_chain.proofs.Steps.{held_as, last_taken}
use Rattle.beacon_node.proofs.ByFiles.{breaks_at_file, concluded, ends_at_once, goes_on_behind, handed_of, stops_at_file, unread_breaks}

-- ---- the configuration's file

module _ (report : Report) (files : ForensicFiles) where
  abbrev pub whole_run : (List ℕ → Option (List ℕ)) → Run
  whole_run contents = records_run report (contents files.config) (contents files.genesis) (contents files.first) (contents files.second)

  abbrev pub other_names : List (List ℕ)
  other_names = files.genesis ∷ files.first ∷ files.second ∷ []

  first_file : (config genesis first second : Option (List ℕ)) → 1 ≤ (records_run report config genesis first second).files
  unfolding records_run
  first_file None genesis first second = omega arith
  first_file (Some bytes) genesis first second = omega arith

  pub unread_config : (trouble : Trouble) (s t : ShelfTold) (w : List ℕ) → Unread files.config s t → EndsOver whole_run (files.config ∷ other_names) (unread trouble) s t w w
  unread_config trouble s t w h =
      breaks_at_file whole_run files.config other_names (unread trouble) s t w (unread_breaks trouble) h (λ c. first_file (c files.config) (c files.genesis) (c files.first) (c files.second))

  module _ (bytes : List ℕ) (s t : ShelfTold) (read : ReadOf files.config 65537 bytes s t) where
    same_config : (whole : List ℕ) → FileAgrees (Some whole) read.handed → config_of whole ≡ config_of bytes
    same_config whole a = sym (ap config_of (read.front whole a) ∙ config_of-prefix whole)

    pub config_stops : (w : List ℕ) (reason : ConfigFault) → Err reason ≡ config_of bytes → EndsOver whole_run (files.config ∷ other_names) (statuses.Config reason) s t w w
    unfolding records_run with_config
    config_stops w reason is =
        stops_at_file whole_run files.config other_names read.handed (statuses.Config reason) s t w (handed_of read) (λ c. first_file (c files.config) (c files.genesis) (c files.first) (c files.second))
        (λ c whole held a on. (bad_config reason, refl, rw (held, same_config whole a ∙ sym is) refl))

    pub config_goes_on : (u : ShelfTold) (w x : List ℕ) (config : ConfigValues) (status : Status) → Ok config ≡ config_of bytes
        → EndsOver (λ contents. with_genesis report config (contents files.genesis) (contents files.first) (contents files.second)) other_names status t u w x → EndsOver whole_run (files.config ∷ other_names) status s u w x
    unfolding records_run with_config
    config_goes_on u w x config status is rest =
        goes_on_behind whole_run files.config other_names (λ contents. with_genesis report config (contents files.genesis) (contents files.first) (contents files.second)) read.handed status s t u w x (handed_of read)
        (λ c whole held a. rw (held, same_config whole a ∙ sym is) refl) rest

-- ---- the genesis file

module _ (report : Report) (config : ConfigValues) (files : ForensicFiles) where
  abbrev pub genesis_run : (List ℕ → Option (List ℕ)) → Run
  genesis_run contents = with_genesis report config (contents files.genesis) (contents files.first) (contents files.second)

  abbrev pub record_names : List (List ℕ)
  record_names = files.first ∷ files.second ∷ []

  genesis_file : (genesis first second : Option (List ℕ)) → 1 ≤ (with_genesis report config genesis first second).files
  unfolding with_genesis
  genesis_file None first second = omega arith
  genesis_file (Some bytes) first second = omega arith

  pub unread_genesis : (trouble : Trouble) (s t : ShelfTold) (w : List ℕ) → Unread files.genesis s t → EndsOver genesis_run (files.genesis ∷ record_names) (unread trouble) s t w w
  unread_genesis trouble s t w h =
      breaks_at_file genesis_run files.genesis record_names (unread trouble) s t w (unread_breaks trouble) h (λ c. genesis_file (c files.genesis) (c files.first) (c files.second))

  module _ (bytes : List ℕ) (s t : ShelfTold) (read : ReadOf files.genesis 1073741825 bytes s t) where
    same_genesis : (whole : List ℕ) → FileAgrees (Some whole) read.handed → genesis_of config.preset whole ≡ genesis_of config.preset bytes
    same_genesis whole a = sym (ap (genesis_of config.preset) (read.front whole a) ∙ genesis_of-prefix config.preset whole)

    pub genesis_stops : (w : List ℕ) (stop : GenesisStop) → GivesGenesis (Err stop) (genesis_of config.preset bytes) → EndsOver genesis_run (files.genesis ∷ record_names) (no_genesis stop) s t w w
    unfolding with_genesis with_state
    genesis_stops w (stops.Fault part) gives =
        stops_at_file genesis_run files.genesis record_names read.handed (statuses.Genesis part) s t w (handed_of read) (λ c. genesis_file (c files.genesis) (c files.first) (c files.second))
        (λ c whole held a on. (bad_genesis part, refl, rw (held, same_genesis whole a ∙ gives) refl))
    genesis_stops w stops.NoMemory gives =
        stops_at_file genesis_run files.genesis record_names read.handed statuses.NoMemory s t w (handed_of read) (λ c. genesis_file (c files.genesis) (c files.first) (c files.second)) (λ c whole held a on. absurd cc)

    pub genesis_goes_on : (u : ShelfTold) (w x : List ℕ) (genesis : PlainState) (status : Status) → GivesGenesis (Ok genesis) (genesis_of config.preset bytes)
        → EndsOver (λ contents. run_of_records report config genesis (contents files.first) (contents files.second)) record_names status t u w x → EndsOver genesis_run (files.genesis ∷ record_names) status s u w x
    unfolding with_genesis with_state
    genesis_goes_on u w x genesis status gives rest =
        goes_on_behind genesis_run files.genesis record_names (λ contents. run_of_records report config genesis (contents files.first) (contents files.second)) read.handed status s t u w x (handed_of read)
        (λ c whole held a. rw (held, same_genesis whole a ∙ gives) refl) rest

-- ---- the stores at genesis

module _ (report : Report) (config : ConfigValues) (genesis : PlainState) (files : ForensicFiles) where
  -- they don't open
  pub opening_over : (status : Status) (s : ShelfTold) (w : List ℕ) → OpeningEnds status (genesis_clash genesis) → EndsOver (λ contents. run_of_records report config genesis (contents files.first) (contents files.second)) (files.first ∷ files.second ∷ []) status s s w w
  unfolding with_store
  opening_over status s w h = ends_at_once _ _ status s w (λ c on. let e = h.clashes on in (clash 0 0 e.0 0, ap end_of (sym e.2), rw e.1 refl))

  -- the first record comes next
  pub records_go_on : (first : Store) (status : Status) (s u : ShelfTold) (w x : List ℕ) → genesis_clash genesis ≡ None → first ≡ genesis_store config genesis
      → EndsOver (λ contents. with_first report genesis first (contents files.first) (contents files.second)) (files.first ∷ files.second ∷ []) status s u w x
      → EndsOver (λ contents. run_of_records report config genesis (contents files.first) (contents files.second)) (files.first ∷ files.second ∷ []) status s u w x
  unfolding with_store
  records_go_on first status s u w x none is rest = rw (none, ← is) rest

-- ---- a record

-- what is true of all that can stand behind the bytes that were taken is true of the whole file
so_handed : (name : List ℕ) (file : ℕ) (bytes : List ℕ) (met : Bool) (s t u : ShelfTold) → Opened name file s t → Takes file bytes met t u → (P : List ℕ → Type 0) → ((behind : List ℕ) → CanFollow met behind → P (bytes ++ behind)) → HandedSo name P s u
so_handed name file bytes met s t u o taken P so = record {
  handed = record { name = name; bytes = bytes; ended = met; grew = false };
  is = record { named = refl; files = last_taken name file bytes met s t u o taken; asked = taken.asked ∙ o.asked };
  so = λ whole a.
      let held = held_as (Some whole) name bytes met a in
      let same : whole ≡ bytes ++ held.0 = (let is = held.1 in cc) in
      subst P (sym same) (so held.0 held.2);
}

-- it was opened, and its events were followed
pub record_followed : (side : Side) (name : List ℕ) (file : ℕ) (result : Result (Unit {0}) Status) (store : Store) (left : Followed) (s t u : ShelfTold) → Opened name file s t
    → FollowedToEnd side result (record { store = store; history = [] }) (record_source (unread_file file)) t u left → RecordFollowed side name result store s u left
unfolding events_at
record_followed side name file (Ok v) store left s t u o h = so_handed name file h.bytes h.met s t u o h.taken (λ whole. follow (which_of side) (others_of side) store (events_of whole) ≡ Ok left) (λ behind can. h.leaves behind can)
record_followed side name file (Err status) store left s t u o h =
    inr (so_handed name file h.bytes h.met s t u o h.taken (λ whole. EndsBy status (follow (which_of side) (others_of side) store (events_of whole))) (λ behind can. h.leaves behind can))

module _ (report : Report) (genesis : PlainState) (store : Store) (first : List ℕ) (second : List ℕ) where
  abbrev pub first_run : (List ℕ → Option (List ℕ)) → Run
  first_run contents = with_first report genesis store (contents first) (contents second)

  first_record : (a b : Option (List ℕ)) → 1 ≤ (with_first report genesis store a b).files
  unfolding with_first
  first_record None b = omega arith
  first_record (Some bytes) b = omega arith

  pub first_stops : (status : Status) (left : Followed) (s t : ShelfTold) (w : List ℕ) → RecordFollowed First first (Err status) store s t left → EndsOver first_run (first ∷ second ∷ []) status s t w w
  unfolding with_first behind_first
  first_stops status left s t w (inl h) = breaks_at_file first_run first (second ∷ []) status s t w h.0 h.1 (λ c. first_record (c first) (c second))
  first_stops status left s t w (inr h) =
      stops_at_file first_run first (second ∷ []) h.handed status s t w h.is (λ c. first_record (c first) (c second)) (λ c whole held a on. let e = h.so whole a on in (e.0, e.1, rw (held, e.2) refl))

  pub first_goes_on : (left : Followed) (status : Status) (s t u : ShelfTold) (w x : List ℕ) → RecordFollowed First first (Ok tt) store s t left
      → EndsOver (λ contents. with_second report genesis store left (contents second)) (second ∷ []) status t u w x → EndsOver first_run (first ∷ second ∷ []) status s u w x
  unfolding with_first behind_first
  first_goes_on left status s t u w x h rest =
      goes_on_behind first_run first (second ∷ []) (λ contents. with_second report genesis store left (contents second)) h.handed status s t u w x h.is (λ c whole held a. rw (held, h.so whole a) refl) rest

module _ (report : Report) (genesis : PlainState) (store : Store) (left : Followed) (side : Side) (name : List ℕ) (second : which_of side ≡ 1) (same : others_of side ≡ first_accepted genesis left.history) where
  abbrev pub second_run : (List ℕ → Option (List ℕ)) → Run
  second_run contents = with_second report genesis store left (contents name)

  second_record : (b : Option (List ℕ)) → 1 ≤ (with_second report genesis store left b).files
  unfolding with_second
  second_record None = omega arith
  second_record (Some bytes) = omega arith

  pub second_stops : (status : Status) (left_then : Followed) (s t : ShelfTold) (w : List ℕ) → RecordFollowed side name (Err status) store s t left_then → EndsOver second_run (name ∷ []) status s t w w
  unfolding with_second judge
  second_stops status left_then s t w (inl h) = breaks_at_file second_run name [] status s t w h.0 h.1 (λ c. second_record (c name))
  second_stops status left_then s t w (inr h) =
      stops_at_file second_run name [] h.handed status s t w h.is (λ c. second_record (c name))
      (λ c whole held a on. let e = h.so whole a on in let is = rw (second, same) at e.2 in (e.0, e.1, rw (held, is) refl))

  pub second_concludes : (left_then : Followed) (status : Status) (s t : ShelfTold) (p q : SinkTold) → RecordFollowed side name (Ok tt) store s t left_then → Concludes status (judge report genesis left (Ok left_then)) p q
      → EndsOver second_run (name ∷ []) status s t p.taken q.taken
  unfolding with_second
  second_concludes left_then status s t p q h rest =
      goes_on_behind second_run name [] (λ contents. judge report genesis left (Ok left_then)) h.handed status s t t p.taken q.taken h.is
      (λ c whole held a. let is = rw (second, same) at h.so whole a in rw (held, is) refl) (concluded (judge report genesis left (Ok left_then)) status t p q rest)

-- ---- the outside

-- the run ended while a record was followed
pub follows_outside : (names more : List (List ℕ)) (status : Status) {T : Type 0} {s t : ShelfTold} {p : SinkTold} → FollowsOutside {T = T} names (Err status) s t → OutsideKeeps (names ++ more) (Some status) s t p p
follows_outside names more status h = ends_here names more (only_shelf h.shelf) (record { read = h.read; write = λ is. absurd (h.others.1 is) })

-- the stores don't open
pub opening_outside : (names : List (List ℕ)) (status : Status) (found : Option ClashKind) (s : ShelfTold) (p : SinkTold) → OpeningEnds status found → OutsideKeeps names (Some status) s s p p
opening_outside names status found s p h = ends_here [] names (untouched s p) (no_fault status h.inside.read h.inside.write)

-- all was well so far, and a value came of it
pub made_outside : {T U : Type 0} (names : List (List ℕ)) (value : T) (made : U) {s t : ShelfTold} → FollowsOutside names (Ok value) s t → FollowsOutside names (Ok made) s t
made_outside names value made h = record { shelf = h.shelf; read = tt; others = tt }

-- memory ran out behind it
pub memory_outside : {T U : Type 0} (names : List (List ℕ)) (result : Result T Status) {s t : ShelfTold} → FollowsOutside names result s t → FollowsOutside {T = U} names (Err statuses.NoMemory) s t
memory_outside names result h = record { shelf = h.shelf; read = λ is. cc; others = (λ is. cc, λ is. cc, λ is. cc) }

-- the run ended with the same status
pub ended_outside : {T U : Type 0} (names : List (List ℕ)) (status : Status) {s t : ShelfTold} → FollowsOutside {T = T} names (Err status) s t → FollowsOutside {T = U} names (Err status) s t
ended_outside names status h = record { shelf = h.shelf; read = h.read; others = h.others }

-- the stores don't open
pub opening_follows : {T : Type 0} (status : Status) (found : Option ClashKind) (s : ShelfTold) → OpeningEnds status found → FollowsOutside {T = T} [] (Err status) s s
opening_follows status found s h = record { shelf = keeps_none s; read = λ is. absurd (h.inside.read is); others = (h.inside.words, h.inside.write, h.inside.done) }
