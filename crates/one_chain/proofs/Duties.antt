-- The run of `duties`: the configuration's file, the state's file, and the lines of the duties.
use Rattle.std.proofs.Common.{◌≡◌, ◌<◌, ◌≤◌, ◌+◌, ◌*◌, ◌^◌, ℕ, true, false, List, [], ◌∷◌, length, take, Option, Some, None, Result, Ok, Err, IsTrue, ◌↔◌, refl, sym, ap, ap₂, ◌∙◌, inl, inr, arith}
use Rattle.std.specs.Prelude.{flat_map}
use Rattle.std.specs.List.{range_with_len}
use Rattle.std.proofs.lemmas.Bool.{cases_lt, cases_Bool, lt-ltb}
use Rattle.std.proofs.lemmas.List.{length-take, take_all}
use Rattle.std.proofs.Math.Nat.{suc-mul}
use Rattle.bc_outside.specs.Told.{ShelfTold, SinkTold}
use Rattle.bc_outside.specs.declared.trouble.Trouble.{Trouble}
use Rattle.bc_outside.proofs.Keeping.{agreed_front}
use Rattle.bc_preset.specs.Configs.{config_of}
use Rattle.bc_preset.specs.declared.configuration.ConfigValues.{ConfigValues}
use Rattle.bc_preset.specs.declared.faults.ConfigFault.{ConfigFault}
use Rattle.bc_preset.specs.declared.presets.Preset.{Preset}
use Rattle.bc_words.specs.Outcome.{Outcome, checked_mul}
use Rattle.bc_words.specs.Outcome as outcomes
use Rattle.committees.specs.Committees.{Committees, committees_of}
use Rattle.duties.specs.Duties.{DutyLists, AnswersDuties, can_be_asked, duty_lists, get_duties}
use Rattle.duties.specs.declared.duties.Duties.{Duties}
use Rattle.duties.specs.declared.duties.DutyStop.{DutyStop}
use Rattle.duties.specs.declared.duties.DutyStop.TheVariants as stops
use Rattle.duties.specs.declared.fault.DutiesFault.TheVariants as reasons
use Rattle.duties.proofs.Telling.{end_fits}
use Rattle.spec_state.specs.declared.plain.PlainState.{PlainState}
use Rattle.spec_state.specs.Misc.{compute_start_slot_at_epoch}
use Rattle.spec_state.specs.Soundness.{IsSound}
use Rattle.spec_state.specs.inside.EpochCommittees.{epoch_committees}
use Rattle.spec_replay.specs.Run.{limited, bad_duties}
use Rattle.spec_replay.specs.Duties.{checked_state, duties_lines, duties_run, slot_lines, sound_state_of, with_config, with_duties, with_epoch, with_file, with_state}
use Rattle.one_chain.specs.declared.status.Status.{Status}
use Rattle.one_chain.specs.declared.status.Status.TheVariants as statuses
use Rattle.one_chain.specs.declared.tell_duties.StateStop.{StateStop}
use Rattle.one_chain.specs.declared.tell_duties.StateStop.TheVariants as files
use Rattle.one_chain.specs.Answers.{HasCauses, Replayed, whole_of}
use Rattle.one_chain.specs.inside.AtEnd.{Concludes}
use Rattle.one_chain.specs.inside.Duties.{GivesState, no_duties, no_state, table_lines}
use Rattle.one_chain.specs.inside.Reading.{ReadOf, Unread}
use Rattle.one_chain.specs.inside.Statuses.{unread, written}
use Rattle.one_chain.specs.inside.Texts.{WritesText}
use Rattle.one_chain.proofs.DutyTables.{all_lines}
use Rattle.one_chain.proofs.Prefixes.{config_of-prefix}
use Rattle.one_chain.proofs.Reaching.{reaches_none, reaches_all, is_prefix}
use Rattle.spec_fork_choice.proofs.Soundness.{tested}
use Rattle.one_chain.proofs.Steps.{held_prefix, over_after, opened_more}
use Rattle.one_chain.proofs.Whole.{ends_whole, goes_on_whole, unread_whole, out_of_memory, over_concludes, text_concludes}

-- ---- the duties of a state

-- the lines of an epoch's duties are those that the table gives
lines_are : (state : PlainState) (epoch slots : ℕ) (duties : Duties) → duties.first_slot ≡ compute_start_slot_at_epoch state.preset epoch → duties.committees ≡ epoch_committees state epoch → slots ≡ state.preset.slots_per_epoch
    → flat_map (table_lines duties) (range_with_len duties.first_slot slots) ≡ duties_lines state epoch (duty_lists duties)
unfolding duties_lines committees_of
lines_are state epoch slots duties begins table count =
    let slots_are : duties.committees.slots ≡ state.preset.slots_per_epoch = ap (λ (committees : Committees). committees.slots) table in
    ap (λ n. flat_map (table_lines duties) (range_with_len duties.first_slot n)) (count ∙ sym slots_are)
    ∙ sym (all_lines duties)
    ∙ ap₂ (λ a n. flat_map (slot_lines (duty_lists duties)) (range_with_len a n)) begins slots_are

pub duties_conclude : (state : PlainState) (epoch slots : ℕ) (duties : Duties) (result : Result (Unit {0}) Trouble) {s t : SinkTold} → AnswersDuties state epoch (Ok duties)
    → duties.first_slot ≡ compute_start_slot_at_epoch state.preset epoch → duties.committees ≡ epoch_committees state epoch → slots ≡ state.preset.slots_per_epoch
    → WritesText (flat_map (table_lines duties) (range_with_len duties.first_slot slots)) result s t → Concludes (written result) (with_epoch state epoch) s t
unfolding with_epoch with_duties
duties_conclude state epoch slots duties result {s} {t} answers begins table count writes =
    rw (answers.0, answers.1) (text_concludes (duties_lines state epoch (duty_lists duties)) result (rw (lines_are state epoch slots duties begins table count) at writes))

-- the epoch's end fits in 64 bits, and so does its last slot
product_fits : (state : PlainState) (epoch : ℕ) (lists : DutyLists) (product : Outcome ℕ) → product ≡ checked_mul (epoch + 1) state.preset.slots_per_epoch → get_duties state epoch ≡ outcomes.done lists
    → (epoch + 1) * state.preset.slots_per_epoch < 2 ^ 64
unfolding get_duties
product_fits state epoch lists (outcomes.done end) e is = end_fits (epoch + 1) state.preset.slots_per_epoch end (sym e)
product_fits state epoch lists (outcomes.refused why) e is = absurd (cc (rw (sym e) at is))
product_fits state epoch lists (outcomes.limited bound) e is = absurd (cc (rw (sym e) at is))

pub slots_fit : (state : PlainState) (epoch slots : ℕ) (duties : Duties) → get_duties state epoch ≡ outcomes.done (duty_lists duties) → duties.first_slot ≡ compute_start_slot_at_epoch state.preset epoch
    → slots ≡ state.preset.slots_per_epoch → duties.first_slot + slots < 2 ^ 64
slots_fit state epoch slots duties is begins count =
    let fits : (epoch + 1) * state.preset.slots_per_epoch < 2 ^ 64 = product_fits state epoch (duty_lists duties) (checked_mul (epoch + 1) state.preset.slots_per_epoch) refl is in
    rw (begins, count) (omega (arith, fits, suc-mul epoch state.preset.slots_per_epoch))

files-with_duties : (state : PlainState) (epoch : ℕ) (duties : Outcome DutyLists) → (with_duties state epoch duties).files ≡ 0
unfolding with_duties
files-with_duties state epoch (outcomes.done duties) = refl
files-with_duties state epoch (outcomes.refused why) = refl
files-with_duties state epoch (outcomes.limited bound) = refl

files-with_epoch : (state : PlainState) (epoch : ℕ) → (with_epoch state epoch).files ≡ 0
unfolding with_epoch
files-with_epoch state epoch = elim (cases_Bool (can_be_asked state epoch)) [
  | inl asked ↦ rw asked (files-with_duties state epoch (get_duties state epoch))
  | inr other ↦ rw other refl
]

pub duties_stop : (state : PlainState) (epoch : ℕ) (stop : DutyStop) (s : SinkTold) → AnswersDuties state epoch (Err stop) → Concludes (no_duties stop) (with_epoch state epoch) s s
unfolding with_epoch with_duties
duties_stop state epoch stops.Epoch s is = rw is (over_concludes (statuses.Duties reasons.Epoch) (bad_duties reasons.Epoch) s refl (λ is. cc) (λ is. cc) (λ is. cc))
duties_stop state epoch (stops.Refused why) s is =
    rw (is.0, is.1) (over_concludes (statuses.Duties (reasons.Refused why)) (bad_duties (reasons.Refused why)) s refl (λ is. cc) (λ is. cc) (λ is. cc))
duties_stop state epoch (stops.Limit bound) s is = rw (is.0, is.1) (over_concludes (statuses.Limit 0 0 bound) (limited 0 0 bound) s refl (λ is. cc) (λ is. cc) (λ is. cc))
duties_stop state epoch stops.NoMemory s is = out_of_memory (with_epoch state epoch) s (files-with_epoch state epoch)

-- ---- the state's file

pub sound_state : (state : PlainState) → IsTrue true ↔ IsSound state → GivesState (Ok state) (checked_state (Some state))
sound_state state h = rw (tested state true h) refl

pub unsound_state : (state : PlainState) → IsTrue false ↔ IsSound state → GivesState (Err (files.Fault reasons.Unsound)) (checked_state (Some state))
unsound_state state h = rw (tested state false h) refl

-- a file that is longer than allowed is seen to be so by one byte more
sound_state_of-long : (preset : Preset) (bytes : List ℕ) → 1073741824 < length bytes → sound_state_of preset bytes ≡ Err reasons.TooLong
unfolding sound_state_of
sound_state_of-long preset bytes long = rw (lt-ltb 1073741824 (length bytes) long) refl

sound_state_of-prefix : (preset : Preset) (bytes : List ℕ) → sound_state_of preset (take 1073741825 bytes) ≡ sound_state_of preset bytes
sound_state_of-prefix preset bytes =
    elim (cases_lt 1073741824 (length bytes)) [
      | inl long ↦ sound_state_of-long preset (take 1073741825 bytes) (omega (arith, length-take 1073741825 bytes)) ∙ sym (sound_state_of-long preset bytes long)
      | inr short ↦ ap (sound_state_of preset) (take_all 1073741825 bytes (omega arith))
    ]

-- a run asks for its first file
files-with_file : (config : ConfigValues) (epoch : ℕ) (state : Option (List ℕ)) → 1 ≤ (with_file config epoch state).files
unfolding with_file
files-with_file config epoch None = omega arith
files-with_file config epoch (Some bytes) = omega arith

files-duties_run : (epoch : ℕ) (config state : Option (List ℕ)) → 1 ≤ (duties_run epoch config state).files
unfolding duties_run
files-duties_run epoch None state = omega arith
files-duties_run epoch (Some bytes) state = omega arith

-- what becomes of the run of a state's file, and of the command
abbrev pub OfFile : ConfigValues → ℕ → List ℕ → Status → ShelfTold → ShelfTold → List ℕ → List ℕ → Type 0
OfFile config epoch name status s t w x = Replayed (λ contents. with_file config epoch (contents name)) (λ contents opened. whole_of status (with_file config epoch (contents name))) (name ∷ []) status s t w x

abbrev pub OfCommand : ℕ → List ℕ → List ℕ → Status → ShelfTold → ShelfTold → List ℕ → List ℕ → Type 0
OfCommand epoch config_name name status s t w x =
    Replayed (λ contents. duties_run epoch (contents config_name) (contents name)) (λ contents opened. whole_of status (duties_run epoch (contents config_name) (contents name))) (config_name ∷ name ∷ []) status s t w x

pub unread_state_file : (config : ConfigValues) (epoch : ℕ) (name : List ℕ) (trouble : Trouble) (s t : ShelfTold) (w : List ℕ) → Unread name s t → OfFile config epoch name (unread trouble) s t w w
unread_state_file config epoch name trouble s t w h = record {
  opened = h.opened;
  files = h.files;
  answers = λ c a. unread_whole (with_file config epoch (c name)) name [] trouble s.asked t.asked w h.asked (files-with_file config epoch (c name));
}

pub unread_config_file : (epoch : ℕ) (config_name name : List ℕ) (trouble : Trouble) (s t : ShelfTold) (w : List ℕ) → Unread config_name s t → OfCommand epoch config_name name (unread trouble) s t w w
unread_config_file epoch config_name name trouble s t w h = record {
  opened = h.opened;
  files = h.files;
  answers = λ c a. unread_whole (duties_run epoch (c config_name) (c name)) config_name (name ∷ []) trouble s.asked t.asked w h.asked (files-duties_run epoch (c config_name) (c name));
}

module _ (config : ConfigValues) (epoch : ℕ) (name bytes : List ℕ) (s t : ShelfTold) (read : ReadOf name 1073741825 bytes s t) where
  same_state : (whole : List ℕ) → bytes ≡ take 1073741825 whole → sound_state_of config.preset bytes ≡ sound_state_of config.preset whole
  same_state whole e = ap (sound_state_of config.preset) e ∙ sound_state_of-prefix config.preset whole

  pub state_stops : (w : List ℕ) (stop : StateStop) → GivesState (Err stop) (sound_state_of config.preset bytes) → OfFile config epoch name (no_state stop) s t w w
  unfolding with_file with_state
  state_stops w (files.Fault reason) gives = record {
    opened = read.handed ∷ [];
    files = read.files;
    answers = λ c a.
        let whole = held_prefix read c a in
        let is : sound_state_of config.preset whole.0 ≡ Err reason = sym (same_state whole.0 whole.2) ∙ gives in
        rw (whole.1, is) (over_after _ _ name [] (statuses.Duties reason) s.asked t.asked w read.asked (λ _. refl) (reaches_none false) (reaches_none false) (reaches_all false 1));
  }
  state_stops w files.NoMemory gives = record {
    opened = read.handed ∷ [];
    files = read.files;
    answers = λ c a.
        let whole = held_prefix read c a in
        rw whole.1 (over_after _ _ name [] statuses.NoMemory s.asked t.asked w read.asked (λ never. cc) (is_prefix 0 _ (omega arith)) (is_prefix 0 _ (omega arith)) (is_prefix 1 _ (omega arith)));
  }

  pub state_concludes : (state : PlainState) (status : Status) (p q : SinkTold) → GivesState (Ok state) (sound_state_of config.preset bytes) → Concludes status (with_epoch state epoch) p q → OfFile config epoch name status s t p.taken q.taken
  unfolding with_file with_state
  state_concludes state status p q is_state h = record {
    opened = read.handed ∷ [];
    files = read.files;
    answers = λ c a.
        let whole = held_prefix read c a in
        let good : sound_state_of config.preset whole.0 ≡ Ok state = sym (same_state whole.0 whole.2) ∙ is_state in
        rw (whole.1, good) (goes_on_whole (with_epoch state epoch) name [] status s.asked t.asked t.asked p.taken q.taken read.asked (ends_whole (with_epoch state epoch) status t.asked p.taken q.taken h.is_read h.files h.ends h.lines));
  }

-- ---- the configuration's file

module _ (epoch : ℕ) (config_name name bytes : List ℕ) (s t : ShelfTold) (read : ReadOf config_name 65537 bytes s t) where
  pub config_fault_ends : (w : List ℕ) (reason : ConfigFault) → Err reason ≡ config_of bytes → OfCommand epoch config_name name (statuses.Config reason) s t w w
  unfolding duties_run with_config
  config_fault_ends w reason is = record {
    opened = read.handed ∷ [];
    files = read.files;
    answers = λ c a.
        let whole = held_prefix read c a in
        let bad : config_of whole.0 ≡ Err reason = sym (ap config_of whole.2 ∙ config_of-prefix whole.0) ∙ sym is in
        rw (whole.1, bad) (over_after _ _ config_name (name ∷ []) (statuses.Config reason) s.asked t.asked w read.asked (λ _. refl) (reaches_none false) (reaches_none false) (reaches_all false 1));
  }

  pub config_then_state : (u : ShelfTold) (w x : List ℕ) (config : ConfigValues) (status : Status) → Ok config ≡ config_of bytes → OfFile config epoch name status t u w x → OfCommand epoch config_name name status s u w x
  unfolding duties_run with_config
  config_then_state u w x config status is rest = record {
    opened = read.handed ∷ rest.opened;
    files = opened_more s.files read.handed rest.opened read.files rest.files;
    answers = λ c a.
        let whole = held_prefix read c (agreed_front c t.files rest.opened (rw rest.files at a)) in
        let good : config_of whole.0 ≡ Ok config = sym (ap config_of whole.2 ∙ config_of-prefix whole.0) ∙ sym is in
        rw (whole.1, good) (goes_on_whole (with_file config epoch (c name)) config_name (name ∷ []) status s.asked t.asked u.asked w x read.asked (rest.answers c a));
  }

-- ---- the outside

-- a state that can't be asked is no fault of the outside
pub state_causes : (stop : StateStop) {a b c d : ℕ} → HasCauses (no_state stop) a b c d
state_causes (files.Fault reason) = record { read = λ is. cc; write = λ is. cc }
state_causes files.NoMemory = record { read = λ is. cc; write = λ is. cc }
