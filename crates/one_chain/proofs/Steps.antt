-- One file of a run after the other: what became of the run so far, and what becomes of the rest.
use Rattle.std.proofs.Common.{◌≡◌, ◌⊎◌, ℕ, zero, suc, ◌+◌, ◌≤◌, Bool, true, false, List, [], ◌∷◌, ◌++◌, length, take, drop, Option, Some, None, Result, Ok, Err, refl, sym, ap, ◌∙◌, append_assoc, append-nil, add-one, inl, inr, arith}
use Rattle.std.proofs.lemmas.List.{take_all}
use Rattle.std.proofs.lemmas.Bool.{cases_lt}
use Rattle.std.proofs.Math.Seq.{drop-length}
use Rattle.std.proofs.lemmas.Grind.{common_steps}
use Rattle.bc_outside.specs.Told.{FileHanded, ShelfTold, FileAgrees, Agrees, opened_file}
use Rattle.bc_outside.specs.Calls.{Opened, Opens, Takes, ReadsUpTo}
use Rattle.bc_outside.specs.declared.trouble.Trouble.{Trouble}
use Rattle.bc_outside.specs.declared.trouble.Trouble.TheVariants.{Failed, NoMemory}
use Rattle.bc_outside.proofs.Keeping.{agreed_back}
use Rattle.bc_outside.proofs.Taking.{more-last}
use Rattle.record_file.specs.Frames.{CanFollow}
use Rattle.spec_replay.specs.Run.{Run, after_file}
use Rattle.one_chain.specs.declared.status.Status.{Status}
use Rattle.one_chain.specs.Answers.{Answers, AsksFor, AllUnless, breaks_off, may_lack_lines, end_of, taken_of}
use Rattle.one_chain.specs.inside.Statuses.{unread}
use Rattle.one_chain.specs.inside.Reading.{ReadOf, Unread, ReadsNamed}
use Rattle.one_chain.proofs.Reaching.{reaches_none, is_prefix, reaches_one, no_lines}

-- the file that was opened last, and what was taken of it
pub last_taken : (name : List ℕ) (file : ℕ) (bytes : List ℕ) (met : Bool) (s t u : ShelfTold) → Opened name file s t → Takes file bytes met t u → u.files ≡ s.files ++ record { name = name; bytes = bytes; ended = met; grew = false } ∷ []
last_taken name file bytes met s t u o h = rw (h.files, o.files, o.number) (more-last s.files (opened_file name) bytes met)

-- what a name holds that agrees with what was taken
pub held_as : (held : Option (List ℕ)) (name bytes : List ℕ) (met : Bool) → FileAgrees held (record { name = name; bytes = bytes; ended = met; grew = false }) → (behind : List ℕ) × (held ≡ Some (bytes ++ behind)) × CanFollow met behind
held_as None name bytes met h = absurd h
held_as (Some whole) name bytes met h = (drop (length bytes) whole, ap Some h.0, λ e. ap (drop (length bytes)) (h.2 e) ∙ drop-length bytes)

pub held_whole : (held : Option (List ℕ)) (f : FileHanded) → FileAgrees held f → (whole : List ℕ) × (held ≡ Some whole) × FileAgrees (Some whole) f
held_whole None f h = absurd h
held_whole (Some whole) f h = (whole, refl, h)

-- reading a named file
prefix_of : (limit : ℕ) (bytes whole : List ℕ) → length bytes ≤ limit → limit ≤ length bytes → whole ≡ bytes ++ drop (length bytes) whole → bytes ≡ take limit whole
prefix_of limit bytes whole le ge e = grind (arith, common_steps)

pub read_of : {V : Type 0} (items : V → List ℕ) (name : List ℕ) (limit file : ℕ) (result : Result V Trouble) (s t u : ShelfTold) → Opened name file s t → ReadsUpTo items limit file result t u → ReadsNamed items name limit result s u
read_of items name limit file (Ok v) s t u o h = record {
  handed = record { name = name; bytes = items v; ended = h.met; grew = false };
  named = refl;
  files = last_taken name file (items v) h.met s t u o h.taken;
  asked = h.taken.asked ∙ o.asked;
  front = λ whole a. elim (cases_lt (length (items v)) limit) [
    | inl short ↦ let all : whole ≡ items v = a.2 (h.all short) in rw all (sym (take_all limit (items v) h.within))
    | inr long ↦ prefix_of limit (items v) whole h.within long a.0
  ];
}
read_of items name limit file (Err trouble) s t u o h = record {
  opened = record { name = name; bytes = h.0; ended = false; grew = false } ∷ [];
  few = omega arith;
  files = last_taken name file h.0 false s t u o h.2;
  asked = inr (h.2.asked ∙ o.asked);
}

pub unopened : (name : List ℕ) (trouble : Trouble) (s t : ShelfTold) → Opens name (Err trouble) s t → Unread name s t
unopened name Failed s t h = record { opened = []; few = omega arith; files = h.files ∙ sym (append-nil s.files); asked = inr h.asked }
unopened name NoMemory s t h = record { opened = []; few = omega arith; files = h.files ∙ sym (append-nil s.files); asked = inl h.asked }

-- the bytes that were read are those that the name holds, up to the limit
pub held_prefix : {name : List ℕ} {limit : ℕ} {bytes : List ℕ} {s t : ShelfTold} → ReadOf name limit bytes s t → (c : List ℕ → Option (List ℕ)) → Agrees c t.files → (whole : List ℕ) × (c name ≡ Some whole) × (bytes ≡ take limit whole)
held_prefix {name} {limit} {bytes} {s} {t} h c a =
    let agrees = (agreed_back c s.files (h.handed ∷ []) (rw h.files at a)).0 in
    let w = held_whole (c h.handed.name) h.handed agrees in
    (w.0, ap c (sym h.named) ∙ w.1, h.front w.0 w.2)

-- the record was not opened
pub taken_none : (n : ℕ) (opened : List FileHanded) → length opened ≤ n → taken_of n opened ≡ None
unfolding taken_of
taken_none n [] h = refl
taken_none zero (f ∷ opened) h = absurd (omega arith)
taken_none (suc n) (f ∷ opened) h = taken_none n opened (omega arith)

asks_one : (cut_short : Bool) (files : ℕ) (name : List ℕ) (names asked asked_then : List (List ℕ)) → AllUnless cut_short 1 files → asked_then ≡ asked ++ name ∷ [] → AsksFor cut_short files (name ∷ names) asked asked_then
asks_one cut_short files name names asked asked_then reaches e = record { count = 1; reaches = reaches; names_are = e }

pub asks_none : (cut_short : Bool) (files : ℕ) (names asked asked_then : List (List ℕ)) → AllUnless cut_short 0 files → asked_then ≡ asked → AsksFor cut_short files names asked asked_then
asks_none cut_short files names asked asked_then reaches e = record { count = 0; reaches = reaches; names_are = e ∙ sym (append-nil asked) }

-- The run is over, or broken off, behind its first file.
pub over_after : (run taken_run : Run) (name : List ℕ) (names : List (List ℕ)) (status : Status) (asked asked_then : List (List ℕ)) (written : List ℕ) → asked_then ≡ asked ++ name ∷ []
    → (breaks_off status ≡ false → run.end ≡ end_of status) → AllUnless (breaks_off status) 0 (length run.lines) → AllUnless (may_lack_lines status) 0 (length taken_run.lines) → AllUnless (breaks_off status) 1 run.files
    → Answers run taken_run (name ∷ names) status asked asked_then written written
over_after run taken_run name names status asked asked_then written e ends lines pace files = record {
  ends = ends;
  lines = no_lines (breaks_off status) run.lines written lines;
  pace = no_lines (may_lack_lines status) taken_run.lines written pace;
  asks = asks_one (breaks_off status) run.files name names asked asked_then files e;
}

-- The first file could not be read.
pub unread_after : (run taken_run : Run) (name : List ℕ) (names : List (List ℕ)) (trouble : Trouble) (asked asked_then : List (List ℕ)) (written : List ℕ) → (asked_then ≡ asked) ⊎ (asked_then ≡ asked ++ name ∷ []) → 1 ≤ run.files → taken_run.lines ≡ []
    → Answers run taken_run (name ∷ names) (unread trouble) asked asked_then written written
unread_after run taken_run name names Failed asked asked_then written e files none = record {
  ends = λ never. cc;
  lines = no_lines true run.lines written (is_prefix 0 _ (omega arith));
  pace = rw none (no_lines false [] written (reaches_none false));
  asks = elim e [
    | inl same ↦ asks_none true run.files (name ∷ names) asked asked_then (is_prefix 0 _ (omega arith)) same
    | inr one ↦ asks_one true run.files name names asked asked_then (is_prefix 1 _ files) one
  ];
}
unread_after run taken_run name names NoMemory asked asked_then written e files none = record {
  ends = λ never. cc;
  lines = no_lines true run.lines written (is_prefix 0 _ (omega arith));
  pace = no_lines true taken_run.lines written (is_prefix 0 _ (omega arith));
  asks = elim e [
    | inl same ↦ asks_none true run.files (name ∷ names) asked asked_then (is_prefix 0 _ (omega arith)) same
    | inr one ↦ asks_one true run.files name names asked asked_then (is_prefix 1 _ files) one
  ];
}

-- The run goes on behind its first file.
pub goes_on : (run taken_run : Run) (name : List ℕ) (names : List (List ℕ)) (status : Status) (asked mid asked_then : List (List ℕ)) (written written_then : List ℕ) → mid ≡ asked ++ name ∷ []
    → Answers run taken_run names status mid asked_then written written_then → Answers (after_file run) (after_file taken_run) (name ∷ names) status asked asked_then written written_then
goes_on run taken_run name names status asked mid asked_then written written_then e a = record {
  ends = a.ends;
  lines = record { count = a.lines.count; reaches = a.lines.reaches; bytes = a.lines.bytes };
  pace = record { count = a.pace.count; reaches = a.pace.reaches; bytes = a.pace.bytes };
  asks = record {
    count = a.asks.count + 1;
    reaches = reaches_one (breaks_off status) a.asks.count run.files a.asks.reaches;
    names_are = rw add-one (a.asks.names_are ∙ ap (λ (front : List (List ℕ)). front ++ take a.asks.count names) e ∙ append_assoc asked (name ∷ []) (take a.asks.count names));
  };
}

-- one file more was opened
pub opened_more : (told : List FileHanded) {mid then : List FileHanded} (f : FileHanded) (opened : List FileHanded) → mid ≡ told ++ f ∷ [] → then ≡ mid ++ opened → then ≡ told ++ f ∷ opened
opened_more told {mid} {then} f opened e h = h ∙ ap (λ (fs : List FileHanded). fs ++ opened) e ∙ append_assoc told (f ∷ []) opened

pub unopened_files : (name : List ℕ) (trouble : Trouble) (s t : ShelfTold) → Opens name (Err trouble) s t → t.files ≡ s.files
unopened_files name Failed s t h = h.files
unopened_files name NoMemory s t h = h.files
