-- Runs that write once all their files are read.
use Rattle.std.proofs.Common.{◌≡◌, ◌≢◌, ◌⊎◌, ◌≤◌, ℕ, true, false, List, [], ◌∷◌, ◌++◌, Some, Result, Ok, Err, refl, sym, append-nil, arith}
use Rattle.bc_outside.specs.Told.{ShelfTold, SinkTold}
use Rattle.bc_outside.specs.Calls.{ShelfKeeps}
use Rattle.bc_outside.specs.declared.trouble.Trouble.{Trouble}
use Rattle.bc_outside.specs.declared.trouble.Trouble.TheVariants as troubles
use Rattle.bc_outside.proofs.Keeping.{sink_keeps_none}
use Rattle.spec_replay.specs.Run.{Run, End, after_file, after_lines, done, over}
use Rattle.one_chain.specs.declared.status.Status.{Status}
use Rattle.one_chain.specs.declared.status.Status.TheVariants as statuses
use Rattle.one_chain.specs.Answers.{Answers, OutsideKeeps, WritesLines, breaks_off, end_of, may_lack_lines, whole_of}
use Rattle.one_chain.specs.inside.AtEnd.{Concludes}
use Rattle.one_chain.specs.inside.Statuses.{unread, written}
use Rattle.one_chain.specs.inside.Texts.{WritesText}
use Rattle.one_chain.proofs.Reaching.{is_prefix, lines_behind, lines_prefix, no_lines, reaches_all, reaches_none}
use Rattle.one_chain.proofs.Steps.{goes_on, unread_after}

-- a file in front of the run changes nothing of what is written
whole_behind : (status : Status) (run : Run) → whole_of status (after_file run) ≡ after_file (whole_of status run)
whole_behind statuses.Done run = refl
whole_behind statuses.Words run = refl
whole_behind (statuses.Config fault) run = refl
whole_behind (statuses.Genesis part) run = refl
whole_behind (statuses.Record which event fault) run = refl
whole_behind (statuses.Limit which event limit) run = refl
whole_behind (statuses.Clash which event kind kept_which) run = refl
whole_behind (statuses.Deposits fault) run = refl
whole_behind (statuses.Duties fault) run = refl
whole_behind (statuses.Anchor fault) run = refl
whole_behind statuses.ReadFault run = refl
whole_behind statuses.WriteFault run = refl
whole_behind statuses.NoMemory run = refl

-- The first file could not be read.
pub unread_whole : (run : Run) (name : List ℕ) (names : List (List ℕ)) (trouble : Trouble) (asked asked_then : List (List ℕ)) (written : List ℕ) → (asked_then ≡ asked) ⊎ (asked_then ≡ asked ++ name ∷ []) → 1 ≤ run.files
    → Answers run (whole_of (unread trouble) run) (name ∷ names) (unread trouble) asked asked_then written written
unread_whole run name names troubles.Failed asked asked_then written e files = unread_after run (whole_of statuses.ReadFault run) name names troubles.Failed asked asked_then written e files refl
unread_whole run name names troubles.NoMemory asked asked_then written e files =
    let a = unread_after run (whole_of statuses.ReadFault run) name names troubles.NoMemory asked asked_then written e files refl in
    record { ends = a.ends; lines = a.lines; pace = a.lines; asks = a.asks }

-- The run goes on behind its first file.
pub goes_on_whole : (run : Run) (name : List ℕ) (names : List (List ℕ)) (status : Status) (asked mid asked_then : List (List ℕ)) (written written_then : List ℕ) → mid ≡ asked ++ name ∷ []
    → Answers run (whole_of status run) names status mid asked_then written written_then → Answers (after_file run) (whole_of status (after_file run)) (name ∷ names) status asked asked_then written written_then
goes_on_whole run name names status asked mid asked_then written written_then e a =
    rw (whole_behind status run) (goes_on run (whole_of status run) name names status asked mid asked_then written written_then e a)

-- what keeps pace where no file failed
pace_of : (status : Status) (run : Run) (written written_then : List ℕ) → status ≢ statuses.ReadFault → WritesLines (breaks_off status) run.lines written written_then → WritesLines (may_lack_lines status) (whole_of status run).lines written written_then
pace_of statuses.Done run written written_then is_read h = h
pace_of statuses.Words run written written_then is_read h = h
pace_of (statuses.Config fault) run written written_then is_read h = h
pace_of (statuses.Genesis part) run written written_then is_read h = h
pace_of (statuses.Record which event fault) run written written_then is_read h = h
pace_of (statuses.Limit which event limit) run written written_then is_read h = h
pace_of (statuses.Clash which event kind kept_which) run written written_then is_read h = h
pace_of (statuses.Deposits fault) run written written_then is_read h = h
pace_of (statuses.Duties fault) run written written_then is_read h = h
pace_of (statuses.Anchor fault) run written written_then is_read h = h
pace_of statuses.ReadFault run written written_then is_read h = absurd (is_read refl)
pace_of statuses.WriteFault run written written_then is_read h = h
pace_of statuses.NoMemory run written written_then is_read h = h

-- The run is over, and all its files are read.
pub ends_whole : (run : Run) (status : Status) (asked : List (List ℕ)) (written written_then : List ℕ) → status ≢ statuses.ReadFault → run.files ≡ 0 → (breaks_off status ≡ false → run.end ≡ end_of status)
    → WritesLines (breaks_off status) run.lines written written_then → Answers run (whole_of status run) [] status asked asked written written_then
ends_whole run status asked written written_then is_read files ends lines = record {
  ends = ends;
  lines = lines;
  pace = pace_of status run written written_then is_read lines;
  asks = record { count = 0; reaches = rw files (reaches_all (breaks_off status) 0); names_are = sym (append-nil asked) };
}

-- ---- runs whose files are all read

-- a text was to be written, and then the run is done
pub text_concludes : (text : List ℕ) (result : Result (Unit {0}) Trouble) {s t : SinkTold} → WritesText text result s t → Concludes (written result) (after_lines text (over done)) s t
text_concludes text (Ok v) h = record {
  ends = λ _. refl;
  files = refl;
  lines = lines_behind false text [] h.writes (no_lines false [] _ (reaches_none false));
  has_words = λ is. cc;
  is_read = λ is. cc;
  write = λ is. cc;
  keeps = h.keeps;
}
text_concludes text (Err troubles.Failed) h = record {
  ends = λ never. cc;
  files = refl;
  lines = lines_prefix text [] h.writes.0 h.writes.1 h.writes.2;
  has_words = λ is. cc;
  is_read = λ is. cc;
  write = λ is. h.causes.1;
  keeps = h.keeps;
}
text_concludes text (Err troubles.NoMemory) h = record {
  ends = λ never. cc;
  files = refl;
  lines = lines_prefix text [] h.writes.0 h.writes.1 h.writes.2;
  has_words = λ is. cc;
  is_read = λ is. cc;
  write = λ is. cc;
  keeps = h.keeps;
}

-- nothing is to be written
pub over_concludes : (status : Status) (end : End) (s : SinkTold) → Some end ≡ end_of status → status ≢ statuses.Words → status ≢ statuses.ReadFault → status ≢ statuses.WriteFault → Concludes status (over end) s s
over_concludes status end s ends has_words is_read is_written = record {
  ends = λ _. ends;
  files = refl;
  lines = no_lines (breaks_off status) [] s.taken (reaches_none (breaks_off status));
  has_words = has_words;
  is_read = is_read;
  write = λ is. absurd (is_written is);
  keeps = sink_keeps_none s;
}

-- memory ran out before anything was written
pub out_of_memory : (run : Run) (s : SinkTold) → run.files ≡ 0 → Concludes statuses.NoMemory run s s
out_of_memory run s files = record {
  ends = λ never. cc;
  files = files;
  lines = no_lines true run.lines s.taken (is_prefix 0 _ (omega arith));
  has_words = λ is. cc;
  is_read = λ is. cc;
  write = λ is. cc;
  keeps = sink_keeps_none s;
}

-- the run is over behind its files
pub concludes_outside : (names : List (List ℕ)) (status : Status) {run : Run} {s t : ShelfTold} {p q : SinkTold} → ShelfKeeps names s t → Concludes status run p q → OutsideKeeps names (Some status) s t p q
concludes_outside names status h k = record {
  causes = record { read = λ is. absurd (k.is_read is); write = k.write };
  shelf = h;
  sink = k.keeps;
}
