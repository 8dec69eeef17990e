-- Runs that write once all their files are read, one file after the other.
use Rattle.std.proofs.Common.{◌≡◌, ◌≤◌, ◌∙◌, ℕ, Bool, true, false, List, [], ◌∷◌, length, Option, Some, refl, sym, ap, append-nil, inl, inr, arith}
use Rattle.bc_outside.specs.Told.{FileHanded, ShelfTold, SinkTold, Agrees, FileAgrees}
use Rattle.bc_outside.specs.declared.trouble.Trouble.{Trouble}
use Rattle.bc_outside.specs.declared.trouble.Trouble.TheVariants as troubles
use Rattle.bc_outside.proofs.Keeping.{agreed_back, agreed_front}
use Rattle.spec_replay.specs.Run.{Run, End, after_file, over}
use Rattle.one_chain.specs.declared.status.Status.{Status}
use Rattle.one_chain.specs.declared.status.Status.TheVariants as statuses
use Rattle.one_chain.specs.Answers.{WritesLines, breaks_off, end_of, may_lack_lines, whole_of}
use Rattle.one_chain.specs.inside.AtEnd.{Concludes}
use Rattle.one_chain.specs.inside.Reading.{ReadOf, Unread}
use Rattle.one_chain.specs.inside.Statuses.{unread}
use Rattle.one_chain.proofs.Reaching.{no_lines, reaches_none}
use Rattle.one_chain.proofs.Steps.{held_whole, opened_more}
use Rattle.one_chain.proofs.Whole.{ends_whole, goes_on_whole}
use Rattle.beacon_node.specs.inside.ByFiles.{EndsOver, Handed, StopsBehindFile}

-- what a run that is over makes of its shelf
pub concluded : (run : Run) (status : Status) (s : ShelfTold) (p q : SinkTold) → Concludes status run p q → EndsOver (λ contents. run) [] status s s p.taken q.taken
concluded run status s p q h = record { opened = []; files = sym (append-nil s.files); answers = λ c a. ends_whole run status s.asked p.taken q.taken h.is_read h.files h.ends h.lines }

-- what keeps pace where nothing was written
pub pace_none : (status : Status) (run : Run) (w : List ℕ) → WritesLines (breaks_off status) run.lines w w → WritesLines (may_lack_lines status) (whole_of status run).lines w w
pace_none statuses.Done run w h = h
pace_none statuses.Words run w h = h
pace_none (statuses.Config fault) run w h = h
pace_none (statuses.Genesis part) run w h = h
pace_none (statuses.Record which event fault) run w h = h
pace_none (statuses.Limit which event limit) run w h = h
pace_none (statuses.Clash which event kind kept_which) run w h = h
pace_none (statuses.Deposits fault) run w h = h
pace_none (statuses.Duties fault) run w h = h
pace_none (statuses.Anchor fault) run w h = h
pace_none statuses.ReadFault run w h = no_lines false [] w (reaches_none false)
pace_none statuses.WriteFault run w h = h
pace_none statuses.NoMemory run w h = h

-- a status is not of both kinds
never_both : {A : Type 0} (b : Bool) → b ≡ true → b ≡ false → A
never_both b off on = absurd (let no : true ≡ false = sym off ∙ on in cc)

pub unread_breaks : (trouble : Trouble) → breaks_off (unread trouble) ≡ true
unread_breaks troubles.Failed = refl
unread_breaks troubles.NoMemory = refl

-- the run is over before a file is asked for
pub ends_at_once : (run : (List ℕ → Option (List ℕ)) → Run) (names : List (List ℕ)) (status : Status) (s : ShelfTold) (w : List ℕ)
    → ((c : List ℕ → Option (List ℕ)) → breaks_off status ≡ false → (end : End) × (Some end ≡ end_of status) × (run c ≡ over end)) → EndsOver run names status s s w w
ends_at_once run names status s w ends = record {
  opened = [];
  files = sym (append-nil s.files);
  answers = λ c a.
      let none : WritesLines (breaks_off status) (run c).lines w w = no_lines (breaks_off status) (run c).lines w (omega arith, λ on. sym (ap (λ (r : Run). length r.lines) (ends c on).2)) in
      record {
        ends = λ on. ap (λ (r : Run). r.end) (ends c on).2 ∙ (ends c on).1;
        lines = none;
        pace = pace_none status (run c) w none;
        asks = record { count = 0; reaches = (omega arith, λ on. sym (ap (λ (r : Run). r.files) (ends c on).2)); names_are = sym (append-nil s.asked) };
      };
}

-- the file that was opened last is of what the name holds
held_by : (name : List ℕ) (handed : FileHanded) (s t : ShelfTold) → Handed name handed s t → (c : List ℕ → Option (List ℕ)) → Agrees c t.files → (whole : List ℕ) × (c name ≡ Some whole) × FileAgrees (Some whole) handed
held_by name handed s t h c a =
    let w = held_whole (c handed.name) handed (agreed_back c s.files (handed ∷ []) (rw h.files at a)).0 in
    (w.0, ap c (sym h.named) ∙ w.1, w.2)

module _ (run : (List ℕ → Option (List ℕ)) → Run) (name : List ℕ) (names : List (List ℕ)) where
  -- the first file could not be opened or read
  pub breaks_at_file : (status : Status) (s t : ShelfTold) (w : List ℕ) → breaks_off status ≡ true → Unread name s t → ((c : List ℕ → Option (List ℕ)) → 1 ≤ (run c).files) → EndsOver run (name ∷ names) status s t w w
  breaks_at_file status s t w off h files = record {
    opened = h.opened;
    files = h.files;
    answers = λ c a.
        let none : WritesLines (breaks_off status) (run c).lines w w = no_lines (breaks_off status) (run c).lines w (omega arith, λ on. never_both (breaks_off status) off on) in
        record {
          ends = λ on. never_both (breaks_off status) off on;
          lines = none;
          pace = pace_none status (run c) w none;
          asks = elim h.asked [
            | inl same ↦ record { count = 0; reaches = (omega arith, λ on. never_both (breaks_off status) off on); names_are = same ∙ sym (append-nil s.asked) }
            | inr one ↦ record { count = 1; reaches = (files c, λ on. never_both (breaks_off status) off on); names_are = one }
          ];
        };
  }

  -- it was opened, and the run is over behind it
  pub stops_at_file : (handed : FileHanded) (status : Status) (s t : ShelfTold) (w : List ℕ) → Handed name handed s t → ((c : List ℕ → Option (List ℕ)) → 1 ≤ (run c).files)
      → ((c : List ℕ → Option (List ℕ)) (whole : List ℕ) → c name ≡ Some whole → FileAgrees (Some whole) handed → StopsBehindFile status (run c)) → EndsOver run (name ∷ names) status s t w w
  stops_at_file handed status s t w h files stops = record {
    opened = handed ∷ [];
    files = h.files;
    answers = λ c a.
        let held = held_by name handed s t h c a in
        let stop = stops c held.0 held.1 held.2 in
        let none : WritesLines (breaks_off status) (run c).lines w w = no_lines (breaks_off status) (run c).lines w (omega arith, λ on. sym (ap (λ (r : Run). length r.lines) (stop on).2)) in
        record {
          ends = λ on. ap (λ (r : Run). r.end) (stop on).2 ∙ (stop on).1;
          lines = none;
          pace = pace_none status (run c) w none;
          asks = record { count = 1; reaches = (files c, λ on. sym (ap (λ (r : Run). r.files) (stop on).2)); names_are = h.asked };
        };
  }

  -- it was read, and the run goes on behind it
  pub goes_on_behind : (rest : (List ℕ → Option (List ℕ)) → Run) (handed : FileHanded) (status : Status) (s t u : ShelfTold) (w x : List ℕ) → Handed name handed s t
      → ((c : List ℕ → Option (List ℕ)) (whole : List ℕ) → c name ≡ Some whole → FileAgrees (Some whole) handed → run c ≡ after_file (rest c)) → EndsOver rest names status t u w x → EndsOver run (name ∷ names) status s u w x
  goes_on_behind rest handed status s t u w x h is r = record {
    opened = handed ∷ r.opened;
    files = opened_more s.files handed r.opened h.files r.files;
    answers = λ c a.
        let held = held_by name handed s t h c (agreed_front c t.files r.opened (rw r.files at a)) in
        rw (is c held.0 held.1 held.2) (goes_on_whole (rest c) name names status s.asked t.asked u.asked w x h.asked (r.answers c a));
  }

-- a file that was read whole
pub handed_of : {name : List ℕ} {limit : ℕ} {bytes : List ℕ} {s t : ShelfTold} → (read : ReadOf name limit bytes s t) → Handed name read.handed s t
handed_of read = record { named = read.named; files = read.files; asked = read.asked }
