-- The two versions are read alike.
use Rattle.std.proofs.Common.{◌≡◌, ℕ, zero, suc, ◌+◌, ◌⊎◌, inl, inr, Bool, true, false, cond, ◌&&◌, nat_le, List, [], ◌∷◌, refl, sym, ap, ◌∙◌, arith}
use Rattle.std.proofs.lemmas.Bool.{cases_eq}
use Rattle.std.proofs.lemmas.Bool.Decides.{nat_tests}
use Rattle.record_file.specs.declared.fault.RecordFault.TheVariants.{TooMany, BadKind}
use Rattle.record_file.specs.declared.version.Version.{Version}
use Rattle.record_file.specs.declared.version.Version.TheVariants.{One, Two}
use Rattle.record_file.specs.Record.{FrameRead, ended, faulted, framed, frame_of, sized_of, events_from, events_of, is_kind_of, most_events, Events, done, fault, fault_event, with_event}
use Rattle.record_file.specs.laws.Written.{ReadsAlike}

-- another kind than 5 is one of both versions or of none
kind_alike : (kind : ℕ) → (kind ≡ 5 → ⊥) → is_kind_of Two kind ≡ is_kind_of One kind
kind_alike kind other = ap (λ b. nat_le 1 kind && b) (by (nat_le kind 4) (nat_le kind 5) refl refl)
  where
    by : (four five : Bool) → nat_le kind 4 ≡ four → nat_le kind 5 ≡ five → five ≡ four
    by true true e f = refl
    by false false e f = refl
    by true false e f = absurd (grind (arith, nat_tests))
    by false true e f = absurd (other (grind (arith, nat_tests)))

-- so is a frame
frame_alike : (events : ℕ) (bytes : List ℕ) → (frame_of One events bytes ≡ faulted (BadKind 5) → ⊥) → frame_of Two events bytes ≡ frame_of One events bytes
unfolding frame_of
frame_alike events [] other = refl
frame_alike events (kind ∷ bytes) other = by (nat_le most_events events) refl (cases_eq kind 5)
  where
    by : (many : Bool) → nat_le most_events events ≡ many → (kind ≡ 5) ⊎ (kind ≡ 5 → ⊥)
        → cond many (faulted TooMany) (cond (is_kind_of Two kind) (sized_of kind bytes) (faulted (BadKind kind))) ≡ cond many (faulted TooMany) (cond (is_kind_of One kind) (sized_of kind bytes) (faulted (BadKind kind)))
    by true e five = refl
    by false e (inl five) = absurd (other (rw (e, five)))
    by false e (inr isnt) = ap (λ b. cond b (sized_of kind bytes) (faulted (BadKind kind))) (kind_alike kind isnt)

-- the events behind a frame, or how they end there
behind : (FrameRead) → ℕ → (List ℕ → Events) → Events
behind ended events later = record { events = []; end = done }
behind (faulted reason) events later = record { events = []; end = fault (fault_event events reason) reason }
behind (framed event rest) events later = with_event event (later rest)

later : Version → ℕ → ℕ → List ℕ → Events
later version room events rest = events_from version room (events + 1) rest

from_is : (version : Version) (room events : ℕ) (bytes : List ℕ) → events_from version (suc room) events bytes ≡ behind (frame_of version events bytes) events (later version room events)
unfolding events_from behind later
from_is version room events bytes = by (frame_of version events bytes) refl
  where
    by : (f : FrameRead) → frame_of version events bytes ≡ f → events_from version (suc room) events bytes ≡ behind (frame_of version events bytes) events (later version room events)
    by ended e =
        let left : events_from version (suc room) events bytes ≡ record { events = []; end = done } = rw (e, events_from) in
        left ∙ sym (ap (λ f. behind f events (later version room events)) e)
    by (faulted reason) e =
        let left : events_from version (suc room) events bytes ≡ record { events = []; end = fault (fault_event events reason) reason } = rw (e, events_from) in
        left ∙ sym (ap (λ f. behind f events (later version room events)) e)
    by (framed event rest) e =
        let left : events_from version (suc room) events bytes ≡ with_event event (events_from version room (events + 1) rest) = rw (e, events_from) in
        left ∙ sym (ap (λ f. behind f events (later version room events)) e)

-- where there is no room for a frame
empty : (events : ℕ) → events_from Two zero events [] ≡ events_from One zero events []
unfolding events_from
empty events = refl

full : (events b : ℕ) (bytes : List ℕ) → events_from Two zero events (b ∷ bytes) ≡ events_from One zero events (b ∷ bytes)
unfolding events_from
full events b bytes = refl

five_end : (room events : ℕ) (f : FrameRead) → f ≡ faulted (BadKind 5) → (behind f events (later One room events)).end ≡ fault (events + 1) (BadKind 5)
unfolding behind
five_end room events f e = ap (λ f. (behind f events (later One room events)).end) e

-- one frame that both have
same : (room events : ℕ) (f : FrameRead) → ((event : ℕ) → (behind f events (later One room events)).end ≡ fault event (BadKind 5) → ⊥)
    → ((rest : List ℕ) → ((event : ℕ) → (events_from One room (events + 1) rest).end ≡ fault event (BadKind 5) → ⊥) → events_from Two room (events + 1) rest ≡ events_from One room (events + 1) rest)
    → behind f events (later Two room events) ≡ behind f events (later One room events)
unfolding behind later
same room events ended other again = refl
same room events (faulted reason) other again = refl
same room events (framed event rest) other again = ap (with_event event) (again rest (λ n e. other n e))

alike : (room events : ℕ) (bytes : List ℕ) → ((event : ℕ) → (events_from One room events bytes).end ≡ fault event (BadKind 5) → ⊥) → events_from Two room events bytes ≡ events_from One room events bytes
alike zero events [] other = empty events
alike zero events (b ∷ bytes) other = full events b bytes
alike (suc room) events bytes other =
    from_is Two room events bytes
    ∙ ap (λ f. behind f events (later Two room events)) (frame_alike events bytes (λ e. not_five (events + 1) (faulted_end e)))
    ∙ same room events (frame_of One events bytes) not_five (λ rest h. alike room (events + 1) rest h)
    ∙ sym (from_is One room events bytes)
  where
    not_five : (event : ℕ) → (behind (frame_of One events bytes) events (later One room events)).end ≡ fault event (BadKind 5) → ⊥
    not_five event e = other event (ap (λ (all : Events). all.end) (from_is One room events bytes) ∙ e)

    faulted_end : frame_of One events bytes ≡ faulted (BadKind 5) → (behind (frame_of One events bytes) events (later One room events)).end ≡ fault (events + 1) (BadKind 5)
    faulted_end e = five_end room events (frame_of One events bytes) e

pub reads_alike : ReadsAlike
unfolding events_of
reads_alike bytes other = alike most_events 0 bytes other
