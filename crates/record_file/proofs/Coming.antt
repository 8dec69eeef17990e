-- What is still to come of a record, by what was found in the buffer.
use Rattle.std.proofs.Common.{◌⊎◌, inl, inr, ◌≡◌, ◌≤◌, ◌<◌, ℕ, zero, suc, ◌+◌, ◌-◌, Bool, true, false, List, [], ◌∷◌, ◌++◌, length, take, drop, refl, sym, ap, ◌∙◌, arith, cond, length-take, append-nil, append_assoc, Option, Some, None}
use Rattle.std.proofs.lemmas.List.{take-append-le, drop-append-le}
use Rattle.std.proofs.lemmas.Grind.{common_steps}
use Rattle.std.specs.Str.{bytes_eq}
use Rattle.record_file.specs.declared.event.Event.{Event}
use Rattle.record_file.specs.declared.version.Version.{Version}
use Rattle.record_file.specs.declared.version.Version.TheVariants.{One, Two}
use Rattle.record_file.specs.declared.fault.RecordFault.{RecordFault}
use Rattle.record_file.specs.declared.fault.RecordFault.TheVariants.{BadMagic, TooMany}
use Rattle.record_file.specs.declared.place.Place.{Place}
use Rattle.record_file.specs.declared.place.Place.TheVariants.{AtMagic, AtFrame}
use Rattle.record_file.specs.declared.found.Found.{Found}
use Rattle.record_file.specs.declared.found.Found.TheVariants as found
use Rattle.record_file.specs.Record.{ended, faulted, framed, frame_of, events_from, events_under, events_of, version_of, most_events, magic, Events, done, fault, fault_event, with_event}
use Rattle.record_file.specs.inside.Found.{read_of, with_behind, is_short}
use Rattle.record_file.specs.inside.Fetched.{Shows}
use Rattle.record_file.specs.Frames.{events_at, CanFollow}
use Rattle.record_file.proofs.Grows.{found_whole}

-- With as many events as there may be, a frame is TooMany.
at_most : (version : Version) (events b : ℕ) (bytes : List ℕ) → events ≡ most_events → frame_of version events (b ∷ bytes) ≡ faulted TooMany
unfolding frame_of
at_most version events b bytes e = rw e

pub nothing : (version : Version) (events : ℕ) → frame_of version events [] ≡ ended
unfolding frame_of
nothing version events = refl

-- one step of a record, by what stands at its front
pub from_ended : (version : Version) (room events : ℕ) (bytes : List ℕ) → room + events ≡ most_events → frame_of version events bytes ≡ ended → events_from version room events bytes ≡ record { events = []; end = done }
unfolding events_from
from_ended version zero events [] r e = refl
from_ended version zero events (b ∷ bytes) r e = let k : frame_of version events (b ∷ bytes) ≡ faulted TooMany = at_most version events b bytes (omega arith) in cc
from_ended version (suc room) events bytes r e = rw (e, events_from)

from_faulted : (version : Version) (room events : ℕ) (bytes : List ℕ) (reason : RecordFault) → room + events ≡ most_events → frame_of version events bytes ≡ faulted reason → events_from version room events bytes ≡ record { events = []; end = fault (fault_event events reason) reason }
unfolding events_from
from_faulted version zero events [] reason r e = let k : frame_of version events [] ≡ ended = nothing version events in cc
from_faulted version zero events (b ∷ bytes) reason r e =
    let k : frame_of version events (b ∷ bytes) ≡ faulted TooMany = at_most version events b bytes (omega arith) in
    let same : TooMany ≡ reason = cc in
    rw (← same) refl
from_faulted version (suc room) events bytes reason r e = rw (e, events_from)

pub from_framed : (version : Version) (room events : ℕ) (bytes : List ℕ) (event : Event) (rest : List ℕ) → frame_of version events bytes ≡ framed event rest → events_from version (suc room) events bytes ≡ with_event event (events_from version room (events + 1) rest)
unfolding events_from
from_framed version room events bytes event rest e = rw (e, events_from)

-- The bytes that were taken stand behind those that were there.
pub comes_as : (place : Place) (events : ℕ) (old bytes new behind : List ℕ) → new ≡ old ++ bytes → events_at place events (old ++ (bytes ++ behind)) ≡ events_at place events (new ++ behind)
comes_as place events old bytes new behind e = ap (events_at place events) (sym (append_assoc old bytes behind) ∙ ap (λ bs. bs ++ behind) (sym e))

module _ (version : Version) (events : ℕ) (le : events ≤ most_events) where
  -- The buffer shows the record's end.
  pub ended_comes : (buffered : List ℕ) → Shows version events found.Ended buffered → events_at (AtFrame version) events (buffered ++ []) ≡ record { events = []; end = done }
  unfolding events_at
  ended_comes buffered shows = ap (events_from version (most_events - events) events) (append-nil buffered) ∙ from_ended version (most_events - events) events buffered (omega arith) shows

  -- The buffer shows a fault.
  faulted_behind : (f : Found) (reason : RecordFault) (buffered behind : List ℕ) (short : Bool) → is_short f ≡ short → read_of f buffered ≡ faulted reason → CanFollow short behind → Shows version events f buffered → frame_of version events (buffered ++ behind) ≡ faulted reason
  faulted_behind f reason buffered behind true is e can shows = ap (frame_of version events) (ap (λ bs. buffered ++ bs) (can refl) ∙ append-nil buffered) ∙ shows ∙ e
  faulted_behind f reason buffered behind false is e can shows = found_whole version events f buffered behind is shows ∙ ap (with_behind behind) e

  pub fault_comes : (reason : RecordFault) (buffered behind : List ℕ) → Shows version events (found.Fault reason) buffered → CanFollow (is_short (found.Fault reason)) behind → events_at (AtFrame version) events (buffered ++ behind) ≡ record { events = []; end = fault (fault_event events reason) reason }
  unfolding events_at
  fault_comes reason buffered behind shows can =
      from_faulted version (most_events - events) events (buffered ++ behind) reason (omega arith) (faulted_behind (found.Fault reason) reason buffered behind (is_short (found.Fault reason)) refl refl can shows)

  -- The buffer shows no event that is whole.
  pub short_comes : (f : Found) (buffered : List ℕ) → is_short f ≡ true → Shows version events f buffered → (events_at (AtFrame version) events (buffered ++ [])).events ≡ []
  short_comes found.Ended buffered is shows = ap (λ (e : Events). e.events) (ended_comes buffered shows)
  short_comes (found.Fault reason) buffered is shows = ap (λ (e : Events). e.events) (fault_comes reason buffered [] shows (λ _. refl))
  short_comes (found.Frame kind size) buffered is shows = cc

-- The buffer shows a frame.
pub frame_comes : (version : Version) (events kind size : ℕ) (buffered behind : List ℕ) → events < most_events → Shows version events (found.Frame kind size) buffered → events_at (AtFrame version) events (buffered ++ behind) ≡ with_event (record { kind = kind; payload = take size (drop 5 buffered) }) (events_at (AtFrame version) (events + 1) (drop (5 + size) buffered ++ behind))
unfolding events_at
frame_comes version events kind size buffered behind lt shows =
    let room : ℕ = most_events - (events + 1) in
    let r : most_events - events ≡ suc room = omega arith in
    rw r (from_framed version room events (buffered ++ behind) _ _ (found_whole version events (found.Frame kind size) buffered behind refl shows))

-- the record's first bytes stand in the buffer
start_of : (n : ℕ) (buffered l : List ℕ) → n ≤ length buffered → events_under (version_of (take n (buffered ++ l))) (drop n (buffered ++ l)) ≡ events_under (version_of (take n buffered)) (drop n buffered ++ l)
start_of n buffered l le = rw (take-append-le n buffered l le, drop-append-le n buffered l le)

starts : (buffered l : List ℕ) → 4 ≤ length buffered → events_of (buffered ++ l) ≡ events_under (version_of (take 4 buffered)) (drop 4 buffered ++ l)
unfolding events_of
starts buffered l le = start_of 4 buffered l le

compared : (m n : ℕ) → (n ≤ m) ⊎ (m < n)
compared m zero = inl (omega arith)
compared zero (suc n) = inr (omega arith)
compared (suc m) (suc n) = elim (compared m n) [ inl le ↦ inl (omega arith) | inr lt ↦ inr (omega arith) ]

magic_long : (version : Version) (bytes : List ℕ) → bytes_eq bytes (magic version) ≡ true → 4 ≤ length bytes
magic_long One bytes e = grind (arith, common_steps)
magic_long Two bytes e = grind (arith, common_steps)

version_long : (bytes : List ℕ) (version : Version) → version_of bytes ≡ Some version → 4 ≤ length bytes
version_long bytes version is = by (bytes_eq bytes (magic One)) (bytes_eq bytes (magic Two)) refl refl is
  where
    by : (one two : Bool) → bytes_eq bytes (magic One) ≡ one → bytes_eq bytes (magic Two) ≡ two → cond one (Some One) (cond two (Some Two) None) ≡ Some version → 4 ≤ length bytes
    by true two e f is = magic_long One bytes e
    by false true e f is = magic_long Two bytes f
    by false false e f is = absurd cc

pub long_enough : (n : ℕ) (buffered : List ℕ) (version : Version) → version_of (take n buffered) ≡ Some version → 4 ≤ length buffered
long_enough n buffered version e = let k = length-take n buffered in let l = version_long (take n buffered) version e in omega arith

none_of : (o : Option Version) → ((version : Version) → o ≡ Some version → ⊥) → o ≡ None
none_of None h = refl
none_of (Some version) h = absurd (h version refl)

too_short : (buffered : List ℕ) → length buffered < 4 → version_of (take 4 buffered) ≡ None
too_short buffered lt = none_of (version_of (take 4 buffered)) (λ version e. let k = long_enough 4 buffered version e in omega arith)

-- The buffer shows which version the record has.
pub magic_comes : (version : Version) (buffered behind : List ℕ) → version_of (take 4 buffered) ≡ Some version → events_at AtMagic 0 (buffered ++ behind) ≡ events_at (AtFrame version) 0 (drop 4 buffered ++ behind)
unfolding events_at
magic_comes version buffered behind e = starts buffered behind (long_enough 4 buffered version e) ∙ ap (λ v. events_under v (drop 4 buffered ++ behind)) e

-- The buffer shows that it has none.
no_magic : (bytes : List ℕ) → version_of (take 4 bytes) ≡ None → events_of bytes ≡ record { events = []; end = fault 0 BadMagic }
unfolding events_of
no_magic bytes e = ap (λ v. events_under v (drop 4 bytes)) e

pub no_magic_comes : (events : ℕ) (met : Bool) (buffered behind : List ℕ) → (length buffered < 4 → met ≡ true) → version_of (take 4 buffered) ≡ None → CanFollow met behind → events_at AtMagic events (buffered ++ behind) ≡ record { events = []; end = fault 0 BadMagic }
unfolding events_at
no_magic_comes events met buffered behind short e can =
    elim (compared (length buffered) 4) [
      | inl le ↦ starts buffered behind le ∙ ap (λ v. events_under v (drop 4 buffered ++ behind)) e
      | inr lt ↦ ap (λ bs. events_of (buffered ++ bs)) (can (short lt)) ∙ ap events_of (append-nil buffered) ∙ no_magic buffered e
    ]

-- The buffer is too short to show it.
pub short_magic_comes : (events : ℕ) (buffered : List ℕ) → length buffered < 4 → (events_at AtMagic events (buffered ++ [])).events ≡ []
unfolding events_at
short_magic_comes events buffered lt = ap (λ (e : Events). e.events) (ap events_of (append-nil buffered) ∙ no_magic buffered (too_short buffered lt))
