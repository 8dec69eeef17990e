-- A record that was written is read again.
use Rattle.std.proofs.Common.{◌≡◌, ◌≤◌, ◌<◌, ◌^◌, ◌+◌, ℕ, zero, suc, true, false, List, [], ◌∷◌, ◌++◌, length, ap, ◌∙◌, arith, length-append, append_assoc, nat_lt, nat_le}
use Rattle.std.proofs.Math.Seq.{take-append_seam, drop-append_seam}
use Rattle.std.proofs.lemmas.Nat.{from_le_bytes-to_le_bytes_4}
use Rattle.std.proofs.lemmas.Bool.Decides.{nat_tests}
use Rattle.std.specs.Int.{w32, to_le_bytes}
use Rattle.record_file.specs.declared.event.Event.{Event}
use Rattle.record_file.specs.declared.version.Version.{Version}
use Rattle.record_file.specs.declared.version.Version.TheVariants.{One, Two}
use Rattle.record_file.specs.Record.{framed, payload_of, sized_of, frame_of, events_from, events_of, is_kind_of, longest_payload, most_events, with_event, done}
use Rattle.record_file.specs.laws.Written.{frame_of_event, frames_of_events, AreEvents, ReadsAgain}
use Rattle.record_file.proofs.Coming.{from_ended, from_framed, nothing}

not_below : (m n : ℕ) → n ≤ m → nat_lt m n ≡ false
not_below m n le = grind (arith, nat_tests)

payload_step : (kind : ℕ) (payload rest : List ℕ) → length payload ≤ longest_payload → payload_of kind (length payload) (payload ++ rest) ≡ framed (record { kind = kind; payload = payload }) rest
unfolding payload_of
payload_step kind payload rest le =
    let short : nat_lt longest_payload (length payload) ≡ false = not_below longest_payload (length payload) le in
    let whole : nat_lt (length (payload ++ rest)) (length payload) ≡ false = not_below (length (payload ++ rest)) (length payload) (omega (arith, length-append payload rest)) in
    rw (short, whole, take-append_seam payload rest, drop-append_seam payload rest)

sized_step : (kind n : ℕ) (bytes : List ℕ) → n < 2 ^ 32 → sized_of kind (to_le_bytes w32 n ++ bytes) ≡ payload_of kind n bytes
unfolding sized_of
sized_step kind n bytes lt =
    let whole : nat_lt (length (to_le_bytes w32 n ++ bytes)) 4 ≡ false = not_below (length (to_le_bytes w32 n ++ bytes)) 4 (omega arith) in
    rw whole (ap (λ m. payload_of kind m bytes) (from_le_bytes-to_le_bytes_4 n lt))

frame_step : (version : Version) (events : ℕ) (event : Event) (rest : List ℕ) → events < most_events → is_kind_of version event.kind ≡ true → length event.payload ≤ longest_payload → frame_of version events (frame_of_event event ++ rest) ≡ framed event rest
unfolding frame_of
frame_step version events event rest lt known le =
    let few : nat_le most_events events ≡ false = grind (arith, nat_tests) in
    rw (few, known, append_assoc (to_le_bytes w32 (length event.payload)) event.payload rest)
    (sized_step event.kind (length event.payload) (event.payload ++ rest) (omega arith) ∙ payload_step event.kind event.payload rest le)

all_again : (version : Version) (es : List Event) (room events : ℕ) → AreEvents version es → room + events ≡ most_events → length es ≤ room → events_from version room events (frames_of_events es) ≡ record { events = es; end = done }
unfolding frames_of_events AreEvents
all_again version [] room events fits r le = from_ended version room events [] r (nothing version events)
all_again version (event ∷ es) zero events fits r le = absurd (omega arith)
all_again version (event ∷ es) (suc room) events fits r le =
    from_framed version room events _ event (frames_of_events es) (frame_step version events event (frames_of_events es) (omega arith) fits.0 fits.1)
    ∙ ap (with_event event) (all_again version es room (events + 1) fits.2 (omega arith) (omega arith))

pub reads_again : ReadsAgain
unfolding events_of
reads_again One events fits le = all_again One events most_events 0 fits (omega arith) le
reads_again Two events fits le = all_again Two events most_events 0 fits (omega arith) le
