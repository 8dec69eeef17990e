-- A frame that is whole, and a fault that isn't Torn, stay what they are when more bytes come.
use Rattle.std.proofs.Common.{◌≡◌, ◌≤◌, ℕ, Bool, true, false, List, [], ◌∷◌, ◌++◌, length, take, drop, refl, ap, ◌∙◌, arith, nat_lt, nat_le, cond}
use Rattle.std.proofs.Common.{length-append}
use Rattle.std.proofs.lemmas.List.{take-append-le, drop-append-le}
use Rattle.std.specs.Int.{w32, from_le_bytes}
use Rattle.record_file.specs.Record.{is_kind_of, most_events}
use Rattle.record_file.specs.declared.version.Version.{Version}
use Rattle.std.proofs.lemmas.Bool.Decides.{nat_tests}
use Rattle.record_file.specs.declared.fault.RecordFault.TheVariants.{BadMagic, TooMany, BadKind, Torn, TooLong}
use Rattle.record_file.specs.declared.found.Found.{Found}
use Rattle.record_file.specs.declared.found.Found.TheVariants as found
use Rattle.record_file.specs.Record.{FrameRead, ended, faulted, framed, payload_of, sized_of, frame_of, longest_payload}
use Rattle.record_file.specs.inside.Found.{read_of, with_behind, is_short}

-- whether more bytes may change what was read
may_grow : FrameRead → Bool
may_grow ended = true
may_grow (faulted Torn) = true
may_grow (faulted _) = false
may_grow (framed event rest) = false

long_enough : (bytes more : List ℕ) (size : ℕ) → nat_lt (length bytes) size ≡ false → size ≤ length bytes
long_enough bytes more size e = grind (arith, nat_tests)

still_enough : (bytes more : List ℕ) (size : ℕ) → nat_lt (length bytes) size ≡ false → nat_lt (length (bytes ++ more)) size ≡ false
still_enough bytes more size e = let h = length-append bytes more in let k = long_enough bytes more size e in grind (arith, nat_tests)

payload_cases : (kind size : ℕ) (bytes more : List ℕ) (long short : Bool)
    → (short ≡ false → (nat_lt (length (bytes ++ more)) size ≡ false) × (size ≤ length bytes))
    → may_grow (cond long (faulted (TooLong size)) (cond short (faulted Torn) (framed (record { kind = kind; payload = take size bytes }) (drop size bytes)))) ≡ false
    → cond long (faulted (TooLong size)) (cond (nat_lt (length (bytes ++ more)) size) (faulted Torn) (framed (record { kind = kind; payload = take size (bytes ++ more) }) (drop size (bytes ++ more))))
    ≡ with_behind more (cond long (faulted (TooLong size)) (cond short (faulted Torn) (framed (record { kind = kind; payload = take size bytes }) (drop size bytes))))
unfolding may_grow
payload_cases kind size bytes more true short s h = refl
payload_cases kind size bytes more false true s h = cc
payload_cases kind size bytes more false false s h =
    rw ((s refl).0, take-append-le size bytes more (s refl).1, drop-append-le size bytes more (s refl).1)

payload_grows : (kind size : ℕ) (bytes more : List ℕ) → may_grow (payload_of kind size bytes) ≡ false → payload_of kind size (bytes ++ more) ≡ with_behind more (payload_of kind size bytes)
unfolding payload_of
payload_grows kind size bytes more h = payload_cases kind size bytes more (nat_lt longest_payload size) (nat_lt (length bytes) size) (λ e. (still_enough bytes more size e, long_enough bytes more size e)) h

sized_cases : (kind n : ℕ) (bytes more : List ℕ) (short : Bool)
    → (short ≡ false → (nat_lt (length (bytes ++ more)) n ≡ false) × (n ≤ length bytes))
    → may_grow (cond short (faulted Torn) (payload_of kind (from_le_bytes w32 (take n bytes)) (drop n bytes))) ≡ false
    → cond (nat_lt (length (bytes ++ more)) n) (faulted Torn) (payload_of kind (from_le_bytes w32 (take n (bytes ++ more))) (drop n (bytes ++ more)))
    ≡ with_behind more (cond short (faulted Torn) (payload_of kind (from_le_bytes w32 (take n bytes)) (drop n bytes)))
unfolding may_grow
sized_cases kind n bytes more true s h = cc
sized_cases kind n bytes more false s h =
    rw ((s refl).0, take-append-le n bytes more (s refl).1, drop-append-le n bytes more (s refl).1) (payload_grows kind (from_le_bytes w32 (take n bytes)) (drop n bytes) more h)

sized_grows : (kind : ℕ) (bytes more : List ℕ) → may_grow (sized_of kind bytes) ≡ false → sized_of kind (bytes ++ more) ≡ with_behind more (sized_of kind bytes)
unfolding sized_of
sized_grows kind bytes more h = sized_cases kind 4 bytes more (nat_lt (length bytes) 4) (λ e. (still_enough bytes more 4 e, long_enough bytes more 4 e)) h

frame_cases : (kind : ℕ) (bytes more : List ℕ) (many known : Bool)
    → may_grow (cond many (faulted TooMany) (cond known (sized_of kind bytes) (faulted (BadKind kind)))) ≡ false
    → cond many (faulted TooMany) (cond known (sized_of kind (bytes ++ more)) (faulted (BadKind kind))) ≡ with_behind more (cond many (faulted TooMany) (cond known (sized_of kind bytes) (faulted (BadKind kind))))
frame_cases kind bytes more true known h = refl
frame_cases kind bytes more false true h = sized_grows kind bytes more h
frame_cases kind bytes more false false h = refl

frame_grows : (version : Version) (events : ℕ) (bytes more : List ℕ) → may_grow (frame_of version events bytes) ≡ false → frame_of version events (bytes ++ more) ≡ with_behind more (frame_of version events bytes)
unfolding frame_of may_grow
frame_grows version events [] more h = cc
frame_grows version events (kind ∷ bytes) more h = frame_cases kind bytes more (nat_le most_events events) (is_kind_of version kind) h

read_grows : (f : Found) (bytes : List ℕ) → is_short f ≡ false → may_grow (read_of f bytes) ≡ false
unfolding may_grow
read_grows found.Ended bytes h = cc
read_grows (found.Fault Torn) bytes h = cc
read_grows (found.Fault BadMagic) bytes h = refl
read_grows (found.Fault TooMany) bytes h = refl
read_grows (found.Fault (BadKind k)) bytes h = refl
read_grows (found.Fault (TooLong n)) bytes h = refl
read_grows (found.Frame kind size) bytes h = refl

-- A frame or a fault that was found in the buffer stands there, whatever is behind it.
pub found_whole : (version : Version) (events : ℕ) (f : Found) (buffered behind : List ℕ) → is_short f ≡ false → frame_of version events buffered ≡ read_of f buffered → frame_of version events (buffered ++ behind) ≡ with_behind behind (read_of f buffered)
found_whole version events f buffered behind s e = frame_grows version events buffered behind (rw e (read_grows f buffered s)) ∙ ap (with_behind behind) e
