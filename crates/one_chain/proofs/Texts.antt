-- A text is written piece by piece.
use Rattle.std.proofs.Common.{◌≡◌, ◌≤◌, ℕ, ◌+◌, List, [], ◌++◌, length, take, Result, Ok, Err, refl, sym, ap, ◌∙◌, append_assoc, append-nil, inl, inr, arith}
use Rattle.std.proofs.lemmas.List.{length-append, take-append-le}
use Rattle.std.proofs.Math.Seq.{take-append-add}
use Rattle.bc_outside.specs.Told.{SinkTold}
use Rattle.bc_outside.specs.Calls.{HasCause, Rose}
use Rattle.bc_outside.specs.declared.trouble.Trouble.{Trouble}
use Rattle.bc_outside.specs.declared.trouble.Trouble.TheVariants.{Failed, NoMemory}
use Rattle.bc_outside.proofs.Keeping.{sink_keeps_none, sink_keeps_then}
use Rattle.one_chain.specs.inside.Texts.{WritesFront, WritesText}

-- nothing was written
pub none_yet : (text : List ℕ) (s : SinkTold) → WritesFront text text s s
none_yet text s = record { front = []; whole = refl; taken = sym (append-nil s.taken); keeps = sink_keeps_none s }

-- an empty text is written
pub none_written : (s : SinkTold) → WritesText [] (Ok tt) s s
none_written s = record { writes = sym (append-nil s.taken); causes = omega arith; keeps = sink_keeps_none s }

-- memory ran out before a text was written
pub none_made : (text : List ℕ) (s : SinkTold) → WritesText text (Err NoMemory) s s
none_made text s = record { writes = (0, omega arith, sym (append-nil s.taken)); causes = omega arith; keeps = sink_keeps_none s }

-- a piece more was written
pub written_more : (text piece rest : List ℕ) (done : Unit {0}) {s t u : SinkTold} → WritesFront text (piece ++ rest) s t → WritesText piece (Ok done) t u → WritesFront text rest s u
written_more text piece rest done {s} {t} {u} h k = record {
  front = h.front ++ piece;
  whole = h.whole ∙ sym (append_assoc h.front piece rest);
  taken = k.writes ∙ ap (λ (bytes : List ℕ). bytes ++ piece) h.taken ∙ append_assoc s.taken h.front piece;
  keeps = sink_keeps_then h.keeps k.keeps;
}

-- nothing is left
pub written_all : (text : List ℕ) (done : Unit {0}) {s t : SinkTold} → WritesFront text [] s t → WritesText text (Ok done) s t
written_all text done {s} {t} h = record {
  writes = h.taken ∙ ap (λ (bytes : List ℕ). s.taken ++ bytes) (sym (append-nil h.front) ∙ sym h.whole);
  causes = h.keeps.faults;
  keeps = h.keeps;
}

rose_behind : (a b c : ℕ) → a ≤ b → Rose b c → Rose a c
rose_behind a b c le (inl less) = inl (omega (arith, le, less))
rose_behind a b c le (inr last) = inr last

cause_behind : (trouble : Trouble) (a b c : ℕ) → a ≤ b → HasCause {T = Unit {0}} (Err trouble) b c → HasCause {T = Unit {0}} (Err trouble) a c
cause_behind Failed a b c le h = (omega (arith, le, h.0), rose_behind a b c le h.1)
cause_behind NoMemory a b c le h = omega (arith, le, h)

-- a trouble came in the next piece
pub written_partly : (text piece rest : List ℕ) (trouble : Trouble) {s t u : SinkTold} → WritesFront text (piece ++ rest) s t → WritesText piece (Err trouble) t u → WritesText text (Err trouble) s u
written_partly text piece rest trouble {s} {t} {u} h k =
    let n : ℕ = k.writes.0 in
    let within : n ≤ length piece = k.writes.1 in
    let front_then : take (length h.front + n) (h.front ++ (piece ++ rest)) ≡ h.front ++ take n piece =
    take-append-add h.front (piece ++ rest) n ∙ ap (λ (bytes : List ℕ). h.front ++ bytes) (take-append-le n piece rest within) in
    record {
      writes = (
        length h.front + n,
        rw (h.whole, length-append h.front (piece ++ rest), length-append piece rest) (omega (arith, within)),
        k.writes.2 ∙ ap (λ (bytes : List ℕ). bytes ++ take n piece) h.taken ∙ append_assoc s.taken h.front (take n piece)
            ∙ ap (λ (bytes : List ℕ). s.taken ++ bytes) (sym front_then ∙ sym (ap (take (length h.front + n)) h.whole)),
      );
      causes = cause_behind trouble s.faults t.faults u.faults h.keeps.faults k.causes;
      keeps = sink_keeps_then h.keeps k.keeps;
    }

-- one text was written, and then another one
pub written_then : (first second : List ℕ) (done : Unit {0}) (result : Result (Unit {0}) Trouble) {s t u : SinkTold} → WritesText first (Ok done) s t → WritesText second result t u → WritesText (first ++ second) result s u
written_then first second done result {s} {t} {u} h k = behind result k
  where
    front : WritesFront (first ++ second) (second ++ []) s t
    front = record { front = first; whole = ap (λ (bytes : List ℕ). first ++ bytes) (sym (append-nil second)); taken = h.writes; keeps = h.keeps }

    behind : (r : Result (Unit {0}) Trouble) → WritesText second r t u → WritesText (first ++ second) r s u
    behind (Ok v) k = written_all (first ++ second) v (written_more (first ++ second) second [] v front k)
    behind (Err trouble) k = written_partly (first ++ second) second [] trouble front k

-- a trouble came in the first of two
pub first_partly : (first second : List ℕ) (trouble : Trouble) {s t : SinkTold} → WritesText first (Err trouble) s t → WritesText (first ++ second) (Err trouble) s t
first_partly first second trouble {s} {t} h = written_partly (first ++ second) first second trouble (none_yet (first ++ second) s) h
