-- What calls keep, one after the other.
use Rattle.std.proofs.Common.{◌≡◌, ◌≤◌, ℕ, zero, suc, Bool, true, false, ◌||◌, ◌&&◌, List, [], ◌∷◌, ◌++◌, length, Option, Some, None, Result, Ok, Err, refl, ap, ◌∙◌, arith, append-nil, length-append}
use Rattle.std.proofs.lemmas.Grind.{common_steps}
use Rattle.bc_outside.specs.declared.trouble.Trouble.{Trouble}
use Rattle.bc_outside.specs.declared.trouble.Trouble.TheVariants.{Failed, NoMemory}
use Rattle.bc_outside.specs.Told.{FileHanded, ShelfTold, SinkTold, any_byte, opened_file, more_of, with_more, FileAgrees, Agrees, AllThere}
use Rattle.bc_outside.specs.Calls.{ShelfKeeps, SinkKeeps, Stays, Takes, Opens, Reads}

all_there_front : (c : List ℕ → Option (List ℕ)) (names more : List (List ℕ)) → AllThere c (names ++ more) → AllThere c names
all_there_front c [] more h = tt
all_there_front c (name ∷ names) more h = (h.0, all_there_front c names more h.1)

all_there_back : (c : List ℕ → Option (List ℕ)) (names more : List (List ℕ)) → AllThere c (names ++ more) → AllThere c more
all_there_back c [] more h = h
all_there_back c (name ∷ names) more h = all_there_back c names more h.1

pub keeps_none : (s : ShelfTold) → ShelfKeeps [] s s
keeps_none s = record {
  opened = omega arith;
  faults = omega arith;
  contents = refl;
  reliable = refl;
  agreed = λ c h. h;
  honest = λ c e h. h;
  steady = λ c e r h. refl;
}

pub keeps_then : (names more : List (List ℕ)) {s t u : ShelfTold} → ShelfKeeps names s t → ShelfKeeps more t u → ShelfKeeps (names ++ more) s u
keeps_then names more {s} {t} {u} h k = record {
  opened = omega (arith, h.opened, k.opened);
  faults = omega (arith, h.faults, k.faults);
  contents = k.contents ∙ h.contents;
  reliable = k.reliable ∙ h.reliable;
  agreed = λ c a. h.agreed c (k.agreed c a);
  honest = λ c e a. k.honest c (h.contents ∙ e) (h.honest c e a);
  steady = λ c e r there. k.steady c (h.contents ∙ e) (h.reliable ∙ r) (all_there_back c names more there) ∙ h.steady c e r (all_there_front c names more there);
}

pub keeps_more : (names more : List (List ℕ)) {s t : ShelfTold} → ShelfKeeps names s t → ShelfKeeps (names ++ more) s t
keeps_more names more {s} {t} h = record {
  opened = h.opened;
  faults = h.faults;
  contents = h.contents;
  reliable = h.reliable;
  agreed = h.agreed;
  honest = h.honest;
  steady = λ c e r there. h.steady c e r (all_there_front c names more there);
}

pub sink_keeps_none : (s : SinkTold) → SinkKeeps s s
sink_keeps_none s = record { faults = omega arith; reliable = refl; steady = λ r. refl }

pub sink_keeps_then : {s t u : SinkTold} → SinkKeeps s t → SinkKeeps t u → SinkKeeps s u
sink_keeps_then {s} {t} {u} h k = record {
  faults = omega (arith, h.faults, k.faults);
  reliable = k.reliable ∙ h.reliable;
  steady = λ r. k.steady (h.reliable ∙ r) ∙ h.steady r;
}

-- What agrees with more that was handed out agrees with what was handed out before.
left_false : (a b : Bool) → (a || b) ≡ false → a ≡ false
left_false true b h = cc
left_false false b h = refl

or_true : (a b : Bool) → a ≡ true → (a || b) ≡ true
or_true true b h = refl
or_true false b h = cc

none_came : (grew ended : Bool) (bytes : List ℕ) → (grew || (ended && any_byte bytes)) ≡ false → ended ≡ true → bytes ≡ []
none_came true ended bytes h e = cc
none_came false ended [] h e = refl
none_came false true (b ∷ bytes) h e = cc
none_came false false (b ∷ bytes) h e = cc

agreed_file : (whole : Option (List ℕ)) (f : FileHanded) (bytes : List ℕ) (met : Bool) → FileAgrees whole (more_of f bytes met) → FileAgrees whole f
agreed_file None f bytes met h = h
agreed_file (Some whole) f bytes met h = (
  let e = h.0 in grind (arith, common_steps),
  left_false f.grew (f.ended && any_byte bytes) h.1,
  λ ended. h.2 (or_true f.ended met ended) ∙ ap (λ bs. f.bytes ++ bs) (none_came f.grew f.ended bytes h.1 ended) ∙ append-nil f.bytes,
)

pub agreed_more : (c : List ℕ → Option (List ℕ)) (files : List FileHanded) (file : ℕ) (bytes : List ℕ) (met : Bool) → Agrees c (with_more files file bytes met) → Agrees c files
unfolding with_more
agreed_more c [] file bytes met h = h
agreed_more c (f ∷ files) zero bytes met h = (agreed_file (c f.name) f bytes met h.0, h.1)
agreed_more c (f ∷ files) (suc file) bytes met h = (h.0, agreed_more c files file bytes met h.1)

pub agreed_front : (c : List ℕ → Option (List ℕ)) (files more : List FileHanded) → Agrees c (files ++ more) → Agrees c files
agreed_front c [] more h = tt
agreed_front c (f ∷ files) more h = (h.0, agreed_front c files more h.1)

pub agreed_back : (c : List ℕ → Option (List ℕ)) (files more : List FileHanded) → Agrees c (files ++ more) → Agrees c more
agreed_back c [] more h = h
agreed_back c (f ∷ files) more h = agreed_back c files more h.1

pub agreed_takes : {file : ℕ} {bytes : List ℕ} {met : Bool} {s t : ShelfTold} → Takes file bytes met s t → (c : List ℕ → Option (List ℕ)) → Agrees c t.files → Agrees c s.files
agreed_takes {file} {bytes} {met} {s} {t} h c a = agreed_more c s.files file bytes met (rw h.files at a)

pub agreed_stays : {s t : ShelfTold} → Stays s t → (c : List ℕ → Option (List ℕ)) → Agrees c t.files → Agrees c s.files
agreed_stays {s} {t} h c a = rw h.files at a

pub agreed_opens : (name : List ℕ) (result : Result ℕ Trouble) (s t : ShelfTold) → Opens name result s t → (c : List ℕ → Option (List ℕ)) → Agrees c t.files → Agrees c s.files
agreed_opens name (Ok file) s t h c a = agreed_front c s.files (opened_file name ∷ []) (rw h.files at a)
agreed_opens name (Err Failed) s t h c a = rw h.files at a
agreed_opens name (Err NoMemory) s t h c a = rw h.files at a

pub agreed_reads : (file : ℕ) (piece piece_then : List ℕ) (result : Result ℕ Trouble) (s t : ShelfTold) → Reads file piece piece_then result s t → (c : List ℕ → Option (List ℕ)) → Agrees c t.files → Agrees c s.files
agreed_reads file piece piece_then (Ok n) s t h c a = agreed_takes h.taken c a
agreed_reads file piece piece_then (Err trouble) s t h c a = agreed_stays h c a

-- Opened files stay.
length-more : (files : List FileHanded) (file : ℕ) (bytes : List ℕ) (met : Bool) → length (with_more files file bytes met) ≡ length files
unfolding with_more
length-more [] file bytes met = refl
length-more (f ∷ files) zero bytes met = refl
length-more (f ∷ files) (suc file) bytes met = ap suc (length-more files file bytes met)

pub takes_length : {file : ℕ} {bytes : List ℕ} {met : Bool} {s t : ShelfTold} → Takes file bytes met s t → length t.files ≡ length s.files
takes_length {file} {bytes} {met} {s} {t} h = ap length h.files ∙ length-more s.files file bytes met

pub opens_length : (name : List ℕ) (result : Result ℕ Trouble) (s t : ShelfTold) → Opens name result s t → length s.files ≤ length t.files
opens_length name (Ok file) s t h = omega (arith, ap length h.files, length-append s.files (opened_file name ∷ []))
opens_length name (Err Failed) s t h = omega (arith, ap length h.files)
opens_length name (Err NoMemory) s t h = omega (arith, ap length h.files)

pub reads_length : (file : ℕ) (piece piece_then : List ℕ) (result : Result ℕ Trouble) (s t : ShelfTold) → Reads file piece piece_then result s t → length s.files ≤ length t.files
reads_length file piece piece_then (Ok n) s t h = omega (arith, takes_length h.taken)
reads_length file piece piece_then (Err trouble) s t h = omega (arith, ap length h.files)
