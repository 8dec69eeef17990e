-- Taking bytes into the buffer, one call after the other.
use Rattle.std.proofs.Common.{◌≡◌, ℕ, Bool, true, false, not, List, [], ◌++◌, sym, ap, ◌∙◌, append-nil, append_assoc}
use Rattle.bc_outside.specs.Told.{ShelfTold}
use Rattle.bc_outside.specs.Calls.{Stays}
use Rattle.bc_outside.proofs.Taking.{takes_none, takes_stays, takes_then}
use Rattle.record_file.specs.inside.Fetched.{Fetched}

pub fetched_none : (file : ℕ) (buffered : List ℕ) (told : ShelfTold) → Fetched file false buffered buffered told told
fetched_none file buffered told = record { bytes = []; behind = sym (append-nil buffered); taken = takes_none file told }

pub fetched_stays : (file : ℕ) {old new : List ℕ} {s t : ShelfTold} → new ≡ old → Stays s t → Fetched file false old new s t
fetched_stays file {old} {new} {s} {t} e h = record { bytes = []; behind = e ∙ sym (append-nil old); taken = takes_stays file h }

pub fetched_then : {file : ℕ} {met : Bool} {old mid new : List ℕ} {s t u : ShelfTold} → Fetched file false old mid s t → Fetched file met mid new t u → Fetched file met old new s u
fetched_then {file} {met} {old} {mid} {new} {s} {t} {u} h k = record {
  bytes = h.bytes ++ k.bytes;
  behind = k.behind ∙ ap (λ bs. bs ++ k.bytes) h.behind ∙ append_assoc old h.bytes k.bytes;
  taken = takes_then h.taken k.taken;
}

-- One call more: bytes came, or none did.
pub fetched_once_more : (file : ℕ) (came : Bool) {old mid new : List ℕ} {s t u : ShelfTold} → came ≡ true → Fetched file false old mid s t → Fetched file (not came) mid new t u → Fetched file false old new s u
fetched_once_more file came {old} {mid} {new} {s} {t} {u} e h k = fetched_then h (rw e at k)

pub fetched_once_end : (file : ℕ) (came : Bool) {old mid new : List ℕ} {s t u : ShelfTold} → came ≡ false → Fetched file false old mid s t → Fetched file (not came) mid new t u → Fetched file true old new s u
fetched_once_end file came {old} {mid} {new} {s} {t} {u} e h k = fetched_then h (rw e at k)
