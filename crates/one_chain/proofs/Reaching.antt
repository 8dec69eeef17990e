-- How much of a run was written and asked for.
use Rattle.std.proofs.Common.{◌≡◌, ℕ, ◌+◌, ◌≤◌, Bool, true, List, ◌++◌, length, take, refl, sym, ap, ◌∙◌, append_assoc, append-nil, arith}
use Rattle.std.proofs.lemmas.List.{length-append, take-append-le}
use Rattle.std.proofs.Math.Seq.{take-append-add}
use Rattle.one_chain.specs.Answers.{AllUnless, WritesLines}

-- none of nothing
pub reaches_none : (cut_short : Bool) → AllUnless cut_short 0 0
reaches_none cut_short = (omega arith, λ _. refl)

-- a prefix, where there may be fewer
pub is_prefix : (n whole : ℕ) → n ≤ whole → AllUnless true n whole
is_prefix n whole le = (le, λ never. cc)

pub reaches_all : (cut_short : Bool) (n : ℕ) → AllUnless cut_short n n
reaches_all cut_short n = (omega arith, λ _. refl)

-- behind others
pub reaches_behind : (cut_short : Bool) (k n whole : ℕ) → AllUnless cut_short n whole → AllUnless cut_short (k + n) (k + whole)
reaches_behind cut_short k n whole h = (omega (arith, h.0), λ e. ap (λ m. k + m) (h.1 e))

pub reaches_one : (cut_short : Bool) (n whole : ℕ) → AllUnless cut_short n whole → AllUnless cut_short (n + 1) (whole + 1)
reaches_one cut_short n whole h = (omega (arith, h.0), λ e. ap (λ m. m + 1) (h.1 e))

-- no line was written
pub no_lines : (cut_short : Bool) (lines written : List ℕ) → AllUnless cut_short 0 (length lines) → WritesLines cut_short lines written written
no_lines cut_short lines written reaches = record { count = 0; reaches = reaches; bytes = sym (append-nil written) }

-- lines were written, and then those of the rest
pub lines_behind : (cut_short : Bool) (front lines : List ℕ) {written mid then : List ℕ} → mid ≡ written ++ front → WritesLines cut_short lines mid then → WritesLines cut_short (front ++ lines) written then
lines_behind cut_short front lines {written} {mid} {then} e h = record {
  count = length front + h.count;
  reaches = rw (length-append front lines) (reaches_behind cut_short (length front) h.count (length lines) h.reaches);
  bytes = h.bytes ∙ ap (λ bs. bs ++ take h.count lines) e ∙ append_assoc written front (take h.count lines) ∙ ap (λ bs. written ++ bs) (sym (take-append-add front lines h.count));
}

-- a prefix of the first lines was written
pub lines_prefix : (line lines : List ℕ) (n : ℕ) {written then : List ℕ} → n ≤ length line → then ≡ written ++ take n line → WritesLines true (line ++ lines) written then
lines_prefix line lines n {written} {then} le e = record {
  count = n;
  reaches = is_prefix n (length (line ++ lines)) (rw (length-append line lines) (omega arith));
  bytes = e ∙ ap (λ bs. written ++ bs) (sym (take-append-le n line lines le));
}
