use Rattle.std.proofs.Common.{◌<◌, ◌≤◌, ◌+◌, length, get_or, ℕ, arith, inl, inr, subst, sym}
use Rattle.std.proofs.lemmas.Bool.{cases_lt}
use Rattle.std.proofs.lemmas.List.{get_or_past, get_or_default}
use Rattle.ssz_codec.specs.Offsets.{AreOrdered, Sliced, sliced}
use Rattle.ssz_codec.proofs.pieces.Parts.part.Goals as goal

-- a part ends within the bytes
next_inside : (s : Sliced) (k : ℕ) → AreOrdered s → get_or s.offsets (k + 1) (length s.whole) ≤ length s.whole
next_inside s k h =
    elim (cases_lt (k + 1) (length s.offsets)) [
      | inl lt ↦ subst (λ n. n ≤ length s.whole) (get_or_default s.offsets (k + 1) 0 (length s.whole) lt) (h.inside (k + 1) lt)
      | inr le ↦ subst (λ n. n ≤ length s.whole) (sym (get_or_past s.offsets (k + 1) (length s.whole) le)) (omega arith)
    ]

pub slice_bounds-result-end : goal.slice_bounds-result-end
slice_bounds-result-end c =
    let s = sliced c.self.inside.whole.now c.self.inside.offsets.now in
    let one = next_inside s c.args.k c.self.invariant in
    let k-inside : c.args.k < length c.self.inside.offsets.now = subst (λ (t : Sliced). c.args.k < length t.offsets) (sym c.self.view_is) c.requires in
    let two = c.self.invariant.ordered c.args.k k-inside in
    let three = c.self.invariant.inside c.args.k k-inside in
    omega arith
