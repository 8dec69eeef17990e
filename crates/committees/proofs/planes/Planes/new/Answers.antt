use Rattle.std.proofs.Common.{◌≡◌, ◌+◌, length, slice_index, drop, ap, sym, get_or-drop, ◌∙◌, arith}
use Rattle.committees.specs.inside.Planes.{with_above}
use Rattle.committees.proofs.Joined.{behind_length, from_planes_is, from_planes_written}
use Rattle.committees.proofs.planes.Planes.new.Goals as goal

pub returns-then-split : goal.returns-then-split
returns-then-split c =
    let new = c.split.new in
    let some = c.in-Some-Some-Some in
    let low : length new.low ≡ length c.args.list.now = omega (arith, c.split.ensures.low, ap length c.deref_mut.ensures.value, some.ensures) in
    let middle : length new.middle ≡ 2048 + length c.args.list.now = omega (arith, c.split.ensures.middle, ap length c.deref_mut-2.ensures.value, some.ensures') in
    let high : length new.high ≡ length c.args.list.now = omega (arith, c.split.ensures.high, ap length c.deref_mut-3.ensures.value, some.ensures'') in
    let behind = behind_length new.middle (length c.args.list.now) middle in
    from_planes_written some.low some.middle some.high new.low new.middle new.high
    (omega (arith, low, some.ensures, some.low.ok.0)) (omega (arith, middle, some.ensures', some.middle.ok.0)) (omega (arith, high, some.ensures'', some.high.ok.0))
    ∙ from_planes_is new.low (drop 2048 new.middle) new.high
    (low ∙ sym behind) (omega (arith, low, high)) c.args.list.now (omega (arith, low))
    (λ k less.
    ap (λ n. with_above (slice_index new.low k) (with_above n (slice_index new.high k))) (get_or-drop 2048 new.middle k 0)
    ∙ c.split.ensures.bytes c.if-split.true k (omega (arith, low)))
